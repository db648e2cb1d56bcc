use Rattle.std.proofs.Common.{map}
use Rattle.std.proofs.lemmas.List.Sorted.{All-permutation, IsPermutation-map}
use Rattle.ms_term.specs.Terms.{term_at}
use Rattle.ms_machine.specs.Listing.{IsShownList}
use Rattle.ms_machine.specs.Machine.{shows_atom}
use Rattle.ms_show.specs.ShownLists.{AreIn, IsShownOf}
use Rattle.ms_show.proofs.ListOrder.{AllZip-map, All-from_zip}
use Rattle.ms_show.proofs.shown.listing.Goals as goal

pub returns-clause-listing : goal.returns-clause-listing
returns-clause-listing c =
    let table = c.args.terms.now in
    let shows = shows_atom c.args.parts.now in
    let base = c.args.base.now in
    let lists = c.in_ok-lists.lists.items in
    record {
      lists = map (map (term_at table)) lists;
      shown = AllZip-map (map (term_at table)) (IsShownOf table shows base) (IsShownList shows (map (term_at table) base)) (λ set shown s. s.list) c.args.sets.now lists c.in_ok-lists.ensures;
      same = IsPermutation-map (map (term_at table)) lists c.in_list_order.result c.in_list_order.ensures.same;
      ordered = c.in_list_order.ensures.ordered;
    }

pub returns-clause-named : goal.returns-clause-named
returns-clause-named c =
    let table = c.args.terms.now in
    let lists = c.in_ok-lists.lists.items in
    All-permutation (AreIn table) lists c.in_list_order.result c.in_list_order.ensures.same
    (All-from_zip (IsShownOf table (shows_atom c.args.parts.now) c.args.base.now) (AreIn table) (λ set shown s. s.within) c.args.sets.now lists c.in_ok-lists.ensures)
