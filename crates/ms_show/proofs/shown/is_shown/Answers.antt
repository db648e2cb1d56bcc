use Rattle.std.proofs.Common.{◌∙◌, ap, length, sym}
use Rattle.ms_tree.specs.Tree.{tree_count}
use Rattle.ms_term.specs.Terms.{term_at}
use Rattle.ms_term.proofs.Orders.{tree_count-terms_at}
use Rattle.ms_show.proofs.ShownLists.{shows_named}
use Rattle.ms_show.proofs.shown.is_shown.Goals as goal

pub returns-in-Some : goal.returns-in-Some
returns-in-Some c =
    let table = c.args.terms.now in
    let arguments = c.args_of.result.now in
    c.shows.ensures ∙ shows_named c.args.parts.now (term_at table c.args.atom) c.in-Some.name.now (length arguments) c.in-Some.ensures (sym (tree_count-terms_at table arguments) ∙ ap tree_count c.args_of.ensures.arguments)
