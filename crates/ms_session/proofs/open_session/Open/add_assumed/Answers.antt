use Rattle.std.proofs.Common.{◌≡◌, ◌∙◌, ◌+◌, List, All, Bool, ap, subst, sym, take, true}
use Rattle.std.specs.Prelude.{◌↔◌}
use Rattle.std.proofs.lemmas.List.{take_all}
use Rattle.ms_call.specs.declared.command.Assumption.{Assumption}
use Rattle.ms_join.specs.declared.assumption.AtomLit.{AtomLit}
use Rattle.ms_solving.specs.Listing.{tree_of_value}
use Rattle.ms_session.specs.Assuming.{AddsAssumed, IsImpossibleFor, IsKnown}
use Rattle.ms_session.specs.Opened.{names_of}
use Rattle.ms_session.proofs.Gathering.{impossible_unknown, known_added, known_more, no_number, or_left, or_second, possible_known, some_number, unknown_skipped}
use Rattle.ms_session.proofs.open_session.Open.add_assumed.Goals as goal
use Rattle.ms_session.proofs.open_session.Open.add_assumed.Goals.{in-Some+in_ok-push-in-Some, in-None+then-impossible, in-None+else-impossible}

pub loop-given-preserved : goal.loop-given-preserved
loop-given-preserved c =
    let names = names_of c.args.self.now in
    let assume = c.args.assume.now in
    let i = c.loop-given.given-index in
    let given = c.given-item.result in
    let within = c.loop-given-test.true in
    let at = c.given-item.is in
    let so_far = c.loop-given.invariant in
    let impossible = c.loop-given.impossible in
    let number = c.in_ok-atom.field-0 in
    let found = c.in_ok-atom.ensures in
    let old = c.args.lits.now.items in
    let known = known_more names assume i given within at number found so_far.known in
    elim c.match-branch-2.branch [
      | in-Some+in_ok-push-in-Some w ↦
          let atom = some_number names (tree_of_value given.atom) number w.in-Some.atom w.in-Some.is found in
          record {
            adds = subst (λ (lits : List AtomLit). AddsAssumed names (take (i + 1) assume) old lits) (sym (ap (λ v. v.items) w.lits-is ∙ w.in_ok-push-in-Some.ensures.items))
                (known_added names assume i given within at w.in-Some.atom atom old c.loop-given.lits.items so_far.adds);
            impossible = subst (λ (b : Bool). (b ≡ true) ↔ IsImpossibleFor names (take (i + 1) assume)) (sym w.impossible-is)
                (possible_known names assume i given within at w.in-Some.atom atom impossible so_far.impossible);
            known = known;
          }
      | in-None+then-impossible w ↦
          let missing = no_number names (tree_of_value given.atom) number w.in-None.is found in
          record {
            adds = subst (λ (lits : List AtomLit). AddsAssumed names (take (i + 1) assume) old lits) (sym (ap (λ v. v.items) w.lits-is))
                (unknown_skipped names assume i given within at missing old c.loop-given.lits.items so_far.adds);
            impossible = subst (λ (b : Bool). (b ≡ true) ↔ IsImpossibleFor names (take (i + 1) assume)) (sym (w.impossible-is ∙ w.if-impossible.true ∙ sym (or_left impossible given.truth w.if-impossible.true)))
                (impossible_unknown names assume i given within at missing impossible so_far.impossible);
            known = known;
          }
      | in-None+else-impossible w ↦
          let missing = no_number names (tree_of_value given.atom) number w.in-None.is found in
          record {
            adds = subst (λ (lits : List AtomLit). AddsAssumed names (take (i + 1) assume) old lits) (sym (ap (λ v. v.items) w.lits-is))
                (unknown_skipped names assume i given within at missing old c.loop-given.lits.items so_far.adds);
            impossible = subst (λ (b : Bool). (b ≡ true) ↔ IsImpossibleFor names (take (i + 1) assume)) (sym (w.impossible-is ∙ sym (or_second impossible given.truth w.if-impossible.false)))
                (impossible_unknown names assume i given within at missing impossible so_far.impossible);
            known = known;
          }
    ]

pub returns-clause-adds : goal.returns-clause-adds
returns-clause-adds c =
    subst (λ (assume : List Assumption). AddsAssumed (names_of c.args.self.now) assume c.args.lits.now.items c.loop-given.lits.items)
    (take_all c.loop-given.given-index c.args.assume.now c.loop-given-test.false) c.loop-given.invariant.adds

pub returns-clause-impossible : goal.returns-clause-impossible
returns-clause-impossible c =
    subst (λ (assume : List Assumption). (c.loop-given.impossible ≡ true) ↔ IsImpossibleFor (names_of c.args.self.now) assume)
    (take_all c.loop-given.given-index c.args.assume.now c.loop-given-test.false) c.loop-given.invariant.impossible

pub returns-clause-known : goal.returns-clause-known
returns-clause-known c =
    subst (λ (assume : List Assumption). All (IsKnown (names_of c.args.self.now)) assume)
    (take_all c.loop-given.given-index c.args.assume.now c.loop-given-test.false) c.loop-given.invariant.known
