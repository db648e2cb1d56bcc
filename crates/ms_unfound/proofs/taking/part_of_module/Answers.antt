use Rattle.std.proofs.Common.{List, subst, sym}
use Rattle.std.specs.List.{All, Contains}
use Rattle.std.proofs.lemmas.List.Elements.{All-contains}
use Rattle.ms_complete.proofs.Lists.{all_from, at_some}
use Rattle.ms_join.specs.declared.ground_rule.GroundRule.{GroundRule}
use Rattle.ms_join.specs.Things.{body_of}
use Rattle.ms_join.specs.Things.Thing.{atom, body}
use Rattle.ms_unfound.proofs.taking.part_of_module.Goals as goal

pub part_of-requires-clause-atoms : goal.part_of-requires-clause-atoms
part_of-requires-clause-atoms c =
    let things = c.args.c.now.things in
    let members = c.in_ok-members.members in
    all_from (λ a. Contains things (atom a)) members.atoms (λ a there.
    let at = at_some members.atoms a there in
    All-contains (λ b. Contains things (atom b)) c.args.m.now.heads a c.requires.heads (c.in_ok-members.ensures.selected.among at.0 a at.1))

pub part_of-requires-clause-bodies : goal.part_of-requires-clause-bodies
part_of-requires-clause-bodies c =
    subst (λ (rs : List GroundRule). All (λ rule. Contains c.args.c.now.things (body (body_of rule))) rs) (sym c.as_slice.ensures) c.requires.bodies
