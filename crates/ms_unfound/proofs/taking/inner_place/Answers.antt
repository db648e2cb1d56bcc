use Rattle.std.proofs.Common.{◌≡◌, ◌∙◌, List, ℕ, Some, ap, subst, sym}
use Rattle.std.specs.Prelude.{slice_get}
use Rattle.ms_unfound.specs.Members.{IsRising}
use Rattle.ms_unfound.proofs.MemberLaws.{other_component, rising_from}
use Rattle.ms_unfound.proofs.taking.inner_place.Goals as goal

pub place_in-requires : goal.place_in-requires
place_in-requires c = subst IsRising (sym c.as_slice.ensures) (rising_from c.args.members.now.atoms c.requires.rising)

pub returns-else-numbers-place : goal.returns-else-numbers-place
returns-else-numbers-place c =
    other_component c.args.members.now c.as_slice-numbers.result.now c.args.number c.args.a c.in-Some.place c.requires.rising
    (subst (λ (xs : List ℕ). slice_get xs c.in-Some.place ≡ Some c.args.a) c.as_slice.ensures (c.in-Some.ensures ∙ ap Some c.a.view_is))
    c.as_slice-numbers.ensures c.if-numbers-place.false
