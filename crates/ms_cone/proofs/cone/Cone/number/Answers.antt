use Rattle.std.proofs.Common.{◌≡◌, ℕ, List, Some, slice_get, get_or, sym, ap, subst, ◌∙◌}
use Rattle.ms_cone.specs.Cones.{Numbered, number_of}
use Rattle.ms_cone.proofs.Members.{number_at}
use Rattle.ms_cone.proofs.cone.Cone.number.Goals as goal

pub returns-clause-of_member : goal.returns-clause-of_member
returns-clause-of_member c a at =
    let place = c.args.place in
    let number = get_or c.as_slice.result.now place 0 in
    let seen : Numbered = record { members = c.self.inside.members.keys; numbers = c.self.inside.numbers } in
    let stands = λ (there : slice_get seen.members place ≡ Some a). number_at seen place a c.self.invariant there ∙ ap (λ (xs : List ℕ). Some (get_or xs place 0)) (sym c.as_slice.ensures) in
    subst (λ (v : Numbered). slice_get v.members place ≡ Some a → number_of v a ≡ Some number) c.self.view_is stands at
