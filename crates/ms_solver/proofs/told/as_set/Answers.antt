use Rattle.std.proofs.Common.{◌≡◌, ◌∙◌, ◌+◌, ◌<◌, ℕ, List, Some, get_or, length, rules, subst, sym, refl}
use Rattle.std.specs.Prelude.{slice_get}
use Rattle.std.proofs.lemmas.Bool.{false≢true}
use Rattle.ms_solver.proofs.Listing.{IsListing, listing_here, listing_past}
use Rattle.ms_solver.proofs.told.as_set.Goals as goal
use Rattle.ms_solver.proofs.told.as_set.Goals.{then-is_at+in_ok-push, else-is_at}

pub loop-a-preserved : goal.loop-a-preserved
loop-a-preserved c =
    let numbers : List ℕ = c.args.numbers.now in
    let picked : List ℕ = c.args.picked.now in
    let Next : List ℕ → Type 0 = λ set. IsListing picked numbers set (c.loop-a.a + 1) in
    let within : c.loop-a.a < length numbers = search rules in
    let number : ℕ = get_or numbers c.loop-a.a 0 in
    elim c.if-is_at.branch [
      | then-is_at+in_ok-push w ↦ subst Next (sym (w.set-is ∙ w.in_ok-push.ensures.ok))
          (listing_here picked numbers c.loop-a.set c.loop-a.a 0 number within refl c.loop-a.invariant
          (subst (λ (k : ℕ). slice_get picked k ≡ Some number) c.len.ensures (c.is_at.ensures.0 w.if-is_at.true)))
      | else-is_at w ↦ subst Next (sym w.set-is)
          (listing_past picked numbers c.loop-a.set c.loop-a.a 0 number within refl c.loop-a.invariant
          (λ at. false≢true (sym w.if-is_at.false ∙ c.is_at.ensures.1 (subst (λ (k : ℕ). slice_get picked k ≡ Some number) (sym c.len.ensures) at))))
    ]
