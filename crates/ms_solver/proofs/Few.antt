-- Atoms are no more than the things that they are.
use Rattle.std.proofs.Common.{◌≡◌, ◌≢◌, ◌∙◌, ◌<◌, ◌≤◌, ℕ, true, List, Some, eqb, eqb-true, eq-eqb, get_or, length, ap, subst, sym, arith}
use Rattle.std.specs.Prelude.{slice_get}
use Rattle.std.specs.List.{AllPairs, Any, list_any}
use Rattle.std.proofs.lemmas.List.Folds.{Any-from_list_any}
use Rattle.std.proofs.lemmas.Map.Made.{IsDistinct-from_AllPairs}
use Rattle.std.proofs.lemmas.Map.Steps.{length-le_from_distinct_below}
use Rattle.std.proofs.lemmas.Option.{slice_get-get_or, slice_get_within}
use Rattle.ms_join.specs.Things.{Thing}
use Rattle.ms_join.specs.Things.Thing.{atom}
use Rattle.ms_complete.proofs.KeyLaws.{same_atom}
use Rattle.ms_complete.proofs.Lists.{at_some, member_of, same_some}
use Rattle.ms_problem.specs.Numbered.{AreNumbers}

module _ (things : List Thing) (count : ℕ) (numbers : List ℕ) (are : AreNumbers things count numbers) where
  apart : AllPairs (λ (x y : ℕ). x ≢ y) numbers
  apart i k d less within same =
      let one : slice_get numbers i ≡ Some (get_or numbers i d) = slice_get-get_or numbers i d (omega (arith, less, within)) in
      let two : slice_get numbers k ≡ Some (get_or numbers k d) = slice_get-get_or numbers k d within in
      let atoms : atom i ≡ atom k = same_some (atom i) (atom k) (sym (are.each i (get_or numbers i d) one) ∙ (ap (slice_get things) same ∙ are.each k (get_or numbers k d) two)) in
      let equal : i ≡ k = same_atom i k atoms in
      omega (arith, less, equal)

  below : (q : ℕ) → list_any (eqb q) numbers ≡ true → q < length things
  below q is =
      let some : Any (λ (n : ℕ). eqb q n ≡ true) numbers = Any-from_list_any (eqb q) numbers is in
      let at = at_some numbers some.1 (member_of (λ (n : ℕ). eqb q n ≡ true) numbers some) in
      subst (λ (n : ℕ). n < length things) (sym (eqb-true q some.1 some.4)) (slice_get_within things some.1 (atom at.0) (are.each at.0 some.1 at.1))

  -- no more atoms than things
  pub numbers_few : length numbers ≤ length things
  numbers_few = length-le_from_distinct_below numbers (length things) (IsDistinct-from_AllPairs (λ a b. (eqb-true a b, eq-eqb a b)) numbers apart) below
