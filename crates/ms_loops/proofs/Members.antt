-- Members of lists.
use Rattle.std.proofs.Common.{◌≡◌, ◌∙◌, ℕ, zero, suc, Bool, List, [], ◌∷◌, ◌++◌, Some, length, map, refl, sym, subst, inl, inr, arith}
use Rattle.std.specs.Prelude.{IsTrue, slice_get}
use Rattle.std.specs.List.{All, AllPairs, Any, Contains, filter}
use Rattle.std.proofs.lemmas.Bool.{cases_Bool, cond-true, cond-false, false≢true}
use Rattle.std.proofs.lemmas.List.Elements.{All-cons, All-head, All-nil, All-tail}
use Rattle.std.proofs.lemmas.Option.{get_or_from_slice_get, slice_get_within, slice_get_read}

module _ {X : Type 0} (P : X → Type 0) where
  pub any_at : (xs : List X) (x : X) → Contains xs x → P x → Any P xs
  any_at xs x there is = (there.0, x, there.1, there.2, is)

  pub any_here : (x : X) (xs : List X) → P x → Any P (x ∷ xs)
  any_here x xs is = (zero, x, omega arith, refl, is)

  pub any_later : (x : X) (xs : List X) → Any P xs → Any P (x ∷ xs)
  any_later x xs (k, y, within, at, is) = (suc k, y, omega (arith, within), at, is)

  -- what holds of each that passes a test
  pub all_passing : (test : X → Bool) (xs : List X) → All P (filter test xs) → All (λ x. IsTrue (test x) → P x) xs
  all_passing test [] all = All-nil (λ x. IsTrue (test x) → P x)
  all_passing test (x ∷ xs) all = elim (cases_Bool (test x)) as (λ _. All (λ y. IsTrue (test y) → P y) (x ∷ xs)) [
    | inl passes ↦
        let kept : All P (x ∷ filter test xs) = subst (All P) (cond-true (test x) (x ∷ filter test xs) (filter test xs) passes) all in
        All-cons (λ y. IsTrue (test y) → P y) x xs (λ _. All-head P x (filter test xs) kept) (all_passing test xs (All-tail P x (filter test xs) kept))
    | inr fails ↦
        All-cons (λ y. IsTrue (test y) → P y) x xs (λ passes. absurd (false≢true (sym fails ∙ passes)))
        (all_passing test xs (subst (All P) (cond-false (test x) (x ∷ filter test xs) (filter test xs) fails) all))
  ]

  pub all_kept : (test : X → Bool) (xs : List X) → All (λ x. IsTrue (test x) → P x) xs → All P (filter test xs)
  all_kept test [] all = All-nil P
  all_kept test (x ∷ xs) all =
      let rest = all_kept test xs (All-tail (λ y. IsTrue (test y) → P y) x xs all) in
      elim (cases_Bool (test x)) as (λ _. All P (filter test (x ∷ xs))) [
        | inl passes ↦
            subst (All P) (sym (cond-true (test x) (x ∷ filter test xs) (filter test xs) passes))
            (All-cons P x (filter test xs) (All-head (λ y. IsTrue (test y) → P y) x xs all passes) rest)
        | inr fails ↦ subst (All P) (sym (cond-false (test x) (x ∷ filter test xs) (filter test xs) fails)) rest
      ]

-- the place of a member
pub place_of : {X : Type 0} (xs : List X) (x : X) → Contains xs x → (k : ℕ) × (slice_get xs k ≡ Some x)
place_of xs x (k, within, at) = (k, slice_get_read xs (length xs) k x refl within (sym at))

pub member_at : {X : Type 0} (xs : List X) (x : X) (k : ℕ) → slice_get xs k ≡ Some x → Contains xs x
member_at xs x k at = (k, slice_get_within xs k x at, get_or_from_slice_get xs k x x at)

module _ {X : Type 0} (R : X → X → Type 0) where
  pub pairs_nil : AllPairs R []
  pairs_nil i k d less within = absurd (omega (arith, within))

  pub pairs_head : (x : X) (xs : List X) → AllPairs R (x ∷ xs) → All (R x) xs
  pairs_head x xs pairs k d within = pairs zero (suc k) d (omega arith) (omega (arith, within))

  pub pairs_tail : (x : X) (xs : List X) → AllPairs R (x ∷ xs) → AllPairs R xs
  pairs_tail x xs pairs i k d less within = pairs (suc i) (suc k) d (omega (arith, less)) (omega (arith, within))
