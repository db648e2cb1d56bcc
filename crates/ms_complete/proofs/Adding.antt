-- Nogoods that are added for one element of a list after the other.
use Rattle.std.proofs.Common.{◌≡◌, ◌+◌, ◌<◌, ◌≤◌, ℕ, List, [], ◌∷◌, ◌++◌, take, length, get_or, sym, subst}
use Rattle.std.specs.List.{Any}
use Rattle.std.proofs.lemmas.List.{get_or_default, take_all}
use Rattle.ms_lits.specs.Literals.{Nogood}
use Rattle.ms_nogood.specs.Store.{Store}
use Rattle.ms_complete.specs.Bases.{AddsExactly}
use Rattle.ms_complete.proofs.Lists.{any_here, any_left, any_more_cases, any_none, any_right, next_one}
use Rattle.ms_complete.proofs.Stores.{adds_none, adds_then}

module _ {X : Type 0} (Says : X → Nogood → Type 0) (xs : List X) where
  pub none_added : (store : Store) → AddsExactly store store (λ n. Any (λ x. Says x n) [])
  none_added store = adds_none store (λ n. Any (λ x. Says x n) []) (λ n some. any_none (λ x. Says x n) some)

  pub one_added : (i : ℕ) (x : X) (start mid new : Store) → i < length xs → x ≡ get_or xs i x → AddsExactly start mid (λ n. Any (λ y. Says y n) (take i xs)) → AddsExactly mid new (Says x)
      → AddsExactly start new (λ n. Any (λ y. Says y n) (take (i + 1) xs))
  one_added i x start mid new within is first second =
      subst (λ (ys : List X). AddsExactly start new (λ n. Any (λ y. Says y n) ys)) (sym (next_one xs i x within is))
      (adds_then start mid new (λ n. Any (λ y. Says y n) (take i xs)) (Says x) (λ n. Any (λ y. Says y n) (take i xs ++ x ∷ [])) first second
      (λ n some. any_more_cases (λ y. Says y n) (take i xs) x some)
      (λ n some. any_left (λ y. Says y n) (take i xs) (x ∷ []) some)
      (λ n says. any_right (λ y. Says y n) (take i xs) (x ∷ []) (any_here (λ y. Says y n) x [] says)))

  pub one_added_at : (i : ℕ) (d : X) (start mid new : Store) → i < length xs → AddsExactly start mid (λ n. Any (λ y. Says y n) (take i xs)) → AddsExactly mid new (Says (get_or xs i d))
      → AddsExactly start new (λ n. Any (λ y. Says y n) (take (i + 1) xs))
  one_added_at i d start mid new within first second = one_added i (get_or xs i d) start mid new within (get_or_default xs i d (get_or xs i d) within) first second

  pub all_added : (i : ℕ) (start new : Store) → length xs ≤ i → AddsExactly start new (λ n. Any (λ y. Says y n) (take i xs)) → AddsExactly start new (λ n. Any (λ y. Says y n) xs)
  all_added i start new long adds = subst (λ (ys : List X). AddsExactly start new (λ n. Any (λ y. Says y n) ys)) (take_all i xs long) adds
