-- How many numbers below a bound pass a test.
use Rattle.std.proofs.Common.{◌≡◌, ℕ, zero, suc, ◌<◌, ◌≤◌, ◌+◌, Bool, true, false, cond, refl, subst, inl, inr, arith}
use Rattle.std.specs.Prelude.{IsTrue}
use Rattle.std.proofs.lemmas.Bool.{cases_eq, false≢true}

abbrev one_for : Bool → ℕ
one_for b = cond b 1 0

abbrev pub count : (ℕ → Bool) → ℕ → ℕ
count test zero = 0
count test (suc n) = count test n + one_for (test n)

one_more : (a b : Bool) → (IsTrue a → IsTrue b) → one_for a ≤ one_for b
one_more true true more = omega arith
one_more true false more = absurd (false≢true (more refl))
one_more false true more = omega arith
one_more false false more = omega arith

fewer : (f g : ℕ → Bool) (n : ℕ) → ((k : ℕ) → k < n → IsTrue (f k) → IsTrue (g k)) → count f n ≤ count g n
fewer f g zero more = omega arith
fewer f g (suc n) more =
    let rest : count f n ≤ count g n = fewer f g n (λ k less. more k (omega (arith, less))) in
    let last : one_for (f n) ≤ one_for (g n) = one_more (f n) (g n) (more n (omega arith)) in
    omega (arith, rest, last)

-- one of them passes the greater test alone
pub strictly_fewer : (f g : ℕ → Bool) (n k : ℕ) → ((k : ℕ) → k < n → IsTrue (f k) → IsTrue (g k)) → k < n → f k ≡ false → IsTrue (g k) → count f n < count g n
strictly_fewer f g zero k more within lacks has = absurd (omega (arith, within))
strictly_fewer f g (suc n) k more within lacks has = elim (cases_eq k n) [
  | inl same ↦
      let rest : count f n ≤ count g n = fewer f g n (λ i less. more i (omega (arith, less))) in
      let none : f n ≡ false = subst (λ i. f i ≡ false) same lacks in
      let one : g n ≡ true = subst (λ i. g i ≡ true) same has in
      rw (none, one) (omega (arith, rest))
  | inr differ ↦
      let rest : count f n < count g n = strictly_fewer f g n k (λ i less. more i (omega (arith, less))) (omega (arith, within, differ)) lacks has in
      let last : one_for (f n) ≤ one_for (g n) = one_more (f n) (g n) (more n (omega arith)) in
      omega (arith, rest, last)
]
