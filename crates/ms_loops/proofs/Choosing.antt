-- A table of answers may be assumed where what follows from it is false.
use Rattle.std.proofs.Common.{ℕ, zero, suc, ◌<◌, Bool, true, false, cond, ◌==◌, refl, sym, subst, inl, inr, arith}
use Rattle.std.specs.Prelude.{◌↔◌, IsTrue}
use Rattle.std.proofs.lemmas.Bool.{cases_eq, cond-true, cond-false, eq-eqb, ne_eqb, false≢true}

-- Something not impossible for each number below n is chosen for all of them at once.
chosen : {X : Type 0} (d : X) (P : ℕ → X → Type 0) (n : ℕ) → ((k : ℕ) → k < n → ¬ (¬ ((x : X) × P k x))) → ¬ (¬ ((t : ℕ → X) × ((k : ℕ) → k < n → P k (t k))))
chosen d P zero each none = none (λ k. d, λ k less. absurd (omega (arith, less)))
chosen {X} d P (suc n) each none =
    chosen d P n (λ k less. each k (omega (arith, less))) (λ (t, holds).
    each n (omega arith) (λ (x, is).
    none (
      λ k. cond (k == n) x (t k),
      λ k less.
          elim (cases_eq k n) as (λ _. P k (cond (k == n) x (t k))) [
            | inl same ↦ subst (P k) (sym (cond-true (k == n) x (t k) (eq-eqb k n same))) (subst (λ m. P m x) (sym same) is)
            | inr differ ↦ subst (P k) (sym (cond-false (k == n) x (t k) (ne_eqb k n differ))) (holds k (omega (arith, less, differ)))
          ],
    )))

decided : (P : Type 0) → ¬ (¬ ((b : Bool) × (IsTrue b ↔ P)))
decided P none = none (false, (λ is. absurd (false≢true is), λ p. absurd (none (true, (λ is. p, λ q. refl)))))

-- A test that decides a relation below n.
pub record Table (n : ℕ) (R : ℕ → ℕ → Type 0) : Type 0 where
  pub test : ℕ → ℕ → Bool
  pub decides : (a b : ℕ) → a < n → b < n → IsTrue (test a b) ↔ R a b

pub assume_table : (n : ℕ) (R : ℕ → ℕ → Type 0) → ¬ (¬ Table n R)
assume_table n R none =
    chosen (λ (b : ℕ). false) (λ a row. (b : ℕ) → b < n → IsTrue (row b) ↔ R a b) n
    (λ a less. chosen false (λ b x. IsTrue x ↔ R a b) n (λ b within. decided (R a b)))
    (λ (t, holds). none (record { test = t; decides = λ a b less within. holds a less b within }))
