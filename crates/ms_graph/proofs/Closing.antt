-- Nodes become closed.
use Rattle.std.proofs.Common.{◌≡◌, ◌+◌, ◌-◌, ◌<◌, ◌≤◌, ◌⊎◌, ℕ, zero, suc, cond, List, [], ◌∷◌, inl, inr, length, get_or, set, drop, refl, sym, ◌∙◌, ap, arith}
use Rattle.std.specs.List.{Contains}
use Rattle.std.proofs.lemmas.Bool.{cases_eq}
use Rattle.std.proofs.lemmas.List.{get_or-drop, get_or_default, get_or-set_other, get_or-set_same, length-drop, length-set}
use Rattle.std.proofs.lemmas.List.Sums.{sum_by-set}
use Rattle.ms_graph.specs.declared.stage.Stage.{Stage}
use Rattle.ms_graph.specs.declared.stage.Stage.TheVariants.{New, Closed}
use Rattle.ms_graph.specs.Stages.{stage_of, is_new, new_count, numbered}
use Rattle.ms_graph.proofs.Lists.{contains_later}

contains_cons_cases : (a : ℕ) (xs : List ℕ) (b : ℕ) → Contains (a ∷ xs) b → (b ≡ a) ⊎ Contains xs b
contains_cons_cases a xs b (zero, lt, is) = inl (sym is)
contains_cons_cases a xs b (suc k, lt, is) = inr (k, omega (arith, lt), is)

contains_first : (a : ℕ) (xs : List ℕ) (b : ℕ) → b ≡ a → Contains (a ∷ xs) b
contains_first a xs b same = (zero, omega arith, sym same)

pub length-numbered : (stages : List Stage) (nodes : List ℕ) (number : ℕ) → length (numbered stages nodes number) ≡ length stages
length-numbered stages [] number = refl
length-numbered stages (a ∷ nodes) number =
    length-numbered (set stages a (Closed number)) nodes number ∙ length-set stages a (Closed number)

-- A node is among those that become closed, or keeps its stage.
pub numbered_cases : (stages : List Stage) (nodes : List ℕ) (number b : ℕ) → ((a : ℕ) → Contains nodes a → a < length stages) → (Contains nodes b × (stage_of (numbered stages nodes number) b ≡ Closed number)) ⊎ ((Contains nodes b → ⊥) × (stage_of (numbered stages nodes number) b ≡ stage_of stages b))
numbered_cases stages [] number b inside = inr ((λ c. let lt = c.1 in omega (arith, lt)), refl)
numbered_cases stages (a ∷ nodes) number b inside =
    let after = set stages a (Closed number) in
    let here : a < length stages = inside a (contains_first a nodes a refl) in
    elim (numbered_cases after nodes number b (λ x c. let lt = inside x (contains_later a nodes x c) in let len = length-set stages a (Closed number) in omega (arith, lt, len))) [
      | inl among ↦ inl (contains_later a nodes b among.0, among.1)
      | inr apart ↦ elim (cases_eq b a) [
        | inl same ↦ inl (contains_first a nodes b same, apart.1 ∙ ap (λ (x : ℕ). stage_of after x) same ∙ get_or-set_same stages a (Closed number) New here)
        | inr differs ↦ inr (
          (λ c. elim (contains_cons_cases a nodes b c) [ inl same ↦ differs same | inr later ↦ apart.0 later ]),
          apart.1 ∙ get_or-set_other stages a b (Closed number) New differs,
        )
      ]
    ]

pub new_count-numbered : (stages : List Stage) (nodes : List ℕ) (number : ℕ) → ((a : ℕ) → Contains nodes a → a < length stages) → new_count (numbered stages nodes number) ≤ new_count stages
new_count-numbered stages [] number inside = omega arith
new_count-numbered stages (a ∷ nodes) number inside =
    let weight : Stage → ℕ = λ x. cond (is_new x) 1 0 in
    let here : a < length stages = inside a (contains_first a nodes a refl) in
    let sums = sum_by-set weight stages a (Closed number) New here in
    let rest = new_count-numbered (set stages a (Closed number)) nodes number (λ x c. let lt = inside x (contains_later a nodes x c) in let len = length-set stages a (Closed number) in omega (arith, lt, len)) in
    omega (arith, sums, rest)

-- the place from which an element of the end of a list comes
pub record IsFrom (place : ℕ) (xs : List ℕ) (x : ℕ) : Type 0 where
  pub at : ℕ
  pub after : place ≤ at
  pub within : at < length xs
  pub is : get_or xs at 0 ≡ x

pub from_drop : (place : ℕ) (xs : List ℕ) (x : ℕ) → Contains (drop place xs) x → IsFrom place xs x
from_drop place xs x c =
    let len = length-drop place xs in
    let lt = c.1 in
    let within : place + c.0 < length xs = omega (arith, len, lt) in
    record {
      at = place + c.0;
      after = omega arith;
      within = within;
      is = get_or_default xs (place + c.0) 0 x within ∙ sym (get_or-drop place xs c.0 x) ∙ c.2;
    }

pub in_drop : (place : ℕ) (xs : List ℕ) (at : ℕ) → place ≤ at → at < length xs → Contains (drop place xs) (get_or xs at 0)
in_drop place xs at after within =
    let len = length-drop place xs in
    let x = get_or xs at 0 in
    let back : place + (at - place) ≡ at = omega (arith, after) in
    (at - place, omega (arith, len, after, within), get_or-drop place xs (at - place) x ∙ ap (λ (i : ℕ). get_or xs i x) back ∙ get_or_default xs at x 0 within)
