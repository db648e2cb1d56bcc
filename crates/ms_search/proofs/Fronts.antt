-- The front of a trail up to a level.
use Rattle.std.proofs.Common.{ℕ, ◌≡◌, ◌<◌, ◌≤◌, inl, inr, zero, suc, List, [], ◌∷◌, ◌++◌, length, get_or, take, nat_le, refl, sym, ◌∙◌, ap, subst, arith}
use Rattle.std.proofs.lemmas.Bool.{cases_Bool, cond-true, cond-false, le-leb, leb-false, leb-true, lt-leb}
use Rattle.std.proofs.lemmas.List.{append-nil, length-append, take-append-le}
use Rattle.std.proofs.lemmas.List.Elements.{filter-append}
use Rattle.std.proofs.Math.ListN.{get_or-append}
use Rattle.ms_lits.specs.declared.trail.Entry.{Entry}
use Rattle.ms_lits.specs.Assignment.{up_to}

-- levels rise along the entries
abbrev pub Rise : List Entry → Type 0
Rise es = (i k : ℕ) (d : Entry) → i ≤ k → k < length es → (get_or es i d).level ≤ (get_or es k d).level

rise_behind : (e : Entry) (es : List Entry) → Rise (e ∷ es) → Rise es
rise_behind e es up i k d le lt = up (suc i) (suc k) d (omega arith) (omega arith)

-- entries above a level
pub up_to_none : (es : List Entry) (level : ℕ) → ((i : ℕ) (d : Entry) → i < length es → level < (get_or es i d).level) → up_to level es ≡ []
up_to_none [] level above = refl
up_to_none (e ∷ es) level above =
    cond-false (nat_le e.level level) (e ∷ up_to level es) (up_to level es) (lt-leb e.level level (above 0 e (omega arith)))
    ∙ up_to_none es level (λ i d lt. above (suc i) d (omega arith))

-- entries that aren't
pub up_to_all : (es : List Entry) (level : ℕ) → ((i : ℕ) (d : Entry) → i < length es → (get_or es i d).level ≤ level) → up_to level es ≡ es
up_to_all [] level low = refl
up_to_all (e ∷ es) level low = elim (cases_Bool (nat_le e.level level)) [
  | inl is ↦ cond-true (nat_le e.level level) (e ∷ up_to level es) (up_to level es) is ∙ ap (λ (xs : List Entry). e ∷ xs) (up_to_all es level (λ i d lt. low (suc i) d (omega arith)))
  | inr isnt ↦ (let high = leb-false e.level level isnt in let under = low 0 e (omega arith) in absurd (omega (arith, high, under)))
]

-- The entries are those of the front, and then the rest.
pub record IsFrontOf (es front : List Entry) : Type 0 where
  pub rest : List Entry
  pub is : es ≡ front ++ rest

front_more : (e : Entry) (es front : List Entry) → IsFrontOf es front → IsFrontOf (e ∷ es) (e ∷ front)
front_more e es front f = record { rest = f.rest; is = ap (λ (xs : List Entry). e ∷ xs) f.is }

pub up_to_front : (es : List Entry) (level : ℕ) → Rise es → IsFrontOf es (up_to level es)
up_to_front [] level up = record { rest = []; is = refl }
up_to_front (e ∷ es) level up = elim (cases_Bool (nat_le e.level level)) [
  | inl is ↦ subst (IsFrontOf (e ∷ es)) (sym (cond-true (nat_le e.level level) (e ∷ up_to level es) (up_to level es) is)) (front_more e es (up_to level es) (up_to_front es level (rise_behind e es up)))
  | inr isnt ↦ (
      let none = up_to_none (e ∷ es) level (λ i d lt. let high = leb-false e.level level isnt in let rise = up 0 i d (omega arith) lt in omega (arith, high, rise)) in
      subst (IsFrontOf (e ∷ es)) (sym none) (record { rest = e ∷ es; is = refl }))
]

module _ (es front : List Entry) (f : IsFrontOf es front) where
  pub front_length : length front ≤ length es
  front_length = omega (arith, ap length f.is, length-append front f.rest)

  pub front_at : (i : ℕ) (d : Entry) → i < length front → get_or es i d ≡ get_or front i d
  front_at i d lt = ap (λ (xs : List Entry). get_or xs i d) f.is ∙ get_or-append front f.rest d i lt

  pub front_taken : (i : ℕ) → i ≤ length front → take i es ≡ take i front
  front_taken i le = ap (take i) f.is ∙ take-append-le i front f.rest le

low_kept : (e : Entry) (front : List Entry) (level i : ℕ) (d : Entry) → e.level ≤ level → ((k : ℕ) → k < length front → (get_or front k d).level ≤ level) → i < length (e ∷ front) → (get_or (e ∷ front) i d).level ≤ level
low_kept e front level zero d low rest lt = low
low_kept e front level (suc i) d low rest lt = rest i (omega arith)

-- the entries of a front up to a level are of at most that level
pub up_to_low : (es : List Entry) (level i : ℕ) (d : Entry) → i < length (up_to level es) → (get_or (up_to level es) i d).level ≤ level
up_to_low [] level i d lt = absurd (omega (arith, lt))
up_to_low (e ∷ es) level i d lt = elim (cases_Bool (nat_le e.level level)) [
  | inl is ↦ (
      let whole = cond-true (nat_le e.level level) (e ∷ up_to level es) (up_to level es) is in
      let there : i < length (e ∷ up_to level es) = subst (λ (xs : List Entry). i < length xs) whole lt in
      subst (λ (xs : List Entry). (get_or xs i d).level ≤ level) (sym whole) (low_kept e (up_to level es) level i d (leb-true e.level level is) (λ k inside. up_to_low es level k d inside) there))
  | inr isnt ↦ (
      let whole = cond-false (nat_le e.level level) (e ∷ up_to level es) (up_to level es) isnt in
      let there : i < length (up_to level es) = subst (λ (xs : List Entry). i < length xs) whole lt in
      subst (λ (xs : List Entry). (get_or xs i d).level ≤ level) (sym whole) (up_to_low es level i d there))
]

-- an entry of at most that level is in the front
pub up_to_has : (es : List Entry) (level i : ℕ) (d : Entry) → Rise es → i < length es → (get_or es i d).level ≤ level → i < length (up_to level es)
up_to_has [] level i d up lt low = absurd (omega (arith, lt))
up_to_has (e ∷ es) level zero d up lt low =
    let whole = cond-true (nat_le e.level level) (e ∷ up_to level es) (up_to level es) (le-leb e.level level low) in
    omega (arith, ap length whole)
up_to_has (e ∷ es) level (suc i) d up lt low =
    let first : e.level ≤ level = let rise = up 0 (suc i) d (omega arith) lt in omega (arith, rise, low) in
    let whole = cond-true (nat_le e.level level) (e ∷ up_to level es) (up_to level es) (le-leb e.level level first) in
    let rest = up_to_has es level i d (rise_behind e es up) (omega arith) low in
    omega (arith, ap length whole, rest)

-- what is appended at a greater level changes nothing
pub up_to_appended : (es more : List Entry) (level : ℕ) → ((i : ℕ) (d : Entry) → i < length more → level < (get_or more i d).level) → up_to level (es ++ more) ≡ up_to level es
up_to_appended es more level above =
    filter-append (λ (e : Entry). nat_le e.level level) es more
    ∙ ap (λ (xs : List Entry). up_to level es ++ xs) (up_to_none more level above)
    ∙ append-nil (up_to level es)
