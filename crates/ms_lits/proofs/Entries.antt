-- The entry of a variable, found by its place.
use Rattle.std.proofs.Common.{ℕ, ◌≡◌, ◌<◌, inl, inr, zero, suc, List, [], ◌∷◌, Some, None, false, length, get_or, nat_eq, refl, sym, ◌∙◌, ap, arith, eq-eqb}
use Rattle.std.proofs.lemmas.Bool.{ne_eqb, cases_eq, cond-true, cond-false}
use Rattle.ms_lits.specs.declared.trail.Entry.{Entry}
use Rattle.ms_lits.specs.Assignment.{entry_of, place_in}

pub some_entry : Entry
some_entry = record { lit = record { var = 0; truth = false }; level = 0; reason = None }

pub entry_here : (e : Entry) (es : List Entry) (var : ℕ) → e.lit.var ≡ var → entry_of (e ∷ es) var ≡ Some e
entry_here e es var same = cond-true (nat_eq e.lit.var var) (Some e) (entry_of es var) (eq-eqb e.lit.var var same)

pub entry_behind : (e : Entry) (es : List Entry) (var : ℕ) → (e.lit.var ≡ var → ⊥) → entry_of (e ∷ es) var ≡ entry_of es var
entry_behind e es var other = cond-false (nat_eq e.lit.var var) (Some e) (entry_of es var) (ne_eqb e.lit.var var other)

-- where an entry of the variable stands in one place alone, it is the variable's
pub entry_first : (es : List Entry) (var place : ℕ) (d : Entry) → place < length es → (get_or es place d).lit.var ≡ var → ((i : ℕ) → i < length es → (get_or es i d).lit.var ≡ var → i ≡ place) → entry_of es var ≡ Some (get_or es place d)
entry_first [] var place d below same once = absurd (omega arith)
entry_first (e ∷ es) var zero d below same once = entry_here e es var same
entry_first (e ∷ es) var (suc place) d below same once =
    entry_behind e es var (λ here. let k : 0 ≡ suc place = once 0 (omega arith) here in absurd (omega arith))
    ∙ entry_first es var place d (omega arith) same (λ i lt here. let k : suc i ≡ suc place = once (suc i) (omega arith) here in omega arith)

-- and its place is that place
pub place_first : (es : List Entry) (var place : ℕ) (d : Entry) → place < length es → (get_or es place d).lit.var ≡ var → ((i : ℕ) → i < length es → (get_or es i d).lit.var ≡ var → i ≡ place) → place_in es var ≡ place
place_first [] var place d below same once = absurd (omega arith)
place_first (e ∷ es) var zero d below same once = cond-true (nat_eq e.lit.var var) 0 (suc (place_in es var)) (eq-eqb e.lit.var var same)
place_first (e ∷ es) var (suc place) d below same once =
    cond-false (nat_eq e.lit.var var) 0 (suc (place_in es var)) (ne_eqb e.lit.var var (λ here. let k : 0 ≡ suc place = once 0 (omega arith) here in absurd (omega arith)))
    ∙ ap suc (place_first es var place d (omega arith) same (λ i lt here. let k : suc i ≡ suc place = once (suc i) (omega arith) here in omega arith))

-- where no entry is of the variable, it has none
pub entry_none : (es : List Entry) (var : ℕ) (d : Entry) → ((i : ℕ) → i < length es → (get_or es i d).lit.var ≡ var → ⊥) → entry_of es var ≡ None
entry_none [] var d absent = refl
entry_none (e ∷ es) var d absent =
    entry_behind e es var (λ here. absent 0 (omega arith) here)
    ∙ entry_none es var d (λ i lt here. absent (suc i) (omega arith) here)

-- and the other way round
pub none_at : (es : List Entry) (var i : ℕ) (d : Entry) → entry_of es var ≡ None → i < length es → (get_or es i d).lit.var ≡ var → ⊥
none_at [] var i d absent below same = absurd (omega arith)
none_at (e ∷ es) var zero d absent below same = let h = entry_here e es var same in cc
none_at (e ∷ es) var (suc i) d absent below same =
    elim (cases_eq e.lit.var var) [
      | inl here ↦ (let h = entry_here e es var here in cc)
      | inr other ↦ none_at es var i d (sym (entry_behind e es var other) ∙ absent) (omega arith) same
    ]
