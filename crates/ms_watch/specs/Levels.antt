-- The entries up to a level.
use Rattle.std.proofs.Common.{ℕ, ◌≡◌, ◌<◌, ◌≤◌, inl, inr, suc, Bool, true, false, List, [], ◌∷◌, Option, Some, None, option_map, length, get_or, sym, ◌∙◌, ap, subst, arith, refl}
use Rattle.std.specs.Prelude.{nat_le}
use lib.Dec.{eqb}
use Rattle.std.proofs.lemmas.Bool.{cases_Bool, cases_eq, cases_lt, cond-true, cond-false, eq-eqb, ne_eqb, leb-true, le-leb}
use Rattle.ms_lits.specs.declared.lit.Lit.{Lit}
use Rattle.ms_lits.specs.declared.trail.Entry.{Entry}
use Rattle.ms_lits.specs.Assignment.{Assignment, IsAssignment, HoldsIn, entry_of, value_in, up_to}
use Rattle.ms_lits.proofs.Entries.{some_entry, entry_here, entry_behind, entry_first}

-- the entry of a literal that holds
pub record HasEntry (entries : List Entry) (lit : Lit) : Type 0 where
  pub entry : Entry
  pub found : entry_of entries lit.var ≡ Some entry
  pub truth : entry.lit.truth ≡ lit.truth

entry_found : (found : Option Entry) (truth : Bool) → option_map (λ (e : Entry). e.lit.truth) found ≡ Some truth → (e : Entry) × (found ≡ Some e) × (e.lit.truth ≡ truth)
entry_found None truth is = cc
entry_found (Some e) truth is = (e, refl, cc)

pub holds_entry : (entries : List Entry) (lit : Lit) → HoldsIn entries lit → HasEntry entries lit
holds_entry entries lit holds =
    let f = entry_found (entry_of entries lit.var) lit.truth holds in
    record { entry = f.0; found = f.1; truth = f.2 }

some_same : (x y : Entry) → Some x ≡ Some y → x ≡ y
some_same x y same = cc

kept_behind : (b : Bool) (level : ℕ) (x : Entry) (xs : List Entry) (var : ℕ) (found : Option Entry) → nat_le x.level level ≡ b → (x.lit.var ≡ var → ⊥) → entry_of (up_to level xs) var ≡ found → entry_of (up_to level (x ∷ xs)) var ≡ found
kept_behind true level x xs var found is other rest =
    ap (λ (es : List Entry). entry_of es var) (cond-true (nat_le x.level level) (x ∷ up_to level xs) (up_to level xs) is)
    ∙ entry_behind x (up_to level xs) var other ∙ rest
kept_behind false level x xs var found is other rest =
    ap (λ (es : List Entry). entry_of es var) (cond-false (nat_le x.level level) (x ∷ up_to level xs) (up_to level xs) is) ∙ rest

-- what was assigned up to a level is among the entries up to it
pub kept_up_to : (level : ℕ) (es : List Entry) (var : ℕ) (e : Entry) → entry_of es var ≡ Some e → e.level ≤ level → entry_of (up_to level es) var ≡ Some e
kept_up_to level [] var e is low = cc
kept_up_to level (x ∷ xs) var e is low = elim (cases_eq x.lit.var var) [
  | inl here ↦
      let same = some_same x e (sym (entry_here x xs var here) ∙ is) in
      let under : x.level ≤ level = subst (λ (y : Entry). y.level ≤ level) (sym same) low in
      ap (λ (es : List Entry). entry_of es var) (cond-true (nat_le x.level level) (x ∷ up_to level xs) (up_to level xs) (le-leb x.level level under))
      ∙ entry_here x (up_to level xs) var here ∙ ap (λ (y : Entry). Some y) same
  | inr other ↦ kept_behind (nat_le x.level level) level x xs var (Some e) refl other (kept_up_to level xs var e (sym (entry_behind x xs var other) ∙ is) low)
]

-- and what was assigned above it isn't
lost_up_to : (level : ℕ) (es : List Entry) (var : ℕ) → ((i : ℕ) → i < length es → (get_or es i some_entry).lit.var ≡ var → level < (get_or es i some_entry).level) → entry_of (up_to level es) var ≡ None
lost_up_to level [] var above = refl
lost_up_to level (x ∷ xs) var above =
    let rest = lost_up_to level xs var (λ i lt same. above (suc i) (omega arith) same) in
    elim (cases_Bool (nat_le x.level level)) [
      | inl low ↦
          let other : x.lit.var ≡ var → ⊥ = λ here. (let high = above 0 (omega arith) here in absurd (omega (arith, high, leb-true x.level level low))) in
          kept_behind true level x xs var None low other rest
      | inr high ↦
          ap (λ (es : List Entry). entry_of es var) (cond-false (nat_le x.level level) (x ∷ up_to level xs) (up_to level xs) high) ∙ rest
    ]

-- what holds in the entries up to a level was assigned up to it
pub level_up_to : (a : Assignment) (level : ℕ) (lit : Lit) (e : Entry) → IsAssignment a → entry_of a.entries lit.var ≡ Some e → HoldsIn (up_to level a.entries) lit → e.level ≤ level
level_up_to a level lit e t found holds = elim (cases_lt level e.level) [
  | inl high ↦
      let none : entry_of (up_to level a.entries) lit.var ≡ None = lost_up_to level a.entries lit.var (λ i lt same.
      let first : entry_of a.entries lit.var ≡ Some (get_or a.entries i some_entry) = entry_first a.entries lit.var i some_entry lt same (λ k below also. t.once k i some_entry below lt (also ∙ sym same)) in
      let is = some_same e (get_or a.entries i some_entry) (sym found ∙ first) in
      subst (λ (x : Entry). level < x.level) is high) in
      let value : None ≡ Some lit.truth = sym (ap (option_map (λ (x : Entry). x.lit.truth)) none) ∙ holds in
      cc
  | inr low ↦ low
]

-- what holds and was assigned up to a level holds in the entries up to it
pub holds_up_to : (level : ℕ) (es : List Entry) (lit : Lit) (e : Entry) → entry_of es lit.var ≡ Some e → HoldsIn es lit → e.level ≤ level → HoldsIn (up_to level es) lit
holds_up_to level es lit e found holds low =
    ap (option_map (λ (x : Entry). x.lit.truth)) (kept_up_to level es lit.var e found low)
    ∙ sym (ap (option_map (λ (x : Entry). x.lit.truth)) found) ∙ holds
