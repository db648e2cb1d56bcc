-- What stands in the places of a trail.
use Rattle.std.proofs.Common.{ℕ, ◌≡◌, ◌<◌, ◌≤◌, inl, inr, zero, suc, List, [], ◌∷◌, Option, Some, None, Bool, true, false, length, get_or, take, option_map, refl, sym, ◌∙◌, ap, subst, arith, eq-eqb, nat_eq, nat_le}
use Rattle.std.proofs.lemmas.Bool.{cases_Bool, cases_eq, cond-true, cond-false, ne_eqb, le-leb, leb-true}
use Rattle.ms_lits.specs.declared.lit.Lit.{Lit}
use Rattle.ms_lits.specs.declared.trail.Entry.{Entry}
use Rattle.ms_lits.specs.Assignment.{Assignment, HoldsIn, IsAssignment, entry_of, place_in, up_to}
use Rattle.ms_lits.proofs.Entries.{entry_behind, entry_first, entry_here}
use Rattle.ms_nogood.proofs.Looks.{lit_same}
use Rattle.ms_analyze.specs.Analysis.{level_in}
use Rattle.ms_analyze.specs.Cuts.{lit_at, level_at, no_entry}

pub record IsPlaced (entries : List Entry) (var place : ℕ) (e : Entry) : Type 0 where
  pub within : place < length entries
  pub same : (d : Entry) → get_or entries place d ≡ e
  pub of_var : e.lit.var ≡ var

some_same : (x e : Entry) → Some x ≡ Some e → x ≡ e
some_same x e is = cc

-- a variable's entry stands in its place
pub placed : (entries : List Entry) (var : ℕ) (e : Entry) → entry_of entries var ≡ Some e → IsPlaced entries var (place_in entries var) e
placed [] var e is = cc
placed (x ∷ xs) var e is = elim (cases_eq x.lit.var var) [
  | inl here ↦
      let test = eq-eqb x.lit.var var here in
      let first : place_in (x ∷ xs) var ≡ 0 = cond-true (nat_eq x.lit.var var) 0 (suc (place_in xs var)) test in
      let same = some_same x e (sym (entry_here x xs var here) ∙ is) in
      subst (λ (n : ℕ). IsPlaced (x ∷ xs) var n e) (sym first) (record {
        within = omega arith;
        same = λ d. same;
        of_var = subst (λ (y : Entry). y.lit.var ≡ var) same here;
      })
  | inr other ↦
      let behind : place_in (x ∷ xs) var ≡ suc (place_in xs var) = cond-false (nat_eq x.lit.var var) 0 (suc (place_in xs var)) (ne_eqb x.lit.var var other) in
      let rest = placed xs var e (sym (entry_behind x xs var other) ∙ is) in
      subst (λ (n : ℕ). IsPlaced (x ∷ xs) var n e) (sym behind) (record {
        within = omega (arith, rest.within);
        same = rest.same;
        of_var = rest.of_var;
      })
]

-- what is found in a front is found in the whole
pub front_entry : (n : ℕ) (es : List Entry) (var : ℕ) (e : Entry) → entry_of (take n es) var ≡ Some e → entry_of es var ≡ Some e
front_entry zero es var e is = cc
front_entry (suc n) [] var e is = cc
front_entry (suc n) (x ∷ xs) var e is = elim (cases_eq x.lit.var var) [
  | inl here ↦ entry_here x xs var here ∙ sym (entry_here x (take n xs) var here) ∙ is
  | inr other ↦ entry_behind x xs var other ∙ front_entry n xs var e (sym (entry_behind x (take n xs) var other) ∙ is)
]

-- and stands in the front
pub front_place : (n : ℕ) (es : List Entry) (var : ℕ) (e : Entry) → entry_of (take n es) var ≡ Some e → place_in es var < n
front_place zero es var e is = cc
front_place (suc n) [] var e is = cc
front_place (suc n) (x ∷ xs) var e is = elim (cases_eq x.lit.var var) [
  | inl here ↦
      let first : place_in (x ∷ xs) var ≡ 0 = cond-true (nat_eq x.lit.var var) 0 (suc (place_in xs var)) (eq-eqb x.lit.var var here) in
      omega (arith, first)
  | inr other ↦
      let behind : place_in (x ∷ xs) var ≡ suc (place_in xs var) = cond-false (nat_eq x.lit.var var) 0 (suc (place_in xs var)) (ne_eqb x.lit.var var other) in
      let rest = front_place n xs var e (sym (entry_behind x (take n xs) var other) ∙ is) in
      omega (arith, behind, rest)
]

-- the entry of a literal that holds
pub record HasEntry (entries : List Entry) (lit : Lit) : Type 0 where
  pub entry : Entry
  pub found : entry_of entries lit.var ≡ Some entry
  pub truth : entry.lit.truth ≡ lit.truth

entry_found : (found : Option Entry) (truth : Bool) → option_map (λ (e : Entry). e.lit.truth) found ≡ Some truth → (e : Entry) × (found ≡ Some e) × (e.lit.truth ≡ truth)
entry_found None truth is = cc
entry_found (Some e) truth is = (e, refl, cc)

pub holds_entry : (entries : List Entry) (lit : Lit) → HoldsIn entries lit → HasEntry entries lit
holds_entry entries lit holds =
    let f = entry_found (entry_of entries lit.var) lit.truth holds in
    record { entry = f.0; found = f.1; truth = f.2 }

-- it is the literal in its place
pub lit_placed : (entries : List Entry) (lit : Lit) (e : Entry) → entry_of entries lit.var ≡ Some e → e.lit.truth ≡ lit.truth → lit_at entries (place_in entries lit.var) ≡ lit
lit_placed entries lit e found truth =
    let p = placed entries lit.var e found in
    ap (λ (x : Entry). x.lit) (p.same no_entry) ∙ lit_same e.lit lit p.of_var truth

pub entry_there : (a : Assignment) → IsAssignment a → (i : ℕ) (d : Entry) → i < length a.entries → entry_of a.entries (get_or a.entries i d).lit.var ≡ Some (get_or a.entries i d)
entry_there a t i d lt = entry_first a.entries (get_or a.entries i d).lit.var i d lt refl (λ k below same. t.once k i d below lt same)

pub holds_there : (a : Assignment) → IsAssignment a → (i : ℕ) → i < length a.entries → HoldsIn a.entries (lit_at a.entries i)
holds_there a t i lt = ap (option_map (λ (e : Entry). e.lit.truth)) (entry_there a t i no_entry lt)

pub level_there : (a : Assignment) → IsAssignment a → (i : ℕ) → i < length a.entries → level_in a.entries (lit_at a.entries i) ≡ Some (level_at a.entries i)
level_there a t i lt = ap (option_map (λ (e : Entry). e.level)) (entry_there a t i no_entry lt)

kept_behind : (b : Bool) (level : ℕ) (x : Entry) (xs : List Entry) (var : ℕ) (found : Option Entry) → nat_le x.level level ≡ b → (x.lit.var ≡ var → ⊥) → entry_of (up_to level xs) var ≡ found → entry_of (up_to level (x ∷ xs)) var ≡ found
kept_behind true level x xs var found is other rest =
    ap (λ (es : List Entry). entry_of es var) (cond-true (nat_le x.level level) (x ∷ up_to level xs) (up_to level xs) is)
    ∙ entry_behind x (up_to level xs) var other ∙ rest
kept_behind false level x xs var found is other rest =
    ap (λ (es : List Entry). entry_of es var) (cond-false (nat_le x.level level) (x ∷ up_to level xs) (up_to level xs) is) ∙ rest

-- what was assigned up to a level is kept by a jump to it
pub kept_up_to : (level : ℕ) (es : List Entry) (var : ℕ) (e : Entry) → entry_of es var ≡ Some e → e.level ≤ level → entry_of (up_to level es) var ≡ Some e
kept_up_to level [] var e is low = cc
kept_up_to level (x ∷ xs) var e is low = elim (cases_eq x.lit.var var) [
  | inl here ↦
      let same = some_same x e (sym (entry_here x xs var here) ∙ is) in
      let under : x.level ≤ level = subst (λ (y : Entry). y.level ≤ level) (sym same) low in
      ap (λ (es : List Entry). entry_of es var) (cond-true (nat_le x.level level) (x ∷ up_to level xs) (up_to level xs) (le-leb x.level level under))
      ∙ entry_here x (up_to level xs) var here ∙ ap (λ (y : Entry). Some y) same
  | inr other ↦ kept_behind (nat_le x.level level) level x xs var (Some e) refl other (kept_up_to level xs var e (sym (entry_behind x xs var other) ∙ is) low)
]

-- and what was assigned above it isn't
pub lost_up_to : (level : ℕ) (es : List Entry) (var : ℕ) → ((i : ℕ) → i < length es → (get_or es i no_entry).lit.var ≡ var → level < (get_or es i no_entry).level) → entry_of (up_to level es) var ≡ None
lost_up_to level [] var above = refl
lost_up_to level (x ∷ xs) var above =
    let rest = lost_up_to level xs var (λ i lt same. above (suc i) (omega arith) same) in
    elim (cases_Bool (nat_le x.level level)) [
      | inl low ↦
          let other : x.lit.var ≡ var → ⊥ = λ here. (let high = above 0 (omega arith) here in absurd (omega (arith, high, leb-true x.level level low))) in
          kept_behind true level x xs var None low other rest
      | inr high ↦
          ap (λ (es : List Entry). entry_of es var) (cond-false (nat_le x.level level) (x ∷ up_to level xs) (up_to level xs) high) ∙ rest
    ]
