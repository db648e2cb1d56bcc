-- Fronts of the entries.
use Rattle.std.proofs.Common.{ℕ, ◌≡◌, ◌<◌, ◌≤◌, ◌+◌, ◌⊎◌, inl, inr, zero, suc, Bool, true, false, List, [], ◌∷◌, ◌++◌, Option, Some, None, cond, option_map, length, get_or, take, drop, sym, ◌∙◌, ap, subst, arith, refl}
use Rattle.std.specs.Prelude.{All, Contains, nat_le}
use lib.Dec.{eqb}
use Rattle.std.proofs.lemmas.Bool.{cases_Bool, cases_eq, cases_lt, cond-true, cond-false, le-leb, lt-leb, leb-true, leb-false}
use Rattle.std.proofs.lemmas.List.{take-append-drop, take-append-le, length-take-le, get_or-take, append-nil}
use Rattle.std.proofs.lemmas.List.Elements.{All-nil, All-cons, All-head, All-tail, All-take, filter-append, filter_passes, All-weaker}
use Rattle.ms_lits.specs.declared.lit.Lit.{Lit}
use Rattle.ms_lits.specs.declared.trail.Entry.{Entry}
use Rattle.ms_lits.specs.Literals.{Nogood, opposite_of}
use Rattle.ms_lits.specs.Assignment.{Assignment, HoldsIn, entry_of, value_in, up_to}
use Rattle.ms_lits.proofs.Entries.{some_entry, entry_here, entry_behind}
use Rattle.ms_refutation.proofs.Laws.{filter_twice}
use Rattle.ms_watch.specs.Watches.{HasFalse, IsQuiet}
use Rattle.ms_watch.specs.Levels.{HasEntry, holds_entry}

entry_more : (xs ys : List Entry) (var : ℕ) (e : Entry) → entry_of xs var ≡ Some e → entry_of (xs ++ ys) var ≡ Some e
entry_more [] ys var e is = cc
entry_more (x ∷ xs) ys var e is = elim (cases_eq x.lit.var var) [
  | inl here ↦ entry_here x (xs ++ ys) var here ∙ sym (entry_here x xs var here) ∙ is
  | inr other ↦ entry_behind x (xs ++ ys) var other ∙ entry_more xs ys var e (sym (entry_behind x xs var other) ∙ is)
]

-- what holds in a front holds in the whole
pub holds_more : (xs ys : List Entry) (lit : Lit) → HoldsIn xs lit → HoldsIn (xs ++ ys) lit
holds_more xs ys lit holds =
    let h = holds_entry xs lit holds in
    ap (option_map (λ (x : Entry). x.lit.truth)) (entry_more xs ys lit.var h.entry h.found) ∙ ap Some h.truth

pub up_to_append : (level : ℕ) (xs ys : List Entry) → up_to level (xs ++ ys) ≡ up_to level xs ++ up_to level ys
up_to_append level xs ys = filter-append (λ (e : Entry). nat_le e.level level) xs ys

pub false_more : (level : ℕ) (xs ys : List Entry) (lits : Nogood) → HasFalse (up_to level xs) lits → HasFalse (up_to level (xs ++ ys)) lits
false_more level xs ys lits has = record {
  lit = has.lit;
  contained = has.contained;
  opposite = subst (λ (es : List Entry). HoldsIn es (opposite_of has.lit)) (sym (up_to_append level xs ys)) (holds_more (up_to level xs) (up_to level ys) (opposite_of has.lit) has.opposite);
}

pub false_whole : (xs ys : List Entry) (lits : Nogood) → HasFalse xs lits → HasFalse (xs ++ ys) lits
false_whole xs ys lits has = record { lit = has.lit; contained = has.contained; opposite = holds_more xs ys (opposite_of has.lit) has.opposite }

-- one entry above the level
pub up_to_above : (level : ℕ) (es : List Entry) (e : Entry) → level < e.level → up_to level (es ++ e ∷ []) ≡ up_to level es
up_to_above level es e above =
    up_to_append level es (e ∷ [])
    ∙ ap (λ (xs : List Entry). up_to level es ++ xs) (cond-false (nat_le e.level level) (e ∷ []) [] (lt-leb e.level level above))
    ∙ append-nil (up_to level es)

-- entries of which none is above the level
pub up_to_all : (level : ℕ) (es : List Entry) → All (λ e. e.level ≤ level) es → up_to level es ≡ es
up_to_all level [] low = refl
up_to_all level (e ∷ es) low =
    let P : Entry → Type 0 = λ x. x.level ≤ level in
    cond-true (nat_le e.level level) (e ∷ up_to level es) (up_to level es) (le-leb e.level level (All-head P e es low))
    ∙ ap (λ (xs : List Entry). e ∷ xs) (up_to_all level es (All-tail P e es low))

up_to_none : (level : ℕ) (es : List Entry) → All (λ e. level < e.level) es → up_to level es ≡ []
up_to_none level [] high = refl
up_to_none level (e ∷ es) high =
    let P : Entry → Type 0 = λ x. level < x.level in
    cond-false (nat_le e.level level) (e ∷ up_to level es) (up_to level es) (lt-leb e.level level (All-head P e es high))
    ∙ up_to_none level es (All-tail P e es high)

abbrev pub Rises : List Entry → Type 0
Rises es = (i k : ℕ) (d : Entry) → i ≤ k → k < length es → (get_or es i d).level ≤ (get_or es k d).level

-- the entries up to a level stand in front
pub up_to_front : (level : ℕ) (es : List Entry) → Rises es → up_to level es ≡ take (length (up_to level es)) es
up_to_front level [] rising = refl
up_to_front level (e ∷ es) rising = elim (cases_Bool (nat_le e.level level)) [
  | inl low ↦ (
      let whole : up_to level (e ∷ es) ≡ e ∷ up_to level es = cond-true (nat_le e.level level) (e ∷ up_to level es) (up_to level es) low in
      let rest : up_to level es ≡ take (length (up_to level es)) es = up_to_front level es (λ i k d le lt. rising (suc i) (suc k) d (omega arith) (omega arith)) in
      whole ∙ ap (λ (xs : List Entry). e ∷ xs) rest ∙ sym (ap (λ (xs : List Entry). take (length xs) (e ∷ es)) whole))
  | inr high ↦ (
      let above : level < e.level = leb-false e.level level high in
      let rest : up_to level es ≡ [] = up_to_none level es (λ k d lt. (let first = rising 0 (suc k) d (omega arith) (omega arith) in omega (arith, first, above))) in
      let none : up_to level (e ∷ es) ≡ [] = cond-false (nat_le e.level level) (e ∷ up_to level es) (up_to level es) high ∙ rest in
      none ∙ sym (ap (λ (xs : List Entry). take (length xs) (e ∷ es)) none))
]

-- the entries up to a level are of no higher one
pub up_to_low : (level : ℕ) (es : List Entry) → All (λ e. e.level ≤ level) (up_to level es)
up_to_low level es = All-weaker (λ (e : Entry). nat_le e.level level ≡ true) (λ (e : Entry). e.level ≤ level) (λ e is. leb-true e.level level is) (up_to level es) (filter_passes (λ (e : Entry). nat_le e.level level) es)

take_less : (n m : ℕ) (es : List Entry) → n ≤ m → take n (take m es) ≡ take n es
take_less zero m es le = refl
take_less (suc n) zero es le = absurd (omega arith)
take_less (suc n) (suc m) [] le = refl
take_less (suc n) (suc m) (e ∷ es) le = ap (λ (xs : List Entry). e ∷ xs) (take_less n m es (omega arith))

-- after a jump a literal is as quiet as before
pub quiet_back : (level seen len cut : ℕ) (es : List Entry) (lits : Nogood) (lit : Lit) → Rises es → length (up_to level es) ≡ len → cut ≤ seen → cut ≤ len → IsQuiet es seen lits lit → IsQuiet (up_to level es) cut lits lit
quiet_back level seen len cut es lits lit rising is less within quiet =
    let front : up_to level es ≡ take len es = up_to_front level es rising ∙ ap (λ n. take n es) is in
    let same : take cut (up_to level es) ≡ take cut es = ap (take cut) front ∙ take_less cut len es within in
    let longer : take seen es ≡ take cut es ++ drop cut (take seen es) = sym (take-append-drop cut (take seen es)) ∙ ap (λ (xs : List Entry). xs ++ drop cut (take seen es)) (take_less cut seen es less) in
    let at : (lower : ℕ) → lower ≤ level → HoldsIn (up_to lower (take cut (up_to level es))) lit → HasFalse (up_to lower (up_to level es)) lits = λ lower low holds.
    let here : HoldsIn (up_to lower (take cut es)) lit = subst (λ (xs : List Entry). HoldsIn (up_to lower xs) lit) same holds in
    let more : HoldsIn (up_to lower (take cut es) ++ up_to lower (drop cut (take seen es))) lit = holds_more (up_to lower (take cut es)) (up_to lower (drop cut (take seen es))) lit here in
    let all : HoldsIn (up_to lower (take seen es)) lit = subst (λ (xs : List Entry). HoldsIn xs lit) (sym (ap (up_to lower) longer ∙ up_to_append lower (take cut es) (drop cut (take seen es)))) more in
    subst (λ (xs : List Entry). HasFalse xs lits) (sym (filter_twice lower level es low)) (quiet lower all) in
    let low : All (λ e. e.level ≤ level) (up_to level es) = up_to_low level es in
    λ lower holds. elim (cases_lt level lower) [
      | inl above ↦ (
          let every : (xs : List Entry) → All (λ e. e.level ≤ level) xs → up_to lower xs ≡ up_to level xs = λ xs all.
          up_to_all lower xs (All-weaker (λ (e : Entry). e.level ≤ level) (λ (e : Entry). e.level ≤ lower) (λ e le. omega arith) xs all) ∙ sym (up_to_all level xs all) in
          let here : HoldsIn (up_to level (take cut (up_to level es))) lit = subst (λ (xs : List Entry). HoldsIn xs lit) (every (take cut (up_to level es)) (All-take (λ (e : Entry). e.level ≤ level) cut (up_to level es) low)) holds in
          subst (λ (xs : List Entry). HasFalse xs lits) (sym (every (up_to level es) low)) (at level (omega arith) here))
      | inr under ↦ at lower under holds
    ]
