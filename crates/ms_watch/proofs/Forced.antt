-- What a nogood forces that is in the store.
use Rattle.std.proofs.Common.{ℕ, ◌≡◌, ◌<◌, ◌⊎◌, inl, inr, Bool, true, false, List, [], ◌∷◌, ◌++◌, Option, Some, None, option_map, sym, ◌∙◌, ap, subst, refl}
use Rattle.std.specs.Prelude.{All, Contains, is_some}
use Rattle.std.proofs.lemmas.Bool.{cases_Bool, cases_eq, cond-true, cond-false}
use Rattle.std.proofs.lemmas.List.Elements.{All-weaker}
use Rattle.ms_lits.specs.declared.lit.Lit.{Lit}
use Rattle.ms_lits.specs.declared.trail.Entry.{Entry}
use Rattle.ms_lits.specs.Literals.{Nogood, opposite_of}
use Rattle.ms_lits.specs.Assignment.{Assignment, HoldsIn, IsUnitIn, IsWholeIn, value_in, entry_made}
use Rattle.ms_lits.proofs.Entries.{entry_here, entry_behind}
use Rattle.ms_nogood.specs.Store.{Store, Stored, awake_in, slot_at, nogood_at}
use Rattle.ms_nogood.specs.Propagation.{Propagates, IsWholeAt, IsWithin}
use Rattle.ms_nogood.proofs.Propagation.{propagates_one}
use Rattle.ms_watch.specs.Watches.{lits_at}
use Rattle.ms_watch.specs.Walks.{AreTrueBut}
use Rattle.ms_watch.specs.Kept.{with_lit}

pub record IsAwake (found : Option Stored) (lits : Nogood) : Type 0 where
  pub stored : Stored
  pub is : found ≡ Some stored
  pub same : stored.lits ≡ lits

awake_found : (slot : Option Stored) (lits : Nogood) → is_some (awake_in slot) ≡ true → option_map (λ (s : Stored). s.lits) slot ≡ Some lits → IsAwake (awake_in slot) lits
awake_found None lits awake is = cc
awake_found (Some s) lits awake is = elim (cases_Bool (is_some s.kind)) [
  | inl yes_ ↦ record { stored = s; is = cond-true (is_some s.kind) (Some s) None yes_; same = cc }
  | inr asleep ↦ (let none : awake_in (Some s) ≡ None = cond-false (is_some s.kind) (Some s) None asleep in let no_ : false ≡ true = sym (ap is_some none) ∙ awake in cc)
]

pub awake_is : (store : Store) (key : ℕ) (lits : Nogood) → is_some (nogood_at store key) ≡ true → lits_at store key ≡ Some lits → IsAwake (nogood_at store key) lits
awake_is store key lits awake found = awake_found (slot_at store key) lits awake found

pub forced_one : (store : Store) (trail new : Assignment) (key : ℕ) (lits : Nogood) (other forced : Lit) → is_some (nogood_at store key) ≡ true → lits_at store key ≡ Some lits → Contains lits other → value_in trail.entries other.var ≡ None → All (λ lit. (lit ≡ other) ⊎ HoldsIn trail.entries lit) lits → forced ≡ opposite_of other → new ≡ with_lit trail forced (Some key) → Propagates store trail new
forced_one store trail new key lits other forced awake found contained unassigned all opposite is =
    let a = awake_is store key lits awake found in
    propagates_one store trail new key a.stored other forced a.is
    (subst (λ (ls : Nogood). IsUnitIn trail.entries ls other) (sym a.same) (record { contained = contained; unassigned = unassigned; others = all })) opposite is

pub whole_one : (store : Store) (entries : List Entry) (key : ℕ) (lits : Nogood) → is_some (nogood_at store key) ≡ true → lits_at store key ≡ Some lits → IsWholeIn entries lits → IsWholeAt store entries key
whole_one store entries key lits awake found whole =
    let a = awake_is store key lits awake found in
    record { stored = a.stored; found = a.is; whole = subst (IsWholeIn entries) (sym a.same) whole }

pub within_one : (store : Store) (room key : ℕ) (lits : Nogood) → IsWithin store room → is_some (nogood_at store key) ≡ true → lits_at store key ≡ Some lits → All (λ lit. lit.var < room) lits
within_one store room key lits within awake found =
    let a = awake_is store key lits awake found in
    subst (All (λ (l : Lit). l.var < room)) a.same (within key a.stored a.is)

last_holds : (es : List Entry) (e : Entry) (lit : Lit) → value_in es lit.var ≡ None → e.lit ≡ lit → HoldsIn (es ++ e ∷ []) lit
last_holds [] e lit none is = ap (option_map (λ (x : Entry). x.lit.truth)) (entry_here e [] lit.var (ap (λ (l : Lit). l.var) is)) ∙ ap (λ (l : Lit). Some l.truth) is
last_holds (x ∷ xs) e lit none is = elim (cases_eq x.lit.var lit.var) [
  | inl here ↦ (let some : Some x.lit.truth ≡ None = sym (ap (option_map (λ (y : Entry). y.lit.truth)) (entry_here x xs lit.var here)) ∙ none in cc)
  | inr other ↦ ap (option_map (λ (y : Entry). y.lit.truth)) (entry_behind x (xs ++ e ∷ []) lit.var other)
      ∙ last_holds xs e lit (sym (ap (option_map (λ (y : Entry). y.lit.truth)) (entry_behind x xs lit.var other)) ∙ none) is
]

-- what was assigned holds
pub assigned_holds : (trail new : Assignment) (forced lit : Lit) (reason : Option ℕ) → forced ≡ lit → value_in trail.entries lit.var ≡ None → new ≡ with_lit trail forced reason → HoldsIn new.entries lit
assigned_holds trail new forced lit reason same none is =
    subst (λ (a : Assignment). HoldsIn a.entries lit) (sym is)
    (subst (λ (l : Lit). HoldsIn (trail.entries ++ entry_made l trail.level reason ∷ []) lit) (sym same) (last_holds trail.entries (entry_made lit trail.level reason) lit none refl))
