-- What a propagation says of refutation.
use Rattle.std.proofs.Common.{ℕ, ◌≡◌, ◌∙◌, ◌<◌, Bool, true, false, not, cond, eqb, List, [], ◌∷◌, Some, option_map, length, get_or, inl, inr, sym, subst, ap, refl, arith, zero, suc, eq-eqb, length-append}
use Rattle.std.specs.Prelude.{IsTrue}
use Rattle.std.proofs.lemmas.Bool.{eqb-true}
use Rattle.std.proofs.lemmas.List.{get_or_append_left}
use Rattle.std.proofs.lemmas.List.Elements.{All-map}
use Rattle.ms_lits.specs.declared.lit.Lit.{Lit}
use Rattle.ms_lits.specs.declared.trail.Entry.{Entry}
use Rattle.ms_lits.specs.Literals.{opposite_of, IsRefuted, IsWhole}
use Rattle.ms_lits.specs.Assignment.{Assignment, IsAssignment, HoldsIn, entry_of}
use Rattle.ms_nogood.specs.Store.{Store}
use Rattle.ms_nogood.specs.Propagation.{IsSettled, IsStored, IsWholeAt, Propagates, held_in, lits_of}
use Rattle.ms_nogood.proofs.Propagation.{held_from, holds_from, held_in_set, stored_among}

pub violated : (store : Store) (old new : Assignment) (key : ℕ) → Propagates store old new → IsWholeAt store new.entries key → IsRefuted (IsStored store) (lits_of old.entries)
violated store old new key reached whole = λ set start closed.
    let all : IsWhole set (lits_of new.entries) = λ k d h. reached.derived k d h set start closed in
    inl (record {
      nogood = whole.stored.lits;
      among = stored_among store key whole.stored whole.found;
      whole = λ k d h. held_in_set set new.entries (get_or whole.stored.lits k d) (whole.whole k d h) all;
    })

-- each variable has one entry
abbrev pub HasEachOnce : List Entry → Type 0
HasEachOnce entries = (i k : ℕ) (d : Entry) → i < length entries → k < length entries → (get_or entries i d).lit.var ≡ (get_or entries k d).lit.var → i ≡ k

-- an entry of another variable in front changes nothing
behind_another : (e : Entry) (es : List Entry) (lit : Lit) (b : Bool) → eqb e.lit.var lit.var ≡ b → (b ≡ true → ⊥) → HoldsIn es lit → HoldsIn (e ∷ es) lit
behind_another e es lit true is differ holds = absurd (differ refl)
behind_another e es lit false is differ holds = ap (λ c. option_map (λ (x : Entry). x.lit.truth) (cond c (Some e) (entry_of es lit.var))) is ∙ holds

at_front : (e : Entry) (es : List Entry) → HoldsIn (e ∷ es) e.lit
at_front e es = ap (λ c. option_map (λ (x : Entry). x.lit.truth) (cond c (Some e) (entry_of es e.lit.var))) (eq-eqb e.lit.var e.lit.var refl)

each_holds : (entries : List Entry) → HasEachOnce entries → (i : ℕ) (d : Entry) → i < length entries → HoldsIn entries (get_or entries i d).lit
each_holds [] once i d h = absurd (omega arith)
each_holds (e ∷ es) once zero d h = at_front e es
each_holds (e ∷ es) once (suc i) d h =
    let inside : i < length es = omega arith in
    behind_another e es (get_or es i d).lit (eqb e.lit.var (get_or es i d).lit.var) refl
    (λ same. let clash : 0 ≡ suc i = once 0 (suc i) d (omega arith) h (eqb-true _ _ same) in cc)
    (each_holds es (λ j k x hj hk same. let e : suc j ≡ suc k = once (suc j) (suc k) x (omega arith) (omega arith) same in omega arith) i d inside)

not_itself : (b : Bool) → Some b ≡ Some (not b) → ⊥
not_itself true e = cc
not_itself false e = cc

pub settled : (store : Store) (old new : Assignment) → IsAssignment new → Propagates store old new → IsSettled store new.entries → IsRefuted (IsStored store) (lits_of old.entries) → ⊥
settled store old new assignment reached end refuted =
    let holds = λ (k : ℕ) (d : Entry) (h : k < length old.entries).
    let here : get_or new.entries k d ≡ get_or old.entries k d = ap (λ es. get_or es k d) reached.entries ∙ get_or_append_left old.entries reached.added d k h in
    let inside : k < length new.entries = omega (arith, ap length reached.entries, length-append old.entries reached.added) in
    held_from new.entries (get_or old.entries k d).lit (subst (λ (e : Entry). HoldsIn new.entries e.lit) here (each_holds new.entries assignment.once k d inside)) in
    elim (refuted (held_in new.entries) (All-map (λ l. IsTrue (held_in new.entries l)) (λ (e : Entry). e.lit) old.entries holds) end.closed) [
      | inl whole ↦ end.none_whole whole
      | inr both ↦ not_itself both.lit.truth (sym (holds_from new.entries both.lit both.holds) ∙ holds_from new.entries (opposite_of both.lit) both.opposite)
    ]
