-- What is known of a nogood with one literal more.
use Rattle.std.proofs.Common.{ℕ, ◌≡◌, ◌⊎◌, inl, inr, List, [], ◌∷◌, ◌++◌, Some, None, Bool, true, false, take, drop, sym, ◌∙◌, ap, subst, arith, refl}
use Rattle.std.specs.Prelude.{All, not}
use mathlib.Core.Bool.{◌&&◌, beq}
use Rattle.std.proofs.lemmas.Bool.{and_parts, and_from, both_ways, eqb-true, eq-eqb}
use lib.Dec.{eqb}
use Rattle.std.proofs.lemmas.List.{length-append, take-append-drop}
use Rattle.std.proofs.Math.ListN.{get_or-append}
use Rattle.std.proofs.lemmas.List.Elements.{All-push, All-weaker, All-contains, Contains-push, Contains-append_left}
use Rattle.ms_lits.specs.declared.lit.Lit.{Lit}
use Rattle.ms_lits.specs.declared.trail.Entry.{Entry}
use Rattle.ms_lits.specs.Literals.{opposite_of}
use Rattle.ms_lits.specs.Assignment.{value_in, HoldsIn, IsWholeIn, IsUnitIn}
use Rattle.ms_nogood.specs.Looks.{IsCalmIn, IsLook}
use Rattle.ms_nogood.specs.declared.scan.Look.{Look}
use Rattle.ms_nogood.specs.declared.scan.Look.TheVariants.{Whole, Open, Calm}

pub All-front : {X : Type 0} (P : X → Type 0) (xs ys : List X) → All P (xs ++ ys) → All P xs
All-front P xs ys all = λ k d lt. subst P (get_or-append xs ys d k lt) (all k d (omega (arith, length-append xs ys)))

All-last : {X : Type 0} (P : X → Type 0) (xs : List X) (x : X) → All P (xs ++ x ∷ []) → P x
All-last P xs x all = All-contains P (xs ++ x ∷ []) x all (Contains-push xs x)

pub calm_front : (entries : List Entry) (seen after : List Lit) → IsCalmIn entries seen → IsCalmIn entries (seen ++ after)
calm_front entries seen after calm = record {
  not_whole = λ whole. calm.not_whole (All-front (HoldsIn entries) seen after whole);
  closed = λ lit others. calm.closed lit (All-front (λ (other : Lit). (other ≡ lit) ⊎ HoldsIn entries other) seen after others);
}

pub calm_taken : (entries : List Entry) (lits : List Lit) (n : ℕ) → IsCalmIn entries (take n lits) → IsCalmIn entries lits
calm_taken entries lits n calm = subst (IsCalmIn entries) (take-append-drop n lits) (calm_front entries (take n lits) (drop n lits) calm)

other_truth : (a b : Bool) → (a ≡ b → ⊥) → a ≡ not b
other_truth true true differ = absurd (differ refl)
other_truth true false differ = refl
other_truth false true differ = refl
other_truth false false differ = absurd (differ refl)

-- a literal that is false
pub calm_false : (entries : List Entry) (seen : List Lit) (lit : Lit) (truth : Bool) → value_in entries lit.var ≡ Some truth → (truth ≡ lit.truth → ⊥) → IsCalmIn entries (seen ++ lit ∷ [])
calm_false entries seen lit truth value differ =
    let untrue : HoldsIn entries lit → ⊥ = λ (h : HoldsIn entries lit). differ (cc) in
    let opposite : HoldsIn entries (opposite_of lit) = value ∙ ap Some (other_truth truth lit.truth differ) in
    record {
      not_whole = λ whole. untrue (All-last (HoldsIn entries) seen lit whole);
      closed = λ l others. elim (All-last (λ (other : Lit). (other ≡ l) ⊎ HoldsIn entries other) seen lit others) [
        | inl same ↦ subst (λ (x : Lit). HoldsIn entries (opposite_of x)) same opposite
        | inr holds ↦ absurd (untrue holds)
      ];
    }

unassigned_untrue : (entries : List Entry) (lit : Lit) → value_in entries lit.var ≡ None → HoldsIn entries lit → ⊥
unassigned_untrue entries lit free holds = cc

-- a second open literal
pub calm_two : (entries : List Entry) (seen : List Lit) (first lit : Lit) → IsUnitIn entries seen first → value_in entries lit.var ≡ None → (first ≡ lit → ⊥) → IsCalmIn entries (seen ++ lit ∷ [])
calm_two entries seen first lit unit free differ = record {
  not_whole = λ whole. unassigned_untrue entries lit free (All-last (HoldsIn entries) seen lit whole);
  closed = λ l others.
      let P : Lit → Type 0 = λ (other : Lit). (other ≡ l) ⊎ HoldsIn entries other in
      elim (All-last P seen lit others) [
        | inl second ↦ elim (All-contains P seen first (All-front P seen (lit ∷ []) others) unit.contained) [
          | inl one ↦ absurd (differ (one ∙ sym second))
          | inr holds ↦ absurd (unassigned_untrue entries first unit.unassigned holds)
        ]
        | inr holds ↦ absurd (unassigned_untrue entries lit free holds)
      ];
}

-- a first open literal
pub unit_first : (entries : List Entry) (seen : List Lit) (lit : Lit) → IsWholeIn entries seen → value_in entries lit.var ≡ None → IsUnitIn entries (seen ++ lit ∷ []) lit
unit_first entries seen lit whole free =
    let P : Lit → Type 0 = λ (other : Lit). (other ≡ lit) ⊎ HoldsIn entries other in
    record {
      contained = Contains-push seen lit;
      unassigned = free;
      others = All-push P seen lit (All-weaker (HoldsIn entries) P (λ x h. inr h) seen whole) (inl refl);
    }

unit_more : (entries : List Entry) (seen : List Lit) (first lit : Lit) → IsUnitIn entries seen first → (lit ≡ first) ⊎ HoldsIn entries lit → IsUnitIn entries (seen ++ lit ∷ []) first
unit_more entries seen first lit unit more =
    let P : Lit → Type 0 = λ (other : Lit). (other ≡ first) ⊎ HoldsIn entries other in
    record {
      contained = Contains-append_left seen (lit ∷ []) first unit.contained;
      unassigned = unit.unassigned;
      others = All-push P seen lit unit.others more;
    }

-- the open literal once more
pub unit_same : (entries : List Entry) (seen : List Lit) (first lit : Lit) → IsUnitIn entries seen first → first ≡ lit → IsUnitIn entries (seen ++ lit ∷ []) first
unit_same entries seen first lit unit same = unit_more entries seen first lit unit (inl (sym same))

-- a literal that holds
pub look_holds : (entries : List Entry) (seen : List Lit) (lit : Lit) (found : Look) → HoldsIn entries lit → IsLook entries seen found → IsLook entries (seen ++ lit ∷ []) found
look_holds entries seen lit Whole holds is = All-push (HoldsIn entries) seen lit is holds
look_holds entries seen lit (Open first) holds is = unit_more entries seen first lit is (inr holds)
look_holds entries seen lit Calm holds is = calm_front entries seen (lit ∷ []) is

pub same_truth : (a b : Bool) → beq a b ≡ true → a ≡ b
same_truth true true is = refl
same_truth true false is = cc
same_truth false true is = cc
same_truth false false is = refl

pub truth_itself : (a b : Bool) → a ≡ b → beq a b ≡ true
truth_itself true true same = refl
truth_itself true false same = cc
truth_itself false true same = cc
truth_itself false false same = refl

abbrev lit_made : ℕ → Bool → Lit
lit_made v t = record { var = v; truth = t }

pub lit_same : (a b : Lit) → a.var ≡ b.var → a.truth ≡ b.truth → a ≡ b
lit_same a b var truth = ap (λ (v : ℕ). lit_made v a.truth) var ∙ ap (λ (t : Bool). lit_made b.var t) truth

pub same_lit : (a b : Lit) → (eqb a.var b.var && beq a.truth b.truth) ≡ true → a ≡ b
same_lit a b is =
    let parts = and_parts (eqb a.var b.var) (beq a.truth b.truth) is in
    let var : a.var ≡ b.var = eqb-true a.var b.var parts.0 in
    let truth : a.truth ≡ b.truth = same_truth a.truth b.truth parts.1 in
    lit_same a b var truth

pub other_lit : (a b : Lit) → (eqb a.var b.var && beq a.truth b.truth) ≡ false → a ≡ b → ⊥
other_lit a b isnt same =
    both_ways (eqb a.var b.var && beq a.truth b.truth) isnt
    (and_from (eqb a.var b.var) (beq a.truth b.truth) (eq-eqb a.var b.var (ap (λ (x : Lit). x.var) same)) (truth_itself a.truth b.truth (ap (λ (x : Lit). x.truth) same)))
