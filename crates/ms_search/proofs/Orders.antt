-- Literals of different variables, in another order.
use Rattle.std.proofs.Common.{◌≡◌, inl, inr, zero, suc, [], ◌∷◌, Bool, false, get_or, nat_eq, sym, ◌∙◌, arith, eq-eqb}
use Rattle.std.specs.Prelude.{◌≢◌, AllPairs}
use Rattle.std.specs.List.{IsDistinct}
use Rattle.std.specs.List.Sorted.{IsNonDecreasingBy, IsPermutation}
use Rattle.std.proofs.lemmas.Bool.{both_ways, cases_eq, ne_eqb}
use Rattle.std.proofs.lemmas.List.Elements.{All-from_recursion, recursion_from_All}
use Rattle.std.proofs.lemmas.Map.Keys.{IsDistinct-IsPermutation}
use Rattle.ms_lits.specs.declared.lit.Lit.{Lit}
use Rattle.ms_lits.specs.Literals.{Nogood}
use Rattle.ms_nogood.specs.Theories.{AreRising}

abbrev same_var : Lit → Lit → Bool
same_var l m = nat_eq l.var m.var

abbrev pub AreDifferent : Nogood → Type 0
AreDifferent lits = AllPairs (λ (l : Lit) (m : Lit). l.var ≢ m.var) lits

flipped : (l m : Lit) → same_var l m ≡ same_var m l
flipped l m = elim (cases_eq l.var m.var) [
  | inl same ↦ eq-eqb l.var m.var same ∙ sym (eq-eqb m.var l.var (sym same))
  | inr other ↦ ne_eqb l.var m.var other ∙ sym (ne_eqb m.var l.var (λ same. other (sym same)))
]

distinct_from : (lits : Nogood) → AreDifferent lits → IsDistinct same_var lits
unfolding IsDistinct
distinct_from [] different = tt
distinct_from (l ∷ lits) different = (
  recursion_from_All (λ (m : Lit). same_var l m ≡ false) lits (λ k d lt. ne_eqb l.var (get_or lits k d).var (different 0 (suc k) d (omega arith) (omega arith))),
  distinct_from lits (λ i k d before lt. different (suc i) (suc k) d (omega arith) (omega arith)),
)

different_from : (lits : Nogood) → IsDistinct same_var lits → AreDifferent lits
unfolding IsDistinct
different_from [] distinct i k d before lt = absurd (omega arith)
different_from (l ∷ lits) distinct zero zero d before lt = absurd (omega arith)
different_from (l ∷ lits) distinct zero (suc k) d before lt =
    λ same. both_ways (same_var l (get_or lits k d)) (All-from_recursion (λ (m : Lit). same_var l m ≡ false) lits distinct.0 k d (omega arith)) (eq-eqb l.var (get_or lits k d).var same)
different_from (l ∷ lits) distinct (suc i) zero d before lt = absurd (omega arith)
different_from (l ∷ lits) distinct (suc i) (suc k) d before lt = different_from lits distinct.1 i k d (omega arith) (omega arith)

pub different_moved : (old new : Nogood) → IsPermutation old new → AreDifferent old → AreDifferent new
different_moved old new moved different = different_from new (IsDistinct-IsPermutation same_var flipped old new moved (distinct_from old different))

-- different numbers that don't fall rise
pub rising_from : (lits : Nogood) → AreDifferent lits → IsNonDecreasingBy (λ (l : Lit). l.var) lits → AreRising lits
rising_from lits different up i k d before lt =
    let less = up i k d (omega arith) lt in
    let apart = different i k d before lt in
    elim (cases_eq (get_or lits i d).var (get_or lits k d).var) [
      | inl same ↦ absurd (apart same)
      | inr other ↦ omega (arith, less, other)
    ]

pub different_from_rising : (lits : Nogood) → AreRising lits → AreDifferent lits
different_from_rising lits rising i k d before lt = λ same. let less = rising i k d before lt in omega (arith, less, same)
