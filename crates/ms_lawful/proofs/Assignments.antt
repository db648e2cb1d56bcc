-- What a total assignment says of refutation and of the atoms.
use Rattle.std.proofs.Common.{ℕ, ◌≡◌, ◌∙◌, Bool, true, false, not, cond, List, [], ◌∷◌, get_or, map, inl, inr, sym, subst, ap, refl}
use Rattle.std.specs.Prelude.{IsTrue, if◌then◌else◌, filter}
use Rattle.std.specs.List.{AllByRecursion}
use Rattle.std.proofs.lemmas.Bool.{false≢true, cases_Bool}
use Rattle.std.proofs.lemmas.List.Elements.{All-contains, recursion_from_All}
use Rattle.ms_lits.specs.declared.lit.Lit.{Lit}
use Rattle.ms_lits.specs.Literals.{Nogood, opposite_of, IsClosed, IsContained, IsRefuted, IsWhole}
use Rattle.ms_lawful.specs.Problems.{Problem, HasNogood, holds_under, literal_of, signs_of_atoms, true_atoms}

-- the two signs of a thing
turned : (sign value : Bool) → (if not sign then value else not value) ≡ not (if sign then value else not value)
turned true true = refl
turned true false = refl
turned false true = refl
turned false false = refl

pub opposite_holds : (truth : ℕ → Bool) (lit : Lit) → holds_under truth (opposite_of lit) ≡ not (holds_under truth lit)
opposite_holds truth lit = turned lit.truth (truth lit.var)

not_both : (b : Bool) → b ≡ true → not b ≡ true → ⊥
not_both true is turns = false≢true turns
not_both false is turns = false≢true is

-- An assignment without a whole nogood is closed.
pub assignment_closed : (Among : Nogood → Type 0) (truth : ℕ → Bool) → ((nogood : Nogood) → Among nogood → HasNogood truth nogood → ⊥) → IsClosed Among (holds_under truth)
assignment_closed Among truth none = λ nogood among lit forced.
    elim (cases_Bool (holds_under truth lit)) [
      | inl holds ↦ absurd (none nogood among (λ k d h. elim (forced.others k d h) [
        | inl same ↦ subst (λ (l : Lit). IsTrue (holds_under truth l)) (sym same) holds
        | inr other ↦ other
      ]))
      | inr fails ↦ opposite_holds truth lit ∙ ap not fails
    ]

-- What is refuted is in no assignment that contains none of the nogoods.
pub refuted_in_none : (Among : Nogood → Type 0) (truth : ℕ → Bool) (start : List Lit) → ((nogood : Nogood) → Among nogood → HasNogood truth nogood → ⊥) → IsRefuted Among start → IsWhole (holds_under truth) start → ⊥
refuted_in_none Among truth start none refuted whole =
    elim (refuted (holds_under truth) whole (assignment_closed Among truth none)) [
      | inl has ↦ none has.nogood has.among has.whole
      | inr both ↦ not_both (holds_under truth both.lit) both.holds (sym (opposite_holds truth both.lit) ∙ both.opposite)
    ]

-- what the literal of an atom says of its truth
same_truth : (sign value : Bool) → IsTrue (if sign then value else not value) → value ≡ sign
same_truth true true holds = refl
same_truth true false holds = holds
same_truth false true holds = sym holds
same_truth false false holds = refl

same_filter : (truth other : ℕ → Bool) (atoms : List ℕ) → AllByRecursion (λ lit. IsTrue (holds_under truth lit)) (map (literal_of other) atoms) → filter truth atoms ≡ filter other atoms
same_filter truth other [] all = refl
same_filter truth other (a ∷ atoms) all =
    (λ i. cond (same_truth (other a) (truth a) all.0 i) (a ∷ same_filter truth other atoms all.1 i) (same_filter truth other atoms all.1 i))

-- An assignment that contains all atoms with the signs that they have in another one has the same true atoms.
pub same_atoms : (problem : Problem) (truth other : ℕ → Bool) → HasNogood truth (signs_of_atoms problem other) → true_atoms problem truth ≡ true_atoms problem other
same_atoms problem truth other has = same_filter truth other problem.atoms (recursion_from_All (λ lit. IsTrue (holds_under truth lit)) (signs_of_atoms problem other) has)

-- What contains a nogood contains what that one contains.
pub has_contained : (truth : ℕ → Bool) (nogood small : Nogood) → IsContained nogood small → HasNogood truth nogood → HasNogood truth small
has_contained truth nogood small contained has = λ k d h. All-contains (λ lit. IsTrue (holds_under truth lit)) nogood (get_or small k d) has (contained k d h)
