-- Truths of all things that contain no completion nogood and nothing that the theory gives are those of a possible set.
use Rattle.std.proofs.Common.{◌≡◌, ◌≢◌, ◌∙◌, ◌<◌, ℕ, zero, suc, Bool, true, false, nat_eq, cond, List, [], ◌∷◌, Some, length, refl, sym, ap, subst, inl, inr, arith}
use Rattle.std.specs.Prelude.{IsTrue, slice_get}
use Rattle.std.specs.List.{All, AllPairs, Any, Contains}
use Rattle.std.proofs.lemmas.Bool.{cases_Bool, cond-false, cond-true, eq-eqb, eqb-true, false_from_ne_true, false≢true}
use Rattle.std.proofs.lemmas.Option.{slice_get_within}
use Rattle.std.proofs.lemmas.List.Elements.{All-contains}
use Rattle.ms_lits.specs.Literals.{Nogood}
use Rattle.ms_join.specs.declared.aggregate.GroundAgg.{GroundAgg}
use Rattle.ms_join.specs.declared.aggregate.SignedAgg.{SignedAgg}
use Rattle.ms_join.specs.declared.ground_rule.GroundRule.{GroundRule}
use Rattle.ms_join.specs.AnswerSets.{IsRuleOver}
use Rattle.ms_join.specs.Modules.{Join, IsJoin}
use Rattle.ms_join.specs.Things.{Thing, IsThing, IsThingOf}
use Rattle.ms_join.specs.Things.Thing.{atom, body, tuple, aggregate}
use Rattle.ms_things.specs.Numbers.{AreThings, ext}
use Rattle.ms_loops.specs.Founded.{AgreesOnAtoms, ContainsNone, IsOverBase}
use Rattle.ms_loops.specs.Laws.{AssignmentsArePossible, CompletionAndLoops}
use Rattle.ms_complete.proofs.Lists.{any_none, member_here, member_later, member_of, none_is_some, same_some, some_once}
use Rattle.ms_unfound.specs.Laws.{AdmittedIsPossible, AtomsDecide, ContainsNoneOf, GivenRise, PossibleByGiven, SameKeepsLoops}
use Rattle.ms_unfound.specs.Parts.{Known}
use Rattle.ms_unfound.specs.Taking.{AreLoopsOf}

pub given_rise : GivenRise
given_rise known nogood given = given.of_part.4.is.rising

pub same_keeps_loops : SameKeepsLoops
same_keeps_loops j things old new vars same loops = record {
  vars = vars ∙ loops.vars;
  each = λ n given. loops.each n ((same n).0 given);
  all = λ n l. elim (loops.all n l) [ inl given ↦ inl ((same n).1 given) | inr completion ↦ inr completion ];
}

-- ---- the nogoods of a join, where its rules have no aggregates

no_aggregate : (j : Join) → IsJoin j → (g : GroundAgg) → ¬ IsThing j.atoms j.rules (aggregate g)
no_aggregate j join g some =
    let over = All-contains (IsRuleOver j.atoms) j.rules some.1 join.over.rules (member_of (λ rule. IsThingOf rule (aggregate g)) j.rules some) in
    any_none (λ (s : SignedAgg). s.agg ≡ g) (subst (λ (ss : List SignedAgg). Any (λ (s : SignedAgg). s.agg ≡ g) ss) over.plain some.4)

module _ (j : Join) (things : List Thing) (known : Known) (join : IsJoin j) (loops : AreLoopsOf j things known) (truths : ℕ → Bool) where
  none_from : ContainsNoneOf j things known truths → ContainsNone j things truths
  none_from none = record {
    completion = none.completion;
    loops = λ n l contained. elim (loops.all n l) [ inl given ↦ none.given n given contained | inr completion ↦ none.completion n completion contained ];
    aggregates = λ n a contained. no_aggregate j join a.about a.of_join;
  }

  none_to : ContainsNone j things truths → ContainsNoneOf j things known truths
  none_to none = record {
    completion = none.completion;
    given = λ n given contained. none.loops n (loops.each n given) contained;
  }

pub possible_by : CompletionAndLoops → PossibleByGiven
possible_by law j things known set join are loops over = record {
  none = λ possible. none_to j things known join loops (ext set things) ((law j things set join are over).0 possible);
  possible = λ none. (law j things set join are over).1 (none_from j things known join loops (ext set things) none);
}

pub admitted_by : AssignmentsArePossible → AdmittedIsPossible
admitted_by law j things known truths set join are loops over agrees none = law j things truths set join are over agrees (none_from j things known join loops truths none)

-- ---- the atoms that are true under truths of things

abbrev is_atom : ℕ → Thing → Bool
is_atom a (atom b) = nat_eq b a
is_atom a (body b) = false
is_atom a (tuple t) = false
is_atom a (aggregate g) = false

is_atom_there : (a : ℕ) (t : Thing) → IsTrue (is_atom a t) → t ≡ atom a
is_atom_there a (atom b) is = ap atom (eqb-true b a is)
is_atom_there a (body b) is = absurd (false≢true is)
is_atom_there a (tuple t) is = absurd (false≢true is)
is_atom_there a (aggregate g) is = absurd (false≢true is)

atom_is_there : (a : ℕ) (t : Thing) → t ≡ atom a → IsTrue (is_atom a t)
atom_is_there a t same = subst (λ (u : Thing). IsTrue (is_atom a u)) (sym same) (eq-eqb a a refl)

unfoldable true_among : List Thing → (ℕ → Bool) → ℕ → Bool
true_among [] truths a = false
true_among (t ∷ things) truths a = cond (is_atom a t) (truths 0) (true_among things (λ k. truths (suc k)) a)

there_where_true : (things : List Thing) (truths : ℕ → Bool) (a : ℕ) → IsTrue (true_among things truths a) → Contains things (atom a)
unfolding true_among
there_where_true [] truths a is = absurd (false≢true is)
there_where_true (t ∷ things) truths a is = elim (cases_Bool (is_atom a t)) [
  | inl here ↦ subst (Contains (t ∷ things)) (is_atom_there a t here) (member_here t things)
  | inr other ↦ member_later t (atom a) things (there_where_true things (λ k. truths (suc k)) a (sym (cond-false (is_atom a t) (truths 0) (true_among things (λ k. truths (suc k)) a) other) ∙ is))
]

truth_among : (things : List Thing) (truths : ℕ → Bool) (a k : ℕ) → ((i : ℕ) → slice_get things i ≡ Some (atom a) → i ≡ k) → slice_get things k ≡ Some (atom a) → truths k ≡ true_among things truths a
unfolding true_among
truth_among [] truths a k once at = absurd (none_is_some (atom a) at)
truth_among (t ∷ things) truths a zero once at =
    sym (cond-true (is_atom a t) (truths 0) (true_among things (λ k. truths (suc k)) a) (atom_is_there a t (same_some t (atom a) at)))
truth_among (t ∷ things) truths a (suc k) once at =
    let other : is_atom a t ≡ false = false_from_ne_true (is_atom a t) (λ here. let no : 0 ≡ suc k = once 0 (ap Some (is_atom_there a t here)) in absurd (omega (arith, no))) in
    truth_among things (λ i. truths (suc i)) a k (λ i there. let same : suc i ≡ suc k = once (suc i) there in omega (arith, same)) at
    ∙ sym (cond-false (is_atom a t) (truths 0) (true_among things (λ i. truths (suc i)) a) other)

module _ (j : Join) (things : List Thing) (are : AreThings j things) (truths : ℕ → Bool) where
  over_base : IsOverBase j (true_among things truths)
  over_base a is = (are.exactly (atom a)).0 (there_where_true things truths a is)

  agrees : AgreesOnAtoms things truths (true_among things truths)
  agrees a k at = truth_among things truths a k (λ i there. some_once things are.once i k (atom a) there at) at

pub decided_by : AssignmentsArePossible → AtomsDecide
decided_by law j things known truths others join are loops none nor agree k within =
    let set : ℕ → Bool = true_among things truths in
    let first = admitted_by law j things known truths set join are loops (over_base j things are truths) (agrees j things are truths) none in
    let second = admitted_by law j things known others set join are loops (over_base j things are truths)
    (λ a i at. sym (agree a i at) ∙ agrees j things are truths a i at) nor in
    first.1 k within ∙ sym (second.1 k within)
