-- Assignments that contain no nogood of a join are its answer sets, under the numbers of things.
use Rattle.std.proofs.Common.{◌≡◌, ◌∙◌, ◌<◌, ℕ, Bool, true, false, not, if◌then◌else◌, List, Some, get_or, length, refl, sym, ap, subst}
use Rattle.std.specs.Prelude.{IsTrue, slice_get}
use Rattle.std.specs.List.{All, Any, Contains, filter}
use Rattle.std.proofs.lemmas.Bool.{false≢true}
use Rattle.std.proofs.lemmas.Option.{slice_get-get_or, slice_get_within}
use Rattle.std.proofs.lemmas.List.Elements.{All-contains, All-weaker}
use Rattle.ms_lits.specs.declared.lit.Lit.{Lit}
use Rattle.ms_lits.specs.Literals.{Nogood}
use Rattle.ms_join.specs.declared.aggregate.GroundAgg.{GroundAgg}
use Rattle.ms_join.specs.declared.aggregate.SignedAgg.{SignedAgg}
use Rattle.ms_join.specs.declared.assumption.AtomAsk.{AtomAsk}
use Rattle.ms_join.specs.declared.assumption.AtomLit.{AtomLit}
use Rattle.ms_join.specs.AnswerSets.{IsRuleOver}
use Rattle.ms_join.specs.Assumptions.{MeetsEach}
use Rattle.ms_join.specs.Modules.{Join, IsJoin}
use Rattle.ms_join.specs.Possible.{IsPossible}
use Rattle.ms_join.specs.Sets.{IsAtomSet, set_of}
use Rattle.ms_join.specs.Things.{Thing, IsThing, IsThingOf}
use Rattle.ms_join.specs.Things.Thing.{atom, aggregate}
use Rattle.ms_things.specs.Numbers.{AreThings, ext, known_truth}
use Rattle.ms_things.specs.Signs.{IsContainedIn, IsFor}
use Rattle.ms_loops.specs.Founded.{AgreesOnAtoms, ContainsNone, IsOverBase}
use Rattle.ms_loops.specs.Laws.{AssignmentsArePossible, CompletionAndLoops, PossibleIsOverBase}
use Rattle.ms_lawful.specs.Problems.{HasNogood, HasNoKept, IsAdmitted, MeetsStart, Problem, holds_under, true_atoms}
use Rattle.ms_complete.proofs.Lists.{any_none, at_some, member_of, some_at, some_once}
use Rattle.ms_problem.specs.Numbered.{AreNumbers, numbers_in, said}
use Rattle.ms_solver.specs.Numbered.{atoms_of, places}
use Rattle.ms_solver.specs.Admitted.{AdmittedAreAsked, AskedAreFound, AtomsDecide, Asks, IsFound}
use Rattle.ms_problem.specs.Solves.{IsAskedFor, IsListed, problem_of}
use Rattle.ms_solver.specs.States.{IsLasting}
use Rattle.ms_solver.proofs.Picked.{atoms_of_filter, filter_alike, has_from_set_of, place_set, places_set}

-- ---- literals and truths

holds_is : (wanted has : Bool) → IsTrue (if wanted then has else not has) → has ≡ wanted
holds_is true true is = refl
holds_is true false is = absurd (false≢true is)
holds_is false true is = absurd (false≢true is)
holds_is false false is = refl

is_holds : (wanted has : Bool) → has ≡ wanted → IsTrue (if wanted then has else not has)
is_holds true true is = refl
is_holds true false is = absurd (false≢true is)
is_holds false true is = absurd (false≢true (sym is))
is_holds false false is = refl

pub contained_from : (truth : ℕ → Bool) (nogood : Nogood) → HasNogood truth nogood → IsContainedIn truth nogood
contained_from truth = All-weaker (λ (l : Lit). IsTrue (holds_under truth l)) (λ (l : Lit). truth l.var ≡ l.truth) (λ l is. holds_is l.truth (truth l.var) is)

pub has_from : (truth : ℕ → Bool) (nogood : Nogood) → IsContainedIn truth nogood → HasNogood truth nogood
has_from truth = All-weaker (λ (l : Lit). truth l.var ≡ l.truth) (λ (l : Lit). IsTrue (holds_under truth l)) (λ l is. is_holds l.truth (truth l.var) is)

-- ---- a join whose rules have no aggregates

no_aggregate : (j : Join) → IsJoin j → (g : GroundAgg) → ¬ IsThing j.atoms j.rules (aggregate g)
no_aggregate j join g some =
    let over = All-contains (IsRuleOver j.atoms) j.rules some.1 join.over.rules (member_of (λ rule. IsThingOf rule (aggregate g)) j.rules some) in
    any_none (λ (s : SignedAgg). s.agg ≡ g) (subst (λ (ss : List SignedAgg). Any (λ (s : SignedAgg). s.agg ≡ g) ss) over.plain some.4)

module _ (j : Join) (things : List Thing) (numbers : List ℕ) (join : IsJoin j) (are : AreThings j things) (ns : AreNumbers things j.atoms numbers) where
  -- an atom that is a thing has its number among the numbers
  pub number_at : (a k : ℕ) → slice_get things k ≡ Some (atom a) → slice_get numbers a ≡ Some k
  number_at a k at =
      let low : a < j.atoms = (are.exactly (atom a)).0 (some_at things k (atom a) at) in
      let long : a < length numbers = subst (λ (n : ℕ). a < n) (sym ns.counted) low in
      let number : ℕ = get_or numbers a 0 in
      let here : slice_get numbers a ≡ Some number = slice_get-get_or numbers a 0 long in
      here ∙ ap Some (some_once things are.once number k (atom a) (ns.each a number here) at)

  pub number_within : (n : ℕ) → Contains numbers n → n < length things
  number_within n has = let at = at_some numbers n has in slice_get_within things n (atom at.0) (ns.each at.0 n at.1)

  module _ (truth : ℕ → Bool) where
    abbrev pub set_under : List ℕ
    set_under = places truth 0 numbers

    pub set_under_over : IsAtomSet j.atoms set_under
    set_under_over = subst (λ (n : ℕ). IsAtomSet n set_under) ns.counted (places_set truth numbers)

    over_base : IsOverBase j (set_of set_under)
    over_base a is = All-contains (λ (b : ℕ). b < j.atoms) set_under a set_under_over.within (has_from_set_of set_under a is)

    pub agrees : AgreesOnAtoms things truth (set_of set_under)
    agrees a k at = sym (place_set truth numbers a k (number_at a k at))

    module _ (law : AssignmentsArePossible) (none : ContainsNone j things truth) where
      pub possible_under : IsPossible j (set_of set_under)
      possible_under = (law j things truth (set_of set_under) join are over_base agrees none).0

      pub ext_under : (k : ℕ) → k < length things → truth k ≡ ext (set_of set_under) things k
      ext_under = (law j things truth (set_of set_under) join are over_base agrees none).1

      -- the numbers of the set are the atoms that are true
      pub numbers_under : numbers_in things numbers set_under ≡ filter truth numbers
      numbers_under = filter_alike (ext (set_of set_under) things) truth numbers (λ n has. sym (ext_under n (number_within n has)))

-- the truths of the things in the set of such an assignment are those of the assignment
none_from : (j : Join) (things : List Thing) (numbers : List ℕ) (ask : AtomAsk) (start : List Lit) (kept : List Nogood) (truth : ℕ → Bool)
    → IsJoin j → IsAdmitted (problem_of j things numbers kept ask start) truth → ContainsNone j things truth
none_from j things numbers ask start kept truth join admitted = record {
  completion = λ n is contained. admitted.completed n is (has_from truth n contained);
  loops = λ n is contained. admitted.accepted n is (has_from truth n contained);
  aggregates = λ n is contained. no_aggregate j join is.about is.of_join;
}

module _ (j : Join) (things : List Thing) (numbers : List ℕ) (ask : AtomAsk) (start : List Lit) (kept : List Nogood) (asks : Asks j things numbers ask start) where
  abbrev problem : Problem
  problem = problem_of j things numbers kept ask start

  -- the assumptions hold where what is demanded does
  meets_each : (truth : ℕ → Bool) → MeetsStart problem truth → MeetsEach (set_under j things numbers asks.join asks.are asks.numbered truth) ask.assume
  meets_each truth meets = All-weaker (λ (s : AtomLit). Any (IsFor things (said s)) start) (λ (s : AtomLit). set_of (set_under j things numbers asks.join asks.are asks.numbered truth) s.atom ≡ s.truth)
      (λ s some.
      let holds : truth some.1.var ≡ some.1.truth = All-contains (λ (l : Lit). truth l.var ≡ l.truth) start some.1 (contained_from truth start meets.demanded) (member_of (IsFor things (said s)) start some) in
      sym (agrees j things numbers asks.join asks.are asks.numbered truth s.atom some.1.var some.4.0) ∙ (holds ∙ some.4.1))
      ask.assume asks.demands.all

  pub listed_by : AssignmentsArePossible → (truth : ℕ → Bool) → IsAdmitted problem truth → MeetsStart problem truth → IsListed j things numbers ask (true_atoms problem truth)
  listed_by law truth admitted meets =
      let none = none_from j things numbers ask start kept truth asks.join admitted in
      record {
        set = set_under j things numbers asks.join asks.are asks.numbered truth;
        asked = record {
          over_base = set_under_over j things numbers asks.join asks.are asks.numbered truth;
          answers = possible_under j things numbers asks.join asks.are asks.numbered truth law none;
          assumed = meets_each truth meets;
        };
        same = numbers_under j things numbers asks.join asks.are asks.numbered truth law none;
      }

  pub decided_by : AssignmentsArePossible → (truth other : ℕ → Bool) → IsAdmitted problem truth → IsAdmitted problem other → true_atoms problem truth ≡ true_atoms problem other
      → (k : ℕ) → k < length things → truth k ≡ other k
  decided_by law truth other admitted another same k within =
      let one = ext_under j things numbers asks.join asks.are asks.numbered truth law (none_from j things numbers ask start kept truth asks.join admitted) k within in
      let two = ext_under j things numbers asks.join asks.are asks.numbered other law (none_from j things numbers ask start kept other asks.join another) k within in
      let sets : places truth 0 numbers ≡ places other 0 numbers = sym (atoms_of_filter truth numbers) ∙ (ap (atoms_of numbers) same ∙ atoms_of_filter other numbers) in
      one ∙ (ap (λ (set : List ℕ). ext (set_of set) things k) sets ∙ sym two)

  -- the truths of the things in a possible set
  pub admitted_by : CompletionAndLoops → PossibleIsOverBase → (set : ℕ → Bool) → IsPossible j set → IsAdmitted problem (ext set things)
  admitted_by law over set possible =
      let none = (law j things set asks.join asks.are (over j set asks.join possible)).0 possible in
      record {
        completed = λ n base has. none.completion n base (contained_from (ext set things) n has);
        accepted = λ n loop has. none.loops n loop (contained_from (ext set things) n has);
      }

  pub none_kept_by : (set : ℕ → Bool) → IsPossible j set → All (IsLasting j things) kept → HasNoKept problem (ext set things)
  none_kept_by set possible lasting = All-weaker (IsLasting j things) (λ (n : Nogood). ¬ HasNogood (ext set things) n)
      (λ n l has. l.consequence set possible (contained_from (ext set things) n has)) kept lasting

  module _ (set : List ℕ) (is : IsAskedFor j ask set) where
    over : IsOverBase j (set_of set)
    over a has = All-contains (λ (b : ℕ). b < j.atoms) set a is.over_base.within (has_from_set_of set a has)

    truth_of : (s : AtomLit) (l : Lit) → IsFor things (said s) l → set_of set s.atom ≡ s.truth → ext (set_of set) things l.var ≡ l.truth
    truth_of s l for meets = ap (known_truth (set_of set)) for.0 ∙ (meets ∙ sym for.1)

    pub found_by : CompletionAndLoops → ask.impossible ≡ false → All (IsLasting j things) kept → IsFound problem (ext (set_of set) things)
    found_by law possible lasting =
        let none = (law j things (set_of set) asks.join asks.are over).0 is.answers in
        record {
          admitted = record {
            completed = λ n base has. none.completion n base (contained_from (ext (set_of set) things) n has);
            accepted = λ n loop has. none.loops n loop (contained_from (ext (set_of set) things) n has);
          };
          meets = record {
            possible = possible;
            demanded = has_from (ext (set_of set) things) start (All-weaker (λ (l : Lit). Any (λ (s : AtomLit). IsFor things (said s) l) ask.assume) (λ (l : Lit). ext (set_of set) things l.var ≡ l.truth)
                (λ l some. truth_of some.1 l some.4 (All-contains (λ (s : AtomLit). set_of set s.atom ≡ s.truth) ask.assume some.1 is.assumed (member_of (λ (s : AtomLit). IsFor things (said s) l) ask.assume some)))
                start asks.demands.each);
          };
          none_kept = none_kept_by (set_of set) is.answers lasting;
        }

pub admitted_are_asked : AssignmentsArePossible → AdmittedAreAsked
admitted_are_asked law j things numbers ask start kept truth asks = listed_by j things numbers ask start kept asks law truth

pub asked_are_found : CompletionAndLoops → AskedAreFound
asked_are_found law j things numbers ask start kept set asks possible lasting is = found_by j things numbers ask start kept asks set is law possible lasting

pub atoms_decide : AssignmentsArePossible → AtomsDecide
atoms_decide law j things numbers ask start kept truth other asks = decided_by j things numbers ask start kept asks law truth other
