-- What one solve is about, and the total assignments that it looks for. Things are numbered from 0, and a literal is
-- a thing with its truth. Nogoods are given by what holds of each of them.
-- Source: Gebser, Kaufmann and Schaub, "Conflict-driven answer set solving: from theory to practice" (2012).
use Rattle.std.specs.Prelude.{ℕ, ◌≡◌, Bool, false, not, IsTrue, if◌then◌else◌, List, All, filter, map}
use Rattle.ms_lits.specs.declared.lit.Lit.{Lit}
use Rattle.ms_lits.specs.Literals.{Nogood, IsWhole}

-- What one solve is about.
pub record Problem : Type 1 where
  -- the completion nogoods
  pub Base : Nogood → Type 0
  -- the nogoods that theories may give
  pub Gives : Nogood → Type 0
  -- the lists of true atoms of what is to be listed
  pub Member : List ℕ → Type 0
  -- how many things there are
  pub things : ℕ
  -- the things that are atoms, in rising order
  pub atoms : List ℕ
  -- the nogoods kept from earlier solves
  pub kept : List Nogood
  -- whether an atom that no answer has is assumed true
  pub impossible : Bool
  -- the literals that inputs and assumptions demand
  pub start : List Lit
  -- how many answers are asked for
  pub asked : ℕ
  -- how many nogoods may be learned beside the answers' own
  pub limit : ℕ

-- the literal holds where each thing has the truth that it has here
abbrev pub holds_under : (ℕ → Bool) → Lit → Bool
holds_under truth lit = if lit.truth then truth lit.var else not (truth lit.var)

-- each literal of the nogood holds in the assignment
abbrev pub HasNogood : (ℕ → Bool) → Nogood → Type 0
HasNogood truth nogood = IsWhole (holds_under truth) nogood

-- The assignment contains no completion nogood and none that a theory may give.
pub record IsAdmitted (problem : Problem) (truth : ℕ → Bool) : Type 0 where
  pub completed : (nogood : Nogood) → problem.Base nogood → ¬ HasNogood truth nogood
  pub accepted : (nogood : Nogood) → problem.Gives nogood → ¬ HasNogood truth nogood

-- The assignment contains none of the nogoods that were kept from earlier solves.
abbrev pub HasNoKept : Problem → (ℕ → Bool) → Type 0
HasNoKept problem truth = All (λ nogood. ¬ HasNogood truth nogood) problem.kept

-- The assignment has what inputs and assumptions demand.
pub record MeetsStart (problem : Problem) (truth : ℕ → Bool) : Type 0 where
  pub possible : problem.impossible ≡ false
  pub demanded : IsWhole (holds_under truth) problem.start

-- the atoms that are true
abbrev pub true_atoms : Problem → (ℕ → Bool) → List ℕ
true_atoms problem truth = filter truth problem.atoms

abbrev pub literal_of : (ℕ → Bool) → ℕ → Lit
literal_of truth thing = record { var = thing; truth = truth thing }

-- all atoms, each with its truth
abbrev pub signs_of_atoms : Problem → (ℕ → Bool) → Nogood
signs_of_atoms problem truth = map (literal_of truth) problem.atoms

-- No admitted assignment contains the nogood.
abbrev pub IsConsequence : Problem → Nogood → Type 0
IsConsequence problem nogood = (truth : ℕ → Bool) → IsAdmitted problem truth → ¬ HasNogood truth nogood

-- A problem whose nogoods and answers are given by tests, for laws that speak of every problem.
pub record TestedProblem : Type 0 where
  pub base : Nogood → Bool
  pub gives : Nogood → Bool
  pub member : List ℕ → Bool
  pub things : ℕ
  pub atoms : List ℕ
  pub kept : List Nogood
  pub impossible : Bool
  pub start : List Lit
  pub asked : ℕ
  pub limit : ℕ

abbrev pub problem_by : TestedProblem → Problem
problem_by tests = record {
  Base = λ nogood. IsTrue (tests.base nogood);
  Gives = λ nogood. IsTrue (tests.gives nogood);
  Member = λ atoms. IsTrue (tests.member atoms);
  things = tests.things;
  atoms = tests.atoms;
  kept = tests.kept;
  impossible = tests.impossible;
  start = tests.start;
  asked = tests.asked;
  limit = tests.limit;
}
