-- What a search solves: the nogoods of kind Base, those that a theory may give, and what is demanded.
use Rattle.std.specs.Prelude.{ℕ, ◌≡◌, ◌<◌, ◌≤◌, ◌⊎◌, Bool, false, List, [], Option, Some, option_map, All}
use Rattle.std.specs.List.{filter_map}
use Rattle.ms_lits.specs.declared.trail.Entry.{Entry}
use Rattle.ms_lits.specs.Literals.{Nogood}
use Rattle.ms_nogood.specs.Theories.{Agree}
use Rattle.ms_nogood.specs.Store.{Store, Stored, nogood_at, slot_at}
use Rattle.ms_nogood.specs.declared.kind.Kind.TheVariants.{Base, Kept}
use Rattle.ms_lawful.specs.Problems.{Problem, IsAdmitted, MeetsStart, true_atoms}
use Rattle.ms_lawful.specs.Parts.{last_of, most_kept}
use Rattle.ms_search.specs.declared.ask.Ask.{Ask}

-- The nogood is in the store with the kind Base.
pub record IsBase (store : Store) (nogood : Nogood) : Type 0 where
  pub key : ℕ
  pub stored : Stored
  pub found : nogood_at store key ≡ Some stored
  pub base : stored.kind ≡ Some Base
  pub same : stored.lits ≡ nogood

-- the literals of a key
abbrev pub literals_at : Store → ℕ → Option Nogood
literals_at store key = option_map (λ s. s.lits) (slot_at store key)

-- the kept nogoods of a store, in the order in which they were added
abbrev pub kept_nogoods : Store → List Nogood
kept_nogoods store = filter_map (literals_at store) store.kept

-- These are the true atoms of an admitted assignment that has what is demanded.
pub record IsAnswer (problem : Problem) (answer : List ℕ) : Type 0 where
  pub truth : ℕ → Bool
  pub admitted : IsAdmitted problem truth
  pub meets : MeetsStart problem truth
  pub answers : true_atoms problem truth ≡ answer

-- any list may be listed
abbrev pub open_problem : (Nogood → Type 0) → (Nogood → Type 0) → List Nogood → Ask → List ℕ → Problem
open_problem InProgram MayGive kept ask atoms = record {
  Base = InProgram;
  Gives = MayGive;
  Member = λ _. Unit {0};
  things = ask.vars;
  atoms = atoms;
  kept = kept;
  impossible = ask.impossible;
  start = ask.assume;
  asked = ask.count;
  limit = ask.limit;
}

-- The problem of a search over a store with a theory that gives these: answers may be listed.
abbrev pub problem_of : (Nogood → Type 0) → Store → Ask → List ℕ → Problem
problem_of MayGive store ask atoms = record (open_problem (IsBase store) MayGive (last_of most_kept (kept_nogoods store)) ask atoms) {
  Member = IsAnswer (open_problem (IsBase store) MayGive (last_of most_kept (kept_nogoods store)) ask atoms);
}

-- a problem without things
abbrev pub nothing_asked : Problem
nothing_asked = record {
  Base = λ _. ⊥;
  Gives = λ _. ⊥;
  Member = λ _. Unit {0};
  things = 0;
  atoms = [];
  kept = [];
  impossible = false;
  start = [];
  asked = 0;
  limit = 0;
}

-- Each nogood of the store is of kind Base or Kept.
abbrev pub AreLasting : Store → Type 0
AreLasting store = (key : ℕ) (stored : Stored) → nogood_at store key ≡ Some stored → (stored.kind ≡ Some Base) ⊎ (stored.kind ≡ Some Kept)

-- Admitted assignments that agree on all atoms are equal.
abbrev pub AreUnique : Problem → Type 0
AreUnique problem =
    (truth other : ℕ → Bool) → IsAdmitted problem truth → IsAdmitted problem other → true_atoms problem truth ≡ true_atoms problem other
    → (var : ℕ) → var < problem.things → truth var ≡ other var

-- What a problem owes to the search.
pub record IsTarget (problem : Problem) : Type 0 where
  pub possible : problem.impossible ≡ false
  pub member : (answer : List ℕ) → IsAnswer problem answer → problem.Member answer
  pub unique : AreUnique problem
  pub atoms_within : All (λ atom. atom < problem.things) problem.atoms
  pub start_within : All (λ lit. lit.var < problem.things) problem.start

-- What a theory owes to the problem.
pub record IsTheoryOf (problem : Problem) (vars : ℕ) (leans_on gives : Nogood → Type 0) : Type 0 where
  pub within : vars ≤ problem.things
  pub leans : (nogood : Nogood) → leans_on nogood → problem.Base nogood
  pub into : (nogood : Nogood) → gives nogood → problem.Gives nogood
  pub back : (nogood : Nogood) → problem.Gives nogood → gives nogood

-- A theory means what it meant before.
pub record MeansTheSame (old_vars new_vars : ℕ) (old_leans new_leans old_gives new_gives : Nogood → Type 0) (old_settled new_settled : List Entry → Type 0) : Type 0 where
  pub vars : new_vars ≡ old_vars
  pub leans : Agree new_leans old_leans
  pub gives : Agree new_gives old_gives
  pub settled : Agree new_settled old_settled
