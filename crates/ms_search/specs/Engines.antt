-- Where a search stands, read off what it keeps.
use Rattle.std.specs.Prelude.{ℕ, ◌≡◌, ◌<◌, Bool, false, List, Option, Some, None, All, Contains}
use Rattle.ms_lits.specs.declared.lit.Lit.{Lit}
use Rattle.ms_lits.specs.declared.trail.Entry.{Entry}
use Rattle.ms_lits.specs.Literals.{Nogood, opposite_of}
use Rattle.ms_lits.specs.Assignment.{HoldsIn, value_in}
use Rattle.ms_nogood.specs.Store.{Store}
use Rattle.ms_nogood.specs.Theories.{BeginWith}
use Rattle.ms_lawful.specs.Problems.{Problem}
use Rattle.ms_search.specs.declared.ask.Ask.{Ask}
use Rattle.ms_search.specs.declared.engine.Engine.{Engine}
use Rattle.ms_search.specs.declared.log.Log.{Log}
use Rattle.ms_search.specs.declared.steps.Next.{Next}
use Rattle.ms_search.specs.declared.steps.Next.TheVariants as nexts
use Rattle.ms_search.specs.Points.{GoesOn, IsWired, Point}
use Rattle.ms_search.specs.Problems.{IsTheoryOf}

abbrev pub point_of : {P : Type 0} → Engine P → Store → Log → Point
point_of engine store log = record {
  trail = engine.trail;
  decisions = engine.decisions.items;
  store = store;
  lines = log.lines.items;
  spent = log.spent;
  answers = log.answers;
}

-- The problem is the one that is asked about.
pub record IsAskOf (problem : Problem) (ask : Ask) (named : List ℕ) : Type 0 where
  pub things : problem.things ≡ ask.vars
  pub atoms : problem.atoms ≡ named
  pub impossible : problem.impossible ≡ ask.impossible
  pub start : problem.start ≡ ask.assume
  pub asked : problem.asked ≡ ask.count
  pub limit : problem.limit ≡ ask.limit

-- A literal that is demanded is false.
pub record HasFalse (entries : List Entry) (start : List Lit) : Type 0 where
  pub lit : Lit
  pub among : Contains start lit
  pub opposite : HoldsIn entries (opposite_of lit)

-- What is demanded next.
abbrev pub IsNext : List Entry → List Lit → Next → Type 0
IsNext entries start (nexts.Assume lit) = Contains start lit × (value_in entries lit.var ≡ None)
IsNext entries start nexts.False = HasFalse entries start
IsNext entries start nexts.Free = All (HoldsIn entries) start

-- whether a variable of this value is true
abbrev pub is_true : Option Bool → Bool
is_true None = false
is_true (Some truth) = truth

-- the total assignment that agrees with the entries, and has false for each other variable
abbrev pub truth_in : List Entry → ℕ → Bool
truth_in entries var = is_true (value_in entries var)

-- Each variable below this number is assigned.
abbrev pub AllAssigned : ℕ → List Entry → Type 0
AllAssigned things entries = (var : ℕ) → var < things → value_in entries var ≡ Some (truth_in entries var)

-- What a search keeps is in step with its store and its trail, and with the problem.
pub record IsReady (problem : Problem) (begun store : Store) (entries : List Entry) (attached : ℕ → Bool) (InStep : Type 0) (front : List Entry) (vars : ℕ) (leans_on gives : Nogood → Type 0) : Type 0 where
  pub wired : IsWired attached store
  pub in_step : InStep
  pub seen : BeginWith entries front
  pub theory : IsTheoryOf problem vars leans_on gives
  pub goes_on : GoesOn begun store
