-- The machine that keeps only the accepted texts and one join of ground modules, and solves it anew each time. Beside its
-- state it knows what the log has told.
use Rattle.std.specs.Prelude.{ℕ, ◌≡◌, ◌↔◌, ◌<◌, ◌++◌, true, List, [], All, Any, Contains, length, map, slice_get, Some, None}
use Rattle.ms_tree.specs.Tree.{Tree}
use Rattle.ms_tree.specs.Text.{tree_text}
use Rattle.ms_grammar.specs.declared.statement.Statement.{Statement}
use Rattle.ms_grammar.specs.Statements.{Reads, IsNoText}
use Rattle.ms_core.specs.Texts.{Texts, no_texts, with_text, const_twice}
use Rattle.ms_call.specs.declared.command.Assumption.{Assumption}
use Rattle.ms_call.specs.declared.command.Call.{Call}
use Rattle.ms_call.specs.declared.command.Command.{Command}
use Rattle.ms_call.specs.declared.command.Command.TheVariants.{Add, Ground, Assign, Release, Solve}
use Rattle.ms_join.specs.declared.assumption.AtomAsk.{AtomAsk}
use Rattle.ms_join.specs.declared.assumption.AtomLit.{AtomLit}
use Rattle.ms_join.specs.declared.ground_module.GroundModule.{GroundModule}
use Rattle.ms_join.specs.Modules.{Join, no_join, IsInput, IsJoined, IsAssigned, IsReleased, value_of}
use Rattle.ms_join.specs.Composability.{name_of, IsComposable, IsTooMany, IsFirstRedefined, IsFirstLoop, IsFirstRecursive}
use Rattle.ms_join.specs.Things.{Thing}
use Rattle.ms_lits.specs.Literals.{Nogood}
use Rattle.ms_lits.specs.declared.note.Note.{Note}
use Rattle.ms_lits.specs.declared.lit.Lit.{Lit}
use Rattle.ms_lits.specs.declared.note.Ending.{Ending}
use Rattle.ms_lawful.specs.Lines.{answers_in}
use Rattle.ms_lawful.specs.Parts.{IsSolvePart, kept_after, last_of, most_kept}
use Rattle.ms_problem.specs.Numbered.{AreNumbers, numbers_in}
use Rattle.ms_problem.specs.Solves.{Demands, problem_of}
use Rattle.ms_copies.specs.Limits.{IsTooLarge}
use Rattle.ms_machine.specs.declared.reply.Refusal.TheVariants.{Syntax, Const, Later, TooLarge, TooMany, Redefined, CrossLoop, RecursiveAggregate}
use Rattle.ms_solving.specs.Grounding.{core_of_calls, Grounds}
use Rattle.ms_solving.specs.Listing.{IsListing, Solves, tree_of_value}
use Rattle.ms_solving.specs.Showing.{shows_atom}
use Rattle.ms_machine.specs.Logging.{LogsThings}
use Rattle.ms_machine.specs.Replies.{Output, Reply, ending_text, added, grounded, assigned, released, no_effect, solved, refused}
use Rattle.ms_copies.specs.Simplifying.{ArePlain}

-- What the machine keeps: the accepted texts, the terms of the atoms of the base by their numbers, and the join; and what
-- the log has told: the things that it declared, in their order, and the nogoods that are kept by it.
pub record State : Type 0 where
  pub texts : Texts
  pub names : List Tree
  pub join : Join
  pub things : List Thing
  pub kept : List Nogood

-- before the first command
abbrev pub start : State
start = record { texts = no_texts; names = []; join = no_join; things = []; kept = [] }

-- The number of the atom of the base that has this term, where it is an input.
pub record IsInputNamed (s : State) (t : Tree) (a : ℕ) : Type 0 where
  pub named : slice_get s.names a ≡ Some t
  pub input : IsInput s.join a

-- the calls have this module, whose new atoms have these terms
abbrev pub GroundsCalls : State → List Call → List Tree → GroundModule → Type 0
GroundsCalls s calls names m = Grounds s.names (core_of_calls s.texts calls) names m

-- The module was joined.
pub record Joins (old : State) (calls : List Call) (atoms count : ℕ) (new : State) : Type 0 where
  pub names : List Tree
  pub ground_module : GroundModule
  pub grounds : GroundsCalls old calls names ground_module
  pub composable : IsComposable old.join ground_module
  pub atoms_are : atoms ≡ length names
  pub rules_are : count ≡ length ground_module.rules
  pub texts : new.texts ≡ old.texts
  pub longer : new.names ≡ old.names ++ names
  pub joined : IsJoined old.join ground_module new.join

-- The module can't be joined, for this reason.
pub record IsRefused (old : State) (calls : List Call) (Why : List Tree → GroundModule → Type 0) : Type 0 where
  pub names : List Tree
  pub ground_module : GroundModule
  pub grounds : GroundsCalls old calls names ground_module
  pub why : Why (old.names ++ names) ground_module

-- the least head that is an output already, by its text
abbrev pub RedefinesAs : Join → List ℕ → List Tree → GroundModule → Type 0
RedefinesAs j atom names m = (a : ℕ) × IsFirstRedefined names j m a × (atom ≡ tree_text (name_of names a))

-- the least head in one component with an output, and the least such output, by their texts
abbrev pub LoopsAs : Join → List ℕ → List ℕ → List Tree → GroundModule → Type 0
LoopsAs j new_head old names m =
    (a : ℕ) × (b : ℕ) × IsFirstLoop names j m a b × (new_head ≡ tree_text (name_of names a)) × (old ≡ tree_text (name_of names b))

-- the least head that depends through an aggregate on an atom of its own component, by its text
abbrev pub RecursesAs : Join → List ℕ → List Tree → GroundModule → Type 0
RecursesAs j atom names m = (a : ℕ) × IsFirstRecursive names j m a × (atom ≡ tree_text (name_of names a))

-- In the state `old` the machine may give this reply to the command and go on to `new`. A refusal leaves the
-- state as it is.
abbrev pub Answers : State → Command → Reply → State → Type 0
Answers old (Add text) (added count) new =
    (statements : List Statement) × Reads text statements × (const_twice old.texts statements ≡ None)
    × (count ≡ length statements) × (new ≡ record old { texts = with_text old.texts statements })
Answers old (Add text) (refused (Syntax line)) new = IsNoText text line × (new ≡ old)
-- a constant is defined a second time
Answers old (Add text) (refused (Const line)) new =
    (statements : List Statement) × Reads text statements × (const_twice old.texts statements ≡ Some line) × (new ≡ old)
Answers old (Ground calls) (grounded atoms count) new = Joins old calls atoms count new
-- a core rule has an aggregate
Answers old (Ground calls) (refused Later) new = (¬ ArePlain (core_of_calls old.texts calls)) × (new ≡ old)
Answers old (Ground calls) (refused TooLarge) new =
    ArePlain (core_of_calls old.texts calls) × IsTooLarge old.names (core_of_calls old.texts calls) × (new ≡ old)
Answers old (Ground calls) (refused TooMany) new = IsRefused old calls (λ names m. IsTooMany old.join m) × (new ≡ old)
Answers old (Ground calls) (refused (Redefined atom)) new = IsRefused old calls (RedefinesAs old.join atom) × (new ≡ old)
Answers old (Ground calls) (refused (CrossLoop new_head other)) new = IsRefused old calls (LoopsAs old.join new_head other) × (new ≡ old)
Answers old (Ground calls) (refused (RecursiveAggregate atom)) new = IsRefused old calls (RecursesAs old.join atom) × (new ≡ old)
Answers old (Assign atom truth) assigned new =
    ((a : ℕ) × IsInputNamed old (tree_of_value atom) a × IsAssigned old.join a (value_of truth) new.join)
    × (new.texts ≡ old.texts) × (new.names ≡ old.names)
Answers old (Assign atom truth) no_effect new = ((a : ℕ) → ¬ IsInputNamed old (tree_of_value atom) a) × (new ≡ old)
Answers old (Release atom) released new =
    ((a : ℕ) × IsInputNamed old (tree_of_value atom) a × IsReleased old.join a new.join)
    × (new.texts ≡ old.texts) × (new.names ≡ old.names)
Answers old (Release atom) no_effect new = ((a : ℕ) → ¬ IsInputNamed old (tree_of_value atom) a) × (new ≡ old)
Answers old (Solve asked limit assume) (solved ending count most listing) new =
    Solves (shows_atom old.texts) old.names old.join assume asked ending count listing
    × (most ≡ limit) × (new.texts ≡ old.texts) × (new.names ≡ old.names) × (new.join ≡ old.join)
-- no other reply is given
Answers old command reply new = ⊥

-- What is demanded of an atom: the value of an input that isn't free, or what is assumed.
pub data IsDemanded (s : State) (assume : List Assumption) (lit : AtomLit) : Type 0 where
  by_input : Contains s.join.inputs (record { atom = lit.atom; value = Some lit.truth }) → IsDemanded s assume lit
  by_assumption : Any (λ given. (slice_get s.names lit.atom ≡ Some (tree_of_value given.atom)) × (lit.truth ≡ given.truth)) assume → IsDemanded s assume lit

-- An atom outside the base is assumed true.
abbrev pub IsImpossible : State → List Assumption → Type 0
IsImpossible s assume = Any (λ given. (given.truth ≡ true) × ¬ Contains s.names (tree_of_value given.atom)) assume

-- What the join is asked, by the numbers of atoms.
pub record IsAskOf (s : State) (asked limit : ℕ) (assume : List Assumption) (ask : AtomAsk) : Type 0 where
  pub count : ask.count ≡ asked
  pub limit_is : ask.limit ≡ limit
  pub each : All (IsDemanded s assume) ask.assume
  pub all : (lit : AtomLit) → IsDemanded s assume lit → Contains ask.assume lit
  pub impossible : (ask.impossible ≡ true) ↔ IsImpossible s assume

-- The part of a solve is lawful: its nogoods follow from the completion and the loops of the join, from what was kept
-- before and from the answers that it lists, which are those of the reply. What it keeps comes behind what was kept.
pub record LogsSolve (old : State) (asked limit : ℕ) (assume : List Assumption) (ending : Ending) (count : ℕ) (listing : List (List Tree)) (log : List Note) (new : State) : Type 0 where
  pub ask : AtomAsk
  pub is_ask : IsAskOf old asked limit assume ask
  pub numbers : List ℕ
  pub numbered : AreNumbers old.things old.join.atoms numbers
  pub start : List Lit
  pub demands : Demands old.things ask start
  pub part : IsSolvePart (problem_of old.join old.things numbers (last_of most_kept old.kept) ask start) ending (ending_text ending count limit) log
  pub sets : List (List ℕ)
  pub answers : answers_in log ≡ map (numbers_in old.things numbers) sets
  pub listed : IsListing (shows_atom old.texts) old.names sets listing
  pub things : new.things ≡ old.things
  pub kept : new.kept ≡ kept_after old.kept log

-- What a step adds to the log, and what the log has told after it: where a module was joined, the declarations of the
-- things that are new, and the part of a solve. No other command gives lines.
abbrev pub Logs : State → Command → Reply → List Note → State → Type 0
Logs old (Ground calls) (grounded atoms count) log new =
    LogsThings new.join new.names old.things log new.things × (new.kept ≡ old.kept)
Logs old (Solve asked limit assume) (solved ending count most listing) log new = LogsSolve old asked limit assume ending count listing log new
Logs old command reply log new = (log ≡ []) × (new.things ≡ old.things) × (new.kept ≡ old.kept)

-- In the state `old` the machine may give this output for the command and go on to `new`.
pub record Step (old : State) (command : Command) (output : Output) (new : State) : Type 0 where
  pub answers : Answers old command output.reply new
  pub logs : Logs old command output.reply output.log new
