-- What a session keeps, and what its calls do.
use Rattle.std.specs.Prelude.{ℕ, ◌≡◌, ◌<◌, Bool, true, false, List, [], Option, Some, All, Contains, MatchOption, length, map, slice_get, ⊤}
use Rattle.ms_tree.specs.Tree.{Tree}
use Rattle.ms_term.specs.Terms.{term_at}
use Rattle.ms_grammar.specs.declared.value.Value.{Value}
use Rattle.ms_core.specs.Texts.{Texts, with_given}
use Rattle.ms_call.specs.declared.command.Command.{Command}
use Rattle.ms_base.specs.declared.truth.Truth.{Truth}
use Rattle.ms_base.specs.declared.truth.Effect.{Effect}
use Rattle.ms_base.specs.declared.truth.Effect.TheVariants.{Done, NoEffect}
use Rattle.ms_join.specs.Modules.{Join, IsInput, IsAssigned, IsReleased, value_of}
use Rattle.ms_join.specs.Things.{Thing}
use Rattle.ms_lits.specs.Literals.{Nogood}
use Rattle.ms_lits.specs.declared.note.Note.{Note}
use Rattle.ms_value.specs.Naming.{Keeps}
use Rattle.ms_machine.specs.declared.reply.Reply.{Reply as kept_reply}
use Rattle.ms_machine.specs.declared.reply.Reply.TheVariants.{Solved}
use Rattle.ms_machine.specs.Machine.{State, Step}
use Rattle.ms_machine.specs.Replies.{said_by}

-- A session has met want of memory or hasn't. It keeps a table of terms by their names, the accepted texts, the names of
-- the atoms of the base by their numbers, the join, the things that the log has declared, the nogoods that are kept from
-- solve to solve, and the lines of the log that the last command gave.
pub record Kept : Type 0 where
  pub sealed : Bool
  pub table : List Tree
  pub texts : Texts
  pub base : List ℕ
  pub join : Join
  pub things : List Thing
  pub kept : List Nogood
  pub notes : List Note

-- the state of the machine, where these are the terms by their names
abbrev pub state_by : List Tree → Texts → List ℕ → Join → List Thing → List Nogood → State
state_by table texts base join things kept = record { texts = texts; names = map (term_at table) base; join = join; things = things; kept = kept }

-- the state of the machine that the session stands for
abbrev pub state_of : Kept → State
state_of k = state_by k.table k.texts k.base k.join k.things k.kept

-- each name in the reply is one of a table of so many terms
abbrev pub IsNamed : ℕ → kept_reply → Type 0
IsNamed size (Solved ending count limit shown) = All (All (λ t. t < size)) shown
IsNamed size reply = ⊤

-- The command was done: the session wasn't sealed and isn't, and the machine may take this step. What names meant before
-- they mean still.
pub record IsDone (old : Kept) (command : Command) (new : Kept) (reply : kept_reply) : Type 0 where
  pub was_open : old.sealed ≡ false
  pub is_open : new.sealed ≡ false
  pub step : Step (state_of old) command (record { reply = said_by new.table reply; log = new.notes }) (state_of new)
  pub named : IsNamed (length new.table) reply
  pub keeps : Keeps old.table new.table

-- There was no memory for the call, or the session was sealed before, and then nothing changed.
pub record IsSealed (old new : Kept) : Type 0 where
  pub sealed : new.sealed ≡ true
  pub same : old.sealed ≡ true → new ≡ old

-- The constant was given a value from outside, and nothing else changed. No lines of the log stand.
pub record IsGiven (old : Kept) (name : List ℕ) (value : Value) (new : Kept) : Type 0 where
  pub was_open : old.sealed ≡ false
  pub given : new ≡ record old { texts = with_given old.texts name value; notes = [] }

-- the atom with this term has this number, and no other has
pub record IsAtomOf (names : List Tree) (t : Tree) (a : ℕ) : Type 0 where
  pub there : slice_get names a ≡ Some t
  pub only : (b : ℕ) → slice_get names b ≡ Some t → b ≡ a

-- the number of the atom with this term, or none exactly where there is no such atom
abbrev pub IsNumberOf : List Tree → Tree → Option ℕ → Type 0
IsNumberOf names t number = MatchOption number (¬ Contains names t) (IsAtomOf names t)

-- The base has the atom with this term under this number, or none. Nothing changes, and the last command's lines of the log
-- stand.
pub record IsFound (old : Kept) (t : Tree) (new : Kept) (number : Option ℕ) : Type 0 where
  pub was_open : old.sealed ≡ false
  pub same : new ≡ old
  pub found : IsNumberOf (state_of old).names t number

-- The input has this truth from now on, and nothing else changes. Nothing does where the atom is no input. No lines of the
-- log stand.
abbrev pub Assigns : Kept → ℕ → Truth → Kept → Effect → Type 0
Assigns old a truth new Done = IsInput old.join a × IsAssigned old.join a (value_of truth) new.join × (new ≡ record old { join = new.join; notes = [] })
Assigns old a truth new NoEffect = (¬ IsInput old.join a) × (new ≡ record old { notes = [] })

-- The input is an output without a rule from now on, and nothing else changes. Nothing does where the atom is no input. No
-- lines of the log stand.
abbrev pub Releases : Kept → ℕ → Kept → Effect → Type 0
Releases old a new Done = IsInput old.join a × IsReleased old.join a new.join × (new ≡ record old { join = new.join; notes = [] })
Releases old a new NoEffect = (¬ IsInput old.join a) × (new ≡ record old { notes = [] })
