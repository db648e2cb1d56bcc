-- What the calls of an open session do.
use Rattle.std.specs.Prelude.{◌≡◌, List, [], length, map}
use Rattle.ms_tree.specs.Tree.{Tree}
use Rattle.ms_term.specs.Terms.{term_at}
use Rattle.ms_value.specs.Naming.{Keeps}
use Rattle.ms_call.specs.declared.command.Command.{Command}
use Rattle.ms_machine.specs.declared.reply.Reply.{Reply}
use Rattle.ms_machine.specs.Machine.{Answers, Logs, State}
use Rattle.ms_machine.specs.Replies.{said_by}
use Rattle.ms_session.specs.declared.open_session.Open.{Open}
use Rattle.ms_session.specs.Fitting.{IsSound, state_at}
use Rattle.ms_session.specs.Kept.{IsNamed}

-- the terms of the atoms of its base by their numbers
abbrev pub names_of : Open → List Tree
names_of o = map (term_at o.terms) o.base

-- the state of the machine that an open session stands for
abbrev pub state_in : Open → State
state_in o = state_at o.terms o.parts o.base o.join o.solver

-- what an open session keeps true
abbrev pub IsWhole : Open → Type 0
IsWhole o = IsSound o.terms o.base o.join o.solver

-- It is whole, and no lines of the log stand from the command before.
pub record IsReady (o : Open) : Type 0 where
  pub whole : IsWhole o
  pub silent : o.notes ≡ []

-- The machine may take this step with the lines of the log that stand then, and what names meant before they mean still.
pub record IsStep (old : Open) (command : Command) (new : Open) (reply : Reply) : Type 0 where
  pub answers : Answers (state_in old) command (said_by new.terms reply) (state_in new)
  pub logs : Logs (state_in old) command (said_by new.terms reply) new.notes (state_in new)
  pub whole : IsWhole new
  pub named : IsNamed (length new.terms) reply
  pub keeps : Keeps old.terms new.terms
