-- Steps that change the texts alone.
use Rattle.std.specs.Prelude.{ℕ, List, []}
use Rattle.ms_tree.specs.Tree.{Tree}
use Rattle.ms_core.specs.Texts.{Texts}
use Rattle.ms_call.specs.declared.command.Command.{Command}
use Rattle.ms_join.specs.Modules.{Join}
use Rattle.ms_join.specs.Things.{Thing}
use Rattle.ms_lits.specs.Literals.{Nogood}
use Rattle.ms_machine.specs.declared.reply.Reply.{Reply}
use Rattle.ms_machine.specs.Machine.{Answers, Logs}
use Rattle.ms_machine.specs.Replies.{said_by}
use Rattle.ms_session.specs.Kept.{state_by, IsNamed}

-- The step changes the texts alone, without lines of the log, and its reply has no atom, whatever the base and the join are.
pub record StepsTexts (old : Texts) (command : Command) (new : Texts) (reply : Reply) : Type 0 where
  pub step : (table : List Tree) (base : List ℕ) (join : Join) (things : List Thing) (kept : List Nogood)
      → Answers (state_by table old base join things kept) command (said_by table reply) (state_by table new base join things kept)
  pub logs : (table : List Tree) (base : List ℕ) (join : Join) (things : List Thing) (kept : List Nogood)
      → Logs (state_by table old base join things kept) command (said_by table reply) [] (state_by table new base join things kept)
  pub named : (size : ℕ) → IsNamed size reply
