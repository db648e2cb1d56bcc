use Rattle.std.proofs.Common.{None}
use Rattle.ms_lines.proofs.WholeScripts.{told_item, told_nothing}
use Rattle.ms_lines.proofs.pieces.take_whole.Goals as goal

pub loop-fed-preserved : goal.loop-fed-preserved
loop-fed-preserved c = λ bytes told. told_item bytes c.loop-fed.said c.loop-fed.lines c.next_command.new.self c.in_ok-fed.fed _ c.in_ok-push-in_default.ensures.ok (c.loop-fed.invariant bytes told) c.in_ok-fed.ensures.said

pub returns-in-NotYet : goal.returns-in-NotYet
returns-in-NotYet c = λ bytes told. told_nothing bytes c.loop-fed.said c.loop-fed.lines c.next_command.new.self (c.loop-fed.invariant bytes told) (rw c.in-NotYet.is at c.in_ok-fed.ensures.said)
