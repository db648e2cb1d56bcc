use Rattle.std.proofs.Common.{None, length}
use Rattle.ms_lines.specs.Buffers.{IsEndOf}
use Rattle.ms_lines.specs.Feeding.{SaysThen}
use Rattle.ms_lines.proofs.Lines.next_command.Given as goal

abbrev pub invariant-loop-len : goal.invariant-loop-len
invariant-loop-len l = record { said : SaysThen l.initial.self None l.self; kept : IsEndOf l.initial.self.rest l.self.rest }

abbrev pub decreases-loop-len : goal.decreases-loop-len
decreases-loop-len l = length l.self.rest
