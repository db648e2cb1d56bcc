use Rattle.std.proofs.Common.{length, ◌-◌}
use Rattle.ms_lex.proofs.Strings.{HasReadString}
use Rattle.ms_lex.proofs.string.string_len.Given as goal

abbrev pub invariant-loop-len : goal.invariant-loop-len
invariant-loop-len l = HasReadString l.text l.len

abbrev pub decreases-loop-len : goal.decreases-loop-len
decreases-loop-len l = length l.initial.text - l.len
