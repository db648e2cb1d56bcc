use Rattle.ms_read_value.proofs.Quoted.{HasRead}
use Rattle.ms_read_value.proofs.strings.unescaped.Given as goal

abbrev pub invariant-loop-byte : goal.invariant-loop-byte
invariant-loop-byte l = HasRead l.quoted l.behind l.byte-index l.bytes
