use Rattle.std.proofs.Common.{◌≡◌, ◌++◌, false, drop}
use Rattle.ms_grammar.specs.Words.{unescaped}
use Rattle.ms_read_term.proofs.string.unescape.Given as goal

abbrev pub invariant-loop-byte : goal.invariant-loop-byte
invariant-loop-byte l = l.bytes ++ unescaped l.behind (drop l.byte-index l.quoted) ≡ unescaped false l.quoted
