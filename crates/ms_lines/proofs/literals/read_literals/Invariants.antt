use Rattle.std.proofs.Common.{length}
use Rattle.ms_text.specs.Tokens.{LieWithin}
use Rattle.ms_grammar.specs.Words.{words_of}
use Rattle.ms_call.specs.Commands.{IsLiteral}
use Rattle.ms_lines.proofs.Sequences.{GoesOn}
use Rattle.ms_lines.proofs.literals.read_literals.Given as goal

abbrev pub invariant-loop-literals : goal.invariant-loop-literals
invariant-loop-literals l = record { inside : LieWithin (length l.text) l.rest; goes : GoesOn IsLiteral (words_of l.text l.tokens) l.literals (words_of l.text l.rest) }

abbrev pub decreases-loop-literals : goal.decreases-loop-literals
decreases-loop-literals l = length l.rest
