use Rattle.std.proofs.Common.{length}
use Rattle.ms_text.specs.Tokens.{LieWithin}
use Rattle.ms_grammar.specs.Words.{words_of}
use Rattle.ms_call.specs.Commands.{IsCall}
use Rattle.ms_lines.proofs.Sequences.{GoesOn}
use Rattle.ms_lines.proofs.calls.read_calls.Given as goal

abbrev pub invariant-loop-calls : goal.invariant-loop-calls
invariant-loop-calls l = record { inside : LieWithin (length l.text) l.rest; goes : GoesOn IsCall (words_of l.text l.tokens) l.calls (words_of l.text l.rest) }

abbrev pub decreases-loop-calls : goal.decreases-loop-calls
decreases-loop-calls l = length l.rest
