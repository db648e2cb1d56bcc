use Rattle.std.proofs.Common.{length, ◌≤◌}
use Rattle.ms_text.specs.Tokens.{LieWithin}
use Rattle.ms_grammar.specs.Words.{words_of}
use Rattle.ms_lines.proofs.ArgumentFronts.{GoesIn}
use Rattle.ms_lines.proofs.arguments.read_some_arguments.Given as goal

abbrev pub invariant-loop-values : goal.invariant-loop-values
invariant-loop-values l = record { inside : LieWithin (length l.text) l.rest; shorter : length l.rest ≤ length l.tokens; goes : GoesIn (words_of l.text l.tokens) l.values (words_of l.text l.rest) }

abbrev pub decreases-loop-values : goal.decreases-loop-values
decreases-loop-values l = length l.rest
