use Rattle.std.proofs.Common.{◌≡◌, drop}
use Rattle.ms_grammar.specs.Words.{words_of}
use Rattle.ms_read_term.specs.Machine.{run}
use Rattle.ms_read_term.proofs.reader.Reader.find.Given as goal

abbrev pub invariant-loop-place : goal.invariant-loop-place
invariant-loop-place l = run l.self (words_of l.text (drop l.place l.tokens)) ≡ run l.initial.self (words_of l.text l.tokens)
