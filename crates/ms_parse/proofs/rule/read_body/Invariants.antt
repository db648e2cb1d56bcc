use Rattle.std.proofs.Common.{length}
use Rattle.ms_text.specs.Tokens.{LieWithin}
use Rattle.ms_grammar.specs.Words.{words_of}
use Rattle.ms_parse.proofs.Bodies.{IsReadTo}
use Rattle.ms_parse.proofs.rule.read_body.Given as goal

abbrev pub invariant-loop-body : goal.invariant-loop-body
invariant-loop-body l = IsReadTo (words_of l.text l.tokens) l.body (words_of l.text l.rest) × LieWithin (length l.text) l.rest

abbrev pub decreases-loop-body : goal.decreases-loop-body
decreases-loop-body l = length l.rest
