use Rattle.std.proofs.Common.{length}
use Rattle.ms_text.specs.declared.token.TokenKind.TheVariants.{Comma}
use Rattle.ms_grammar.specs.declared.term.TextTerm.{TextTerm}
use Rattle.ms_grammar.specs.Terms.{Term, term_words}
use Rattle.ms_grammar.specs.Statements.{term_spelled}
use Rattle.ms_read_part.specs.Kinds.{EndsTuple}
use Rattle.ms_read_part.proofs.Rowed.{IsReadTo}
use Rattle.ms_read_part.proofs.element.read_tuple.Given as goal

abbrev pub invariant-loop-tuple : goal.invariant-loop-tuple
invariant-loop-tuple l = IsReadTo Term TextTerm term_words term_spelled Comma EndsTuple l.fn.input l.left l.tuple

abbrev pub decreases-loop-tuple : goal.decreases-loop-tuple
decreases-loop-tuple l = length l.left
