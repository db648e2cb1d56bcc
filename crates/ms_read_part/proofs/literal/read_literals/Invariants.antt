use Rattle.std.proofs.Common.{length}
use Rattle.ms_text.specs.declared.token.TokenKind.TheVariants.{Comma}
use Rattle.ms_grammar.specs.declared.statement.TextLit.{TextLit}
use Rattle.ms_grammar.specs.Statements.{Literal, literal_words, literal_spelled}
use Rattle.ms_read_part.specs.Kinds.{EndsElement}
use Rattle.ms_read_part.proofs.Rowed.{IsReadTo}
use Rattle.ms_read_part.proofs.literal.read_literals.Given as goal

abbrev pub invariant-loop-literals : goal.invariant-loop-literals
invariant-loop-literals l = IsReadTo Literal TextLit literal_words literal_spelled Comma EndsElement l.fn.input l.left l.literals

abbrev pub decreases-loop-literals : goal.decreases-loop-literals
decreases-loop-literals l = length l.left
