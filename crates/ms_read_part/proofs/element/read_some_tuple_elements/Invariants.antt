use Rattle.std.proofs.Common.{length}
use Rattle.ms_text.specs.declared.token.TokenKind.TheVariants.{Semicolon}
use Rattle.ms_grammar.specs.declared.statement.AggElement.{AggElement}
use Rattle.ms_grammar.specs.Statements.{TuplePart, tuple_part_words, tuple_part_spelled}
use Rattle.ms_read_part.specs.Kinds.{EndsElements}
use Rattle.ms_read_part.proofs.Rowed.{IsReadTo}
use Rattle.ms_read_part.proofs.element.read_some_tuple_elements.Given as goal

abbrev pub invariant-loop-elements : goal.invariant-loop-elements
invariant-loop-elements l = IsReadTo TuplePart AggElement tuple_part_words tuple_part_spelled Semicolon EndsElements l.fn.input l.left l.elements

abbrev pub decreases-loop-elements : goal.decreases-loop-elements
decreases-loop-elements l = length l.left
