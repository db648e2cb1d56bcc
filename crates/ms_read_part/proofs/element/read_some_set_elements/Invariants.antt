use Rattle.std.proofs.Common.{length}
use Rattle.ms_text.specs.declared.token.TokenKind.TheVariants.{Semicolon}
use Rattle.ms_grammar.specs.declared.statement.SetElement.{SetElement}
use Rattle.ms_grammar.specs.Statements.{SetPart, set_part_words, set_part_spelled}
use Rattle.ms_read_part.specs.Kinds.{EndsElements}
use Rattle.ms_read_part.proofs.Rowed.{IsReadTo}
use Rattle.ms_read_part.proofs.element.read_some_set_elements.Given as goal

abbrev pub invariant-loop-elements : goal.invariant-loop-elements
invariant-loop-elements l = IsReadTo SetPart SetElement set_part_words set_part_spelled Semicolon EndsElements l.fn.input l.left l.elements

abbrev pub decreases-loop-elements : goal.decreases-loop-elements
decreases-loop-elements l = length l.left
