use Rattle.ms_grammar.specs.declared.statement.AggElement.{AggElement}
use Rattle.ms_grammar.specs.Statements.{TuplePart, tuple_part_words, tuple_part_spelled}
use Rattle.ms_read_part.proofs.Elements.{tuple_no_brace, elements_none, elements_row}
use Rattle.ms_read_part.proofs.element.read_tuple_elements.Goals as goal

pub returns-then-begins_with : goal.returns-then-begins_with
returns-then-begins_with c = rw (c.alone.ensures, c.new.ensures) (elements_none TuplePart AggElement tuple_part_words tuple_part_spelled tuple_no_brace c.args.input (c.begins_with.ensures.is c.if-begins_with.true))

pub returns : goal.returns
returns c = elements_row TuplePart AggElement tuple_part_words tuple_part_spelled tuple_no_brace c.args.input _ (c.begins_with.ensures.is_not c.if-begins_with.false) c.read_some_tuple_elements.ensures
