use Rattle.ms_grammar.specs.declared.statement.SetElement.{SetElement}
use Rattle.ms_grammar.specs.Statements.{SetPart, set_part_words, set_part_spelled}
use Rattle.ms_read_part.proofs.Elements.{set_no_brace, elements_none, elements_row}
use Rattle.ms_read_part.proofs.element.read_set_elements.Goals as goal

pub returns-then-begins_with : goal.returns-then-begins_with
returns-then-begins_with c = rw (c.alone.ensures, c.new.ensures) (elements_none SetPart SetElement set_part_words set_part_spelled set_no_brace c.args.input (c.begins_with.ensures.is c.if-begins_with.true))

pub returns : goal.returns
returns c = elements_row SetPart SetElement set_part_words set_part_spelled set_no_brace c.args.input _ (c.begins_with.ensures.is_not c.if-begins_with.false) c.read_some_set_elements.ensures
