use Rattle.std.proofs.Common.{sym, ◌∙◌}
use Rattle.ms_read_part.proofs.Conditions.{conditions_empty, conditions_row}
use Rattle.ms_read_part.proofs.literal.read_conditions.Goals as goal

pub returns-then-ends_element : goal.returns-then-ends_element
returns-then-ends_element c =
    let front = c.begins_with.ensures.is c.if-not-begins_with.false in
    let ends = rw (c.front.ensures, c.after_front-rest.ensures) at (sym c.ends_element.ensures ∙ c.if-ends_element.true) in
    rw (c.alone-then-ends_element.ensures, c.new-then-ends_element.ensures, c.after_front-rest.ensures) (conditions_empty c.args.input front ends)

pub returns : goal.returns
returns c =
    let front = c.begins_with.ensures.is c.if-not-begins_with.false in
    let no_end = rw (c.front.ensures, c.after_front-rest.ensures) at (sym c.ends_element.ensures ∙ c.if-ends_element.false) in
    conditions_row c.args.input front _ no_end (rw c.after_front-rest.ensures at c.read_literals.ensures)
