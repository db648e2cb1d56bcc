use Rattle.std.proofs.Common.{sym, ◌∙◌}
use Rattle.ms_read_part.proofs.Groups.{group_set, group_function}
use Rattle.ms_read_part.proofs.group.read_group.Goals as goal

pub returns-in-Some-Set : goal.returns-in-Some-Set
returns-in-Some-Set c =
    let opened = rw (c.front.ensures, c.in-Some-Set.field-0-is) at (sym c.opened_by.ensures ∙ c.in-Some-Set.is) in
    group_set c.args.input _ opened c.read_set_group.ensures

pub returns-in-Some-Aggregate : goal.returns-in-Some-Aggregate
returns-in-Some-Aggregate c =
    let opened = rw (c.front.ensures, c.in-Some-Aggregate.field-0-is) at (sym c.opened_by.ensures ∙ c.in-Some-Aggregate.is) in
    group_function c.args.input c.in-Some-Aggregate.function _ opened (rw c.after_front.ensures at c.read_aggregate_group.ensures)
