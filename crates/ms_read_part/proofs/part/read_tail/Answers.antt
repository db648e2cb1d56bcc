use Rattle.std.proofs.Common.{sym, ◌∙◌}
use Rattle.ms_read_part.proofs.Tails.{tail_group, tail_literal, tail_signed, tail_test}
use Rattle.ms_read_part.proofs.part.read_tail.Goals as goal

pub returns-then-opens : goal.returns-then-opens
returns-then-opens c =
    let opened = rw c.front-front.ensures at (sym c.opens.ensures ∙ c.if-opens.true) in
    tail_group c.args.input _ opened c.read_guarded_tail.ensures

pub returns-in_default : goal.returns-in_default
returns-in_default c =
    let closed = rw c.front-front.ensures at (sym c.opens.ensures ∙ c.if-opens.false) in
    let none = rw c.front-front.ensures at (sym c.cmp_at.ensures ∙ c.in_default.is) in
    tail_literal c.args.input _ closed none c.read_literal_tail.ensures

pub returns-then-opens-2 : goal.returns-then-opens-2
returns-then-opens-2 c =
    let at = rw c.front-front.ensures at (sym c.cmp_at.ensures ∙ c.in-Some.is) in
    let opened = rw c.second.ensures at (sym c.opens-2.ensures ∙ c.if-opens-2.true) in
    tail_signed c.args.input c.in-Some.cmp at _ opened (rw c.after_front.ensures at c.read_guarded_tail-then-opens-2.ensures)

pub returns-else-opens-2 : goal.returns-else-opens-2
returns-else-opens-2 c =
    let at = rw c.front-front.ensures at (sym c.cmp_at.ensures ∙ c.in-Some.is) in
    let closed = rw c.second.ensures at (sym c.opens-2.ensures ∙ c.if-opens-2.false) in
    tail_test c.args.input c.in-Some.cmp at _ closed c.read_literal_tail-else-opens-2.ensures
