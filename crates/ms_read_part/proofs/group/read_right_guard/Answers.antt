use Rattle.std.proofs.Common.{sym, ◌∙◌}
use Rattle.ms_read_part.proofs.Groups.{guard_end, guard_signed, guard_bare}
use Rattle.ms_read_part.proofs.group.read_right_guard.Goals as goal

pub returns-then-ends_at : goal.returns-then-ends_at
returns-then-ends_at c =
    let ends = rw c.front-front.ensures at (sym c.ends_at.ensures ∙ c.if-ends_at.true) in
    rw c.alone.ensures (guard_end c.args.input ends)

pub returns-in-Some : goal.returns-in-Some
returns-in-Some c =
    let at = rw c.front-front.ensures at (sym c.cmp_at.ensures ∙ c.in-Some.is) in
    guard_signed c.args.input c.in-Some.cmp at _ (rw c.after_front.ensures at c.read_bound.ensures)

pub returns-in-None : goal.returns-in-None
returns-in-None c =
    let no_end = rw c.front-front.ensures at (sym c.ends_at.ensures ∙ c.if-ends_at.false) in
    let no_cmp = rw c.front-front.ensures at (sym c.cmp_at.ensures ∙ c.in-None.is) in
    guard_bare c.args.input _ no_end no_cmp c.read_bound-in-None.ensures
