use Rattle.std.proofs.Common.{refl}
use Rattle.ms_text.specs.declared.token.TokenKind.TheVariants.{Comma}
use Rattle.ms_read_part.proofs.Fronts.{front-sign}
use Rattle.ms_read_part.proofs.Rows.{rowed_literals}
use Rattle.ms_read_part.proofs.Rowed.{read_to_start, read_to_more, read_to_last, read_to_none, left_shorter}
use Rattle.ms_read_part.proofs.literal.read_literals.Goals as goal

pub loop-literals-init : goal.loop-literals-init
loop-literals-init c = rw (c.alone-literals.ensures, c.new.ensures) (read_to_start _ _ _ _ _ _ _ rowed_literals c.args.input)

pub returns-in_default : goal.returns-in_default
returns-in_default c = read_to_none _ _ _ _ _ _ _ rowed_literals c.loop-literals.invariant (rw c.in_default.is at c.in_ok-literal.ensures)

pub returns-then-not-begins_with : goal.returns-then-not-begins_with
returns-then-not-begins_with c = rw c.in_ok-push.ensures (read_to_last _ _ _ _ _ _ _ rowed_literals c.loop-literals.invariant (rw c.in-Some.is at c.in_ok-literal.ensures) (c.begins_with.ensures.is_not c.if-not-begins_with.true))

pub loop-literals-preserved : goal.loop-literals-preserved
loop-literals-preserved c = rw (c.after_front-left.ensures, c.in_ok-push.ensures) (read_to_more _ _ _ _ _ _ _ rowed_literals c.loop-literals.invariant (rw c.in-Some.is at c.in_ok-literal.ensures) (front-sign Comma _ refl (c.begins_with.ensures.is c.if-not-begins_with.false)))

pub loop-literals-smaller : goal.loop-literals-smaller
loop-literals-smaller c = rw c.after_front-left.ensures (left_shorter _ _ _ _ _ _ _ rowed_literals (rw c.in-Some.is at c.in_ok-literal.ensures) (front-sign Comma _ refl (c.begins_with.ensures.is c.if-not-begins_with.false)))
