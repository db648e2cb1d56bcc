use Rattle.std.proofs.Common.{refl}
use Rattle.ms_text.specs.declared.token.TokenKind.TheVariants.{Semicolon}
use Rattle.ms_read_part.proofs.Fronts.{front-sign}
use Rattle.ms_read_part.proofs.Rows.{rowed_elements}
use Rattle.ms_read_part.proofs.Rowed.{read_to_start, read_to_more, read_to_last, read_to_none, left_shorter}
use Rattle.ms_read_part.proofs.element.read_some_tuple_elements.Goals as goal

pub loop-elements-init : goal.loop-elements-init
loop-elements-init c = rw (c.alone-elements.ensures, c.new.ensures) (read_to_start _ _ _ _ _ _ _ rowed_elements c.args.input)

pub returns-in_default : goal.returns-in_default
returns-in_default c = read_to_none _ _ _ _ _ _ _ rowed_elements c.loop-elements.invariant (rw c.in_default.is at c.in_ok-element.ensures)

pub returns-then-not-begins_with : goal.returns-then-not-begins_with
returns-then-not-begins_with c = rw c.in_ok-push.ensures (read_to_last _ _ _ _ _ _ _ rowed_elements c.loop-elements.invariant (rw c.in-Some.is at c.in_ok-element.ensures) (c.begins_with.ensures.is_not c.if-not-begins_with.true))

pub loop-elements-preserved : goal.loop-elements-preserved
loop-elements-preserved c = rw (c.after_front-left.ensures, c.in_ok-push.ensures) (read_to_more _ _ _ _ _ _ _ rowed_elements c.loop-elements.invariant (rw c.in-Some.is at c.in_ok-element.ensures) (front-sign Semicolon _ refl (c.begins_with.ensures.is c.if-not-begins_with.false)))

pub loop-elements-smaller : goal.loop-elements-smaller
loop-elements-smaller c = rw c.after_front-left.ensures (left_shorter _ _ _ _ _ _ _ rowed_elements (rw c.in-Some.is at c.in_ok-element.ensures) (front-sign Semicolon _ refl (c.begins_with.ensures.is c.if-not-begins_with.false)))
