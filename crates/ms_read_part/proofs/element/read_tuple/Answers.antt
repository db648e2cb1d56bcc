use Rattle.std.proofs.Common.{refl}
use Rattle.ms_text.specs.declared.token.TokenKind.TheVariants.{Comma}
use Rattle.ms_read_part.proofs.Fronts.{front-sign}
use Rattle.ms_read_part.proofs.Rows.{rowed_terms}
use Rattle.ms_read_part.proofs.Rowed.{read_to_start, read_to_more, read_to_last, read_to_none, left_shorter}
use Rattle.ms_read_part.proofs.element.read_tuple.Goals as goal

pub loop-tuple-init : goal.loop-tuple-init
loop-tuple-init c = rw (c.alone-tuple.ensures, c.new.ensures) (read_to_start _ _ _ _ _ _ _ rowed_terms c.args.input)

pub returns-in_default : goal.returns-in_default
returns-in_default c = read_to_none _ _ _ _ _ _ _ rowed_terms c.loop-tuple.invariant (rw c.in_default.is at c.in_ok-term.ensures)

pub returns-then-not-begins_with : goal.returns-then-not-begins_with
returns-then-not-begins_with c = rw c.in_ok-push_term.ensures (read_to_last _ _ _ _ _ _ _ rowed_terms c.loop-tuple.invariant (rw c.in-Some.is at c.in_ok-term.ensures) (c.begins_with.ensures.is_not c.if-not-begins_with.true))

pub loop-tuple-preserved : goal.loop-tuple-preserved
loop-tuple-preserved c = rw (c.after_front-left.ensures, c.in_ok-push_term.ensures) (read_to_more _ _ _ _ _ _ _ rowed_terms c.loop-tuple.invariant (rw c.in-Some.is at c.in_ok-term.ensures) (front-sign Comma _ refl (c.begins_with.ensures.is c.if-not-begins_with.false)))

pub loop-tuple-smaller : goal.loop-tuple-smaller
loop-tuple-smaller c = rw c.after_front-left.ensures (left_shorter _ _ _ _ _ _ _ rowed_terms (rw c.in-Some.is at c.in_ok-term.ensures) (front-sign Comma _ refl (c.begins_with.ensures.is c.if-not-begins_with.false)))
