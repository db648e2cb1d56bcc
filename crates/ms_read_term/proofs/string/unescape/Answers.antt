use Rattle.ms_read_term.proofs.Strings.{behind_more, slash_more, byte_more, at_end, other_byte}
use Rattle.ms_read_term.proofs.string.unescape.Goals as goal
use Rattle.ms_read_term.proofs.string.unescape.Goals.{then-behind+in_ok-push, else-behind+then-byte-eq92, else-behind+else-byte-eq92+in_ok-push-2}

pub loop-byte-preserved : goal.loop-byte-preserved
loop-byte-preserved c = elim c.if-behind.branch [
  | then-behind+in_ok-push w ↦ rw (w.behind-is, w.bytes-is, w.in_ok-push.ensures.ok, w.escaped.ensures) (behind_more _ _ _ _ c.loop-byte-test.true (rw w.if-behind.true at c.loop-byte.invariant))
  | else-behind+then-byte-eq92 w ↦ rw (w.behind-is, w.bytes-is) (slash_more _ _ _ _ c.loop-byte-test.true w.if-byte-eq92.true (rw w.if-behind.false at c.loop-byte.invariant))
  | else-behind+else-byte-eq92+in_ok-push-2 w ↦ rw (w.behind-is, w.if-behind.false, w.bytes-is, w.in_ok-push-2.ensures.ok) (byte_more _ _ _ _ c.loop-byte-test.true (other_byte _ w.if-byte-eq92.false) (rw w.if-behind.false at c.loop-byte.invariant))
]

pub returns : goal.returns
returns c = at_end _ _ _ _ _ c.loop-byte-test.false c.loop-byte.invariant
