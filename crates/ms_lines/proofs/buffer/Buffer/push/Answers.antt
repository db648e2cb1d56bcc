use Rattle.ms_lines.proofs.Scanning.{kept_pushed}
use Rattle.ms_lines.proofs.buffer.Buffer.push.Goals as goal

pub invariant_of-self-2 : goal.invariant_of-self-2
invariant_of-self-2 c = kept_pushed _ _ _ c.self.invariant c.args.piece.now _ c.in_ok-extend_from_slice.ensures.items
