use Rattle.std.proofs.Common.{length, arith}
use Rattle.ms_log.proofs.Colons.{no_colon}
use Rattle.ms_log.proofs.reading.split_at_last_colon.Goals as goal

pub returns : goal.returns
returns c = no_colon c.args.text.now (length c.loop-front.front.now) (omega arith) c.loop-front.invariant.back
