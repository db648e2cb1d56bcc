use Rattle.std.proofs.Common.{arith, rules}
use Rattle.ms_log.proofs.Starts.{start_is, start_read}
use Rattle.ms_log.proofs.reading.read_start.Goals as goal

pub returns-in_ok-read_literals-in-32 : goal.returns-in_ok-read_literals-in-32
returns-in_ok-read_literals-in-32 c =
    start_read c.args.text.now _ (start_is c.args.text.now (omega arith) (omega arith) (omega arith)) c.in_ok-read_literals-in-32.field-0 c.in_ok-read_literals-in-32.ensures c.map.result (search rules)
