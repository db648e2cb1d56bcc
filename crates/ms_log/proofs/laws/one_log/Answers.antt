use Rattle.ms_log.proofs.Logs as logs
use Rattle.ms_log.proofs.laws.one_log.Goals as goal

pub returns : goal.returns
returns c = logs.one_log
