use Rattle.ms_lines.proofs.CommandLemmas.{ground_read}
use Rattle.ms_lines.proofs.commands.read_ground.Goals as goal

pub returns : goal.returns
returns c = let h = c.in_ok-read_calls in ground_read _ _ c.in_ok-read_calls.ensures _ c.ground.ensures
