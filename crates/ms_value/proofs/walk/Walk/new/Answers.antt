use Rattle.std.proofs.Common.{true, refl}
use Rattle.ms_value.proofs.Turns.{at_start}
use Rattle.ms_value.proofs.walk.Walk.new.Goals as goal

pub returns : goal.returns
returns c = at_start c.args.ranges.now (record { chosen = c.new.result; highs = c.new-2.result; is_fresh = true }) c.new.ensures.items c.new-2.ensures.items refl
