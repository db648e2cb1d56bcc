use Rattle.std.proofs.Common.{ap, w64}
use Rattle.std.proofs.lemmas.Int.{to_z-of_z}
use Rattle.std.specs.Prelude.{false}
use Rattle.ms_inc.specs.Turns.{loop_of, turns_from}
use Rattle.ms_inc.proofs.inc_loop.IncLoop.new.Goals as goal

pub returns : goal.returns
unfolding turns_from
returns c = ap (λ imin. loop_of imin c.args.imax c.args.istop 0 false) (to_z-of_z w64 c.args.imin c.ranges.imin)
