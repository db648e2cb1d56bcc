use Rattle.std.proofs.Common.{◌+◌, arith, refl}
use Rattle.std.proofs.lemmas.Grind.{common_steps}
use Rattle.ms_io.proofs.Appending.{Appends-front, left_after}
use Rattle.ms_io.proofs.std_sink.StdSinkSink.put.Goals as goal

pub loop-rest-preserved : goal.loop-rest-preserved
loop-rest-preserved g c =
    let front = c.loop-rest.invariant.1 in (
      grind (arith, common_steps),
      record {
        count = front.count + c.in_ok-count.count;
        within = grind (arith, common_steps, front.left, front.within, c.in_ok-count.ensures.within);
        left = left_after _ _ _ _ _ front.left refl;
        out = Appends-front _ _ _ _ _ _ _ front.left front.out c.in_ok-count.ensures.bytes;
      },
    )
