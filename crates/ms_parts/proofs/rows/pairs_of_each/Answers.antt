use Rattle.std.proofs.Common.{map, ◌∙◌}
use Rattle.ms_parts.proofs.RowLaws.{flat_map_next}
use Rattle.ms_parts.proofs.rows.pairs_of_each.Goals as goal

pub loop-first-preserved : goal.loop-first-preserved
loop-first-preserved g c = c.in_ok-append_pairs.ensures ∙ flat_map_next (λ x. map (λ y. (x, y)) c.args.seconds.now) c.args.firsts.now c.loop-first.first-index c.first-item.result c.loop-first.made c.loop-first-test.true c.first-item.is c.loop-first.invariant
