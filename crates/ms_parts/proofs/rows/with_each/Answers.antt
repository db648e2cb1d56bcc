use Rattle.std.proofs.Common.{[], ◌∷◌, ◌++◌, map, ◌∙◌}
use Rattle.ms_parts.proofs.RowLaws.{flat_map_next}
use Rattle.ms_parts.proofs.rows.with_each.Goals as goal

pub loop-row-preserved : goal.loop-row-preserved
loop-row-preserved g c = c.in_ok-append_row.ensures ∙ flat_map_next (λ row. map (λ x. row ++ x ∷ []) c.args.items.now) c.args.rows.now c.loop-row.row-index c.row-item.result c.loop-row.made c.loop-row-test.true c.row-item.is c.loop-row.invariant
