use Rattle.std.proofs.Common.{[], ◌∷◌, sym, ap, ◌∙◌}
use Rattle.ms_core.specs.Pools.{part_copies}
use Rattle.ms_parts.specs.Rows.{extended}
use Rattle.ms_parts.proofs.RowLaws.{choices_none, choices_next}
use Rattle.ms_parts.proofs.pools_form.body_copies.Goals as goal

pub loop-part-init : goal.loop-part-init
loop-part-init c = c.in_ok-rows.ensures ∙ ap (λ r. r ∷ []) c.new.ensures ∙ sym choices_none

pub loop-part-preserved : goal.loop-part-preserved
loop-part-preserved c =
    c.in_ok-rows-2.ensures
    ∙ ap (extended c.loop-part.rows) c.in_ok-part_copies.ensures
    ∙ choices_next part_copies c.args.parts.now c.loop-part.part-index c.part-item.result c.loop-part.rows c.loop-part-test.true c.part-item.is c.loop-part.invariant
