use Rattle.std.proofs.Common.{[], ◌∷◌, sym, ap, ◌∙◌}
use Rattle.ms_core.specs.Pools.{literal_copies}
use Rattle.ms_parts.specs.Rows.{extended}
use Rattle.ms_parts.proofs.RowLaws.{choices_none, choices_next}
use Rattle.ms_parts.proofs.pools_form.copies_of_literals.Goals as goal

pub loop-literal-init : goal.loop-literal-init
loop-literal-init c = c.in_ok-rows.ensures ∙ ap (λ r. r ∷ []) c.new.ensures ∙ sym choices_none

pub loop-literal-preserved : goal.loop-literal-preserved
loop-literal-preserved c =
    c.in_ok-rows-2.ensures
    ∙ ap (extended c.loop-literal.rows) c.in_ok-literal_copies.ensures
    ∙ choices_next literal_copies c.args.literals.now c.loop-literal.literal-index c.literal-item.result c.loop-literal.rows c.loop-literal-test.true c.literal-item.is c.loop-literal.invariant
