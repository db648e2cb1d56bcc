use Rattle.std.proofs.Common.{[], ◌∷◌, sym, ap, ◌∙◌}
use Rattle.ms_core.specs.Pools.{copies}
use Rattle.ms_parts.specs.Rows.{extended}
use Rattle.ms_parts.proofs.RowLaws.{choices_none, choices_next}
use Rattle.ms_parts.proofs.pools.+copies.Goals as goal

pub copies_of_terms-loop-term-init : goal.copies_of_terms-loop-term-init
copies_of_terms-loop-term-init t c = c.in_ok-rows.ensures ∙ ap (λ r. r ∷ []) c.new.ensures ∙ sym choices_none

pub copies_of_terms-loop-term-preserved : goal.copies_of_terms-loop-term-preserved
copies_of_terms-loop-term-preserved t c =
    c.in_ok-rows-2.ensures
    ∙ ap (extended c.loop-term.rows) c.in_ok-copies.ensures
    ∙ choices_next copies c.args.terms.now c.loop-term.term-index c.term-item.result c.loop-term.rows c.loop-term-test.true c.term-item.is c.loop-term.invariant
