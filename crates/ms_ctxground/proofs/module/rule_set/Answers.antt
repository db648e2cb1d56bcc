use Rattle.std.proofs.Common.{◌∙◌}
use Rattle.std.proofs.lemmas.List.Filters.{dedup_is}
use Rattle.ms_ctxground.proofs.RuleSets.{AreLeftInOrder-from_sort}
use Rattle.ms_ctxground.proofs.module.rule_set.Goals as goal

pub returns : goal.returns
returns c =
    let kept = c.from_vec.ensures ∙ dedup_is _ _ _ c.dedup.ensures.filtered in
    rw kept (AreLeftInOrder-from_sort c.args.base.now c.args.instances.now _ _ c.sort_unstable.ensures.permutation c.sort_unstable.ensures.sorted c.in_ok-rules.ensures)
