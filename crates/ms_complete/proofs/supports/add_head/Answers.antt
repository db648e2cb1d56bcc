use Rattle.std.proofs.Common.{◌∙◌}
use Rattle.ms_complete.proofs.SupportLaws.{head_added}
use Rattle.ms_complete.proofs.supports.add_head.Goals as goal

pub returns : goal.returns
returns c =
    head_added c.args.supports.now c.args.head c.with_head-own.result.now c.as_mut_slice.result.now c.args.store.now c.add_set.new.store c.with_head-own.ensures
    (c.as_mut_slice.ensures.value ∙ c.in_ok-lits.ensures) c.in_ok-add_set.ensures
