use Rattle.std.proofs.Common.{◌∙◌}
use Rattle.ms_complete.proofs.BodyLaws.{both_added}
use Rattle.ms_complete.proofs.nogoods.add_body.Goals as goal

pub returns : goal.returns
returns c =
    both_added c.args.number c.args.parts.items c.as_slice.result.now c.as_mut_slice.result.now c.args.store.now c.add_parts.new.store c.add_set.new.store c.as_slice.ensures.value
    (c.as_mut_slice.ensures.value ∙ c.in_ok-push.ensures.items) c.in_ok-add_parts.ensures c.in_ok-add_set.ensures
