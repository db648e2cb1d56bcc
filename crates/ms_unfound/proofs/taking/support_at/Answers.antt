use Rattle.ms_unfound.proofs.SupportLaws.{support_made}
use Rattle.ms_unfound.proofs.taking.support_at.Goals as goal

pub returns : goal.returns
returns c =
    support_made c.args.c.now.things c.args.members.now c.args.rule.now c.args.place c.in_ok-body.body c.in_ok-inner.inner c.as_slice.result.now c.as_slice-2.result.now c.requires.head c.in_ok-body.ensures c.as_slice.ensures c.as_slice-2.ensures c.in_ok-inner.ensures
