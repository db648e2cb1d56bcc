use Rattle.std.proofs.Common.{◌∙◌}
use Rattle.ms_lits.proofs.Seen.{value_seen}
use Rattle.ms_lits.proofs.trail.Trail.value.Goals as goal

pub returns : goal.returns
returns c = c.truth.ensures ∙ value_seen c.args.self.now _ _ _ _ _ c.args.var _ c.self.view_is c.self.invariant.stored c.requires c.index.ensures
