use Rattle.ms_term.proofs.Sizes.{size-whole}
use Rattle.ms_term.proofs.terms.Terms.size_over.Goals as goal

pub returns : goal.returns
returns c = size-whole _ _ _ _ c.in_default.len_below c.loop-rest.invariant.in_range c.loop-rest.invariant.same
