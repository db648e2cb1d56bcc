use Rattle.ms_term.proofs.Whole.{whole}
use Rattle.ms_term.proofs.terms.Terms.len.Goals as goal

pub returns-clause-whole : goal.returns-clause-whole
returns-clause-whole c = rw (← c.self.view_is) (whole _ _ _ c.self.invariant.table)
