use Rattle.ms_lits.proofs.Seen.{place_is, place_below}
use Rattle.ms_lits.proofs.trail.Trail.place_of.Goals as goal

pub returns-clause-place : goal.returns-clause-place
returns-clause-place c = place_is c.args.self.now _ _ _ _ _ c.args.var _ c.self.view_is c.self.invariant.stored c.requires.room c.requires.assigned c.index.ensures

pub returns-clause-within : goal.returns-clause-within
returns-clause-within c = place_below c.args.self.now _ _ _ _ _ c.args.var _ c.self.view_is c.self.invariant.stored c.requires.room c.requires.assigned c.index.ensures
