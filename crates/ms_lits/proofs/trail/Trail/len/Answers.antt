use Rattle.std.proofs.Common.{arith}
use Rattle.ms_lits.proofs.Seen.{assignment_seen, fewer_seen}
use Rattle.ms_lits.proofs.trail.Trail.len.Goals as goal

pub returns-clause-assignment : goal.returns-clause-assignment
returns-clause-assignment c = assignment_seen c.args.self.now _ _ _ _ _ _ _ c.self.view_is c.self.invariant

pub returns-clause-fewer : goal.returns-clause-fewer
returns-clause-fewer c var below absent =
    let less = fewer_seen c.args.self.now _ _ _ _ _ var c.self.view_is c.self.invariant.stored below absent in
    let len = c.len.ensures in
    omega (arith, less, len)
