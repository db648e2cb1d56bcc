use Rattle.std.proofs.Common.{arith}
use Rattle.std.proofs.lemmas.Grind.{common_steps}
use Rattle.ms_lits.proofs.trail.Trail.level.Goals as goal

pub overflow_cast-result : goal.overflow_cast-result
overflow_cast-result c = let fits = c.self.invariant.fits in let len = c.self.invariant.ends_len in grind (arith, common_steps)
