use Rattle.std.proofs.Common.{◌≡◌}
use Rattle.ms_search.proofs.engine.Engine.free_above.Given as goal

abbrev pub invariant-loop-i : goal.invariant-loop-i
invariant-loop-i g l = l.self ≡ record l.initial.self { choice = l.self.choice }
