use Rattle.ms_search.specs.Engines.{AllAssigned}
use Rattle.ms_search.proofs.choice.first_free.Given as goal

abbrev pub invariant-loop-var : goal.invariant-loop-var
invariant-loop-var l = AllAssigned l.var l.trail.entries
