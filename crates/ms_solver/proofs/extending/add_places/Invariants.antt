use Rattle.ms_solver.specs.Extending.{AddsPlaces}
use Rattle.ms_solver.proofs.extending.add_places.Given as goal

abbrev pub invariant-loop : goal.invariant-loop
invariant-loop l = AddsPlaces l.counter l.fn.sleepers l.sleepers
