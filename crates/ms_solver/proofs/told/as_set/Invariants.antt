use Rattle.ms_solver.proofs.Listing.{IsListing}
use Rattle.ms_solver.proofs.told.as_set.Given as goal

abbrev pub invariant-loop-a : goal.invariant-loop-a
invariant-loop-a l = IsListing l.picked l.numbers l.set l.a
