use Rattle.ms_search.specs.Problems.{problem_of}
use Rattle.ms_search.proofs.search.SearchBy.run.Given as goal

abbrev pub ghosts-solve : goal.ghosts-solve
ghosts-solve g a = record { problem = problem_of (g.T.Theory.Gives a.theory.now) a.store.now a.ask.now a.atoms.now; begun = a.store.now }
