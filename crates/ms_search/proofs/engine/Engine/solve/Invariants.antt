use Rattle.ms_search.proofs.engine.Engine.solve.Given as goal

abbrev pub ghosts-list : goal.ghosts-list
ghosts-list g a = record { problem = g.K.Target.problem; begun = a.store.now }
