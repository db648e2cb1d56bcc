use Rattle.ms_solver.proofs.Starting.{nothing_serves}
use Rattle.ms_solver.proofs.solver.SolverBy.new.Goals as goal

pub returns-clause-serves : goal.returns-clause-serves
returns-clause-serves g c =
    nothing_serves (record { store = c.new.result; numbering = c.new-3.result; loops = c.new-4.result; atoms = c.new-5.result; sleepers = c.new-6.result })
    c.new.ensures c.new-3.ensures c.new-4.ensures.loops c.new-5.ensures c.new-6.ensures
