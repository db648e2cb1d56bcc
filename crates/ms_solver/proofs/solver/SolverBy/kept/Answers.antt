use Rattle.std.proofs.Common.{◌≡◌, ◌∙◌, length, ap}
use Rattle.ms_nogood.specs.Store.{Store}
use Rattle.ms_search.specs.Problems.{kept_nogoods}
use Rattle.ms_solver.specs.States.{State}
use Rattle.ms_solver.proofs.Starting.{kept_count}
use Rattle.ms_solver.proofs.solver.SolverBy.kept.Goals as goal

pub returns : goal.returns
returns g c =
    let same : c.self.inside.store ≡ c.args.self.now.knows.store = ap (λ (s : State g.row.P.Denot). s.knows.store) c.self.view_is in
    kept_count c.self.inside.store c.trimmed.result.now c.trimmed.ensures.order c.trimmed.ensures.keys ∙ ap (λ (s : Store). length (kept_nogoods s)) same
