use Rattle.std.proofs.Common.{subst, sym, List, ℕ}
use Rattle.ms_module.specs.Inputs.{Withdraws}
use Rattle.ms_module.proofs.Changes.{next_atom, withdraws_more}
use Rattle.ms_module.proofs.state.State.withdraw.Goals as goal

pub loop-a-preserved : goal.loop-a-preserved
loop-a-preserved c = subst (λ (atoms : List ℕ). Withdraws c.args.self.now atoms c.release.new.self)
    (sym (next_atom c.args.atoms.now c.loop-a.a-index c.a-item.result c.loop-a-test.true c.a-item.is))
    (withdraws_more c.args.self.now c.loop-a.self c.release.new.self c.a-item.result _ c.release.result c.loop-a.invariant c.release.ensures.releases)
