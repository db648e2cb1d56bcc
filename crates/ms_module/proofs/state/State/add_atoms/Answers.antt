use Rattle.ms_module.proofs.JoinLaws.{joined_atoms}
use Rattle.ms_module.proofs.state.State.add_atoms.Goals as goal

pub returns : goal.returns
returns c =
    joined_atoms c.args.self.now c.args.m.now c.atoms-first.result c.as_slice.result.now c.as_slice-2.result.now c.grow.new.self c.declare.new.self c.withdraw.new.self
    c.atoms-first.ensures c.as_slice.ensures c.as_slice-2.ensures c.in_ok-grow.ensures c.in_ok-declare.ensures c.withdraw.ensures
