use Rattle.std.proofs.Common.{◌<◌}
use Rattle.ms_module.proofs.Chosen.{those_pushed, those_passed, those_whole}
use Rattle.ms_module.proofs.state.State.old_among.Goals as goal
use Rattle.ms_module.proofs.state.State.old_among.Goals.{then-has_atom+in_ok-push, else-has_atom}

pub loop-a-preserved : goal.loop-a-preserved
loop-a-preserved c =
    elim c.if-has_atom.branch [
      | then-has_atom+in_ok-push w ↦
          those_pushed c.args.atoms.now (λ a. a < c.args.self.now.atoms) c.loop-a.a-index c.a-item.result c.loop-a.found w.push.new.self c.if-has_atom.found
          w.found-is w.in_ok-push.ensures.items c.loop-a.invariant c.loop-a-test.true c.a-item.is (c.has_atom.ensures.0 w.if-has_atom.true)
      | else-has_atom w ↦
          those_passed c.args.atoms.now (λ a. a < c.args.self.now.atoms) c.loop-a.a-index c.a-item.result c.loop-a.found c.if-has_atom.found _
          w.found-is c.loop-a.invariant c.loop-a-test.true c.a-item.is c.has_atom.ensures w.if-has_atom.false
    ]

pub returns : goal.returns
returns c = those_whole c.args.atoms.now c.loop-a.found.items (λ a. a < c.args.self.now.atoms) c.loop-a.a-index c.loop-a-test.false c.loop-a.invariant
