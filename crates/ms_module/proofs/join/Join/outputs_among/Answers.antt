use Rattle.std.proofs.Common.{◌↔◌, IsTrue, subst}
use Rattle.ms_module.proofs.Chosen.{those_pushed, those_passed, those_whole}
use Rattle.ms_join.specs.Modules.{Join, IsOutput}
use Rattle.ms_module.proofs.join.Join.outputs_among.Goals as goal
use Rattle.ms_module.proofs.join.Join.outputs_among.Goals.{then-is_output+in_ok-push, else-is_output}

pub loop-a-preserved : goal.loop-a-preserved
loop-a-preserved c =
    elim c.if-is_output.branch [
      | then-is_output+in_ok-push w ↦
          those_pushed c.args.atoms.now (IsOutput c.args.self.now) c.loop-a.a-index c.a-item.result c.loop-a.found w.push.new.self c.if-is_output.found
          w.found-is w.in_ok-push.ensures.items c.loop-a.invariant c.loop-a-test.true c.a-item.is ((subst (λ (j : Join). IsTrue c.is_output.result ↔ IsOutput j c.a-item.result) c.self.view_is c.is_output.ensures).0 w.if-is_output.true)
      | else-is_output w ↦
          those_passed c.args.atoms.now (IsOutput c.args.self.now) c.loop-a.a-index c.a-item.result c.loop-a.found c.if-is_output.found _
          w.found-is c.loop-a.invariant c.loop-a-test.true c.a-item.is (subst (λ (j : Join). IsTrue c.is_output.result ↔ IsOutput j c.a-item.result) c.self.view_is c.is_output.ensures) w.if-is_output.false
    ]

pub returns : goal.returns
returns c = those_whole c.args.atoms.now c.loop-a.found.items (IsOutput c.args.self.now) c.loop-a.a-index c.loop-a-test.false c.loop-a.invariant
