use Rattle.std.proofs.Common.{◌≡◌}
use Rattle.ms_module.proofs.Chosen.{those_pushed, those_passed, those_whole}
use Rattle.ms_cone.specs.Cones.{number_of}
use Rattle.ms_module.proofs.loops.in_component_of.Goals as goal
use Rattle.ms_module.proofs.loops.in_component_of.Goals.{then-is_together+in_ok-push, else-is_together}

pub loop-b-preserved : goal.loop-b-preserved
loop-b-preserved c =
    elim c.if-is_together.branch [
      | then-is_together+in_ok-push w ↦
          those_pushed c.args.atoms.now (λ b. number_of c.args.cone.now b ≡ number_of c.args.cone.now c.args.a) c.loop-b.b-index c.b-item.result c.loop-b.found w.push.new.self c.if-is_together.found
          w.found-is w.in_ok-push.ensures.items c.loop-b.invariant c.loop-b-test.true c.b-item.is ((c.is_together.ensures).0 w.if-is_together.true)
      | else-is_together w ↦
          those_passed c.args.atoms.now (λ b. number_of c.args.cone.now b ≡ number_of c.args.cone.now c.args.a) c.loop-b.b-index c.b-item.result c.loop-b.found c.if-is_together.found _
          w.found-is c.loop-b.invariant c.loop-b-test.true c.b-item.is (c.is_together.ensures) w.if-is_together.false
    ]

pub returns : goal.returns
returns c = those_whole c.args.atoms.now c.loop-b.found.items (λ b. number_of c.args.cone.now b ≡ number_of c.args.cone.now c.args.a) c.loop-b.b-index c.loop-b-test.false c.loop-b.invariant
