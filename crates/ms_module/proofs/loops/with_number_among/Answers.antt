use Rattle.ms_module.proofs.Chosen.{those_pushed, those_passed, those_whole}
use Rattle.ms_module.specs.Faults.{HasNumberAmong}
use Rattle.ms_module.proofs.loops.with_number_among.Goals as goal
use Rattle.ms_module.proofs.loops.with_number_among.Goals.{then-has_number_among+in_ok-push, else-has_number_among}

pub loop-a-preserved : goal.loop-a-preserved
loop-a-preserved c =
    elim c.if-has_number_among.branch [
      | then-has_number_among+in_ok-push w ↦
          those_pushed c.args.atoms.now (HasNumberAmong c.args.cone.now c.args.numbers.now.keys) c.loop-a.a-index c.a-item.result c.loop-a.found w.push.new.self c.if-has_number_among.found
          w.found-is w.in_ok-push.ensures.items c.loop-a.invariant c.loop-a-test.true c.a-item.is ((c.has_number_among.ensures).0 w.if-has_number_among.true)
      | else-has_number_among w ↦
          those_passed c.args.atoms.now (HasNumberAmong c.args.cone.now c.args.numbers.now.keys) c.loop-a.a-index c.a-item.result c.loop-a.found c.if-has_number_among.found _
          w.found-is c.loop-a.invariant c.loop-a-test.true c.a-item.is (c.has_number_among.ensures) w.if-has_number_among.false
    ]

pub returns : goal.returns
returns c = those_whole c.args.atoms.now c.loop-a.found.items (HasNumberAmong c.args.cone.now c.args.numbers.now.keys) c.loop-a.a-index c.loop-a-test.false c.loop-a.invariant
