use Rattle.ms_module.proofs.ConeLoops.{number_among}
use Rattle.ms_module.proofs.loops.has_number_among.Goals as goal

pub returns-in-Some : goal.returns-in-Some
returns-in-Some c = number_among c.args.cone.now c.args.numbers.now.keys c.args.a c.in-Some.number c.contains.result c.in-Some.ensures c.contains.ensures
