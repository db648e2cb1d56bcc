use Rattle.ms_complete_tests.proofs.Named.{names_next}
use Rattle.ms_complete_tests.proofs.programs.take.Goals as goal

pub returns : goal.returns
returns c terms has below =
    names_next c.args.first terms c.args.names.now c.in_ok-m.m c.in_ok-m.ensures c.args.complete.now c.extend.new.self c.args.store.now c.extend.new.store c.in_ok-extend.ensures has below
