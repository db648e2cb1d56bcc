use Rattle.std.proofs.Common.{false}
use Rattle.ms_unfound_tests.proofs.Benches.{unique_atoms}
use Rattle.ms_unfound_tests.proofs.bench.Bench.run.Goals as goal

pub run-requires-clause-unique : goal.run-requires-clause-unique
run-requires-clause-unique g c =
    unique_atoms (g.T.Theory.Gives c.args.theory.now) c.self.inside.store
    (record { vars = c.self.inside.vars; count = c.max.result; limit = 1000; assume = c.in_ok-demanded.field-0; impossible = false })
    c.self.inside.atoms c.self.invariant.every
