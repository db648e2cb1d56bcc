use Rattle.std.proofs.Common.{◌≡◌}
use Rattle.ms_core.specs.Texts.{value_in, paired}
use Rattle.ms_parts.proofs.meaning.Meanings.argument.Given as goal

abbrev pub invariant-loop-param : goal.invariant-loop-param
invariant-loop-param l = value_in (paired l.param-iterator.a.rest.now l.param-iterator.b.rest.now) l.name ≡ value_in (paired l.self.params.now l.self.args.now) l.name
