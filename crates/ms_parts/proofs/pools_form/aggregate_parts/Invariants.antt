use Rattle.std.proofs.Common.{◌≡◌, ◌++◌, map}
use Rattle.ms_grammar.specs.declared.statement.BodyLit.TheVariants.{Agg}
use Rattle.ms_parts.proofs.pools_form.aggregate_parts.Given as goal

abbrev pub invariant-loop-agg : goal.invariant-loop-agg
invariant-loop-agg l = l.made ++ map (Agg l.negated) l.agg-iterator.rest.items ≡ map (Agg l.negated) l.fn.aggregates
