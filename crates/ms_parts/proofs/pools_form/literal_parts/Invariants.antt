use Rattle.std.proofs.Common.{◌≡◌, ◌++◌, map}
use Rattle.ms_grammar.specs.declared.statement.BodyLit.TheVariants.{Lit}
use Rattle.ms_parts.proofs.pools_form.literal_parts.Given as goal

abbrev pub invariant-loop-literal : goal.invariant-loop-literal
invariant-loop-literal l = l.made ++ map Lit l.literal-iterator.rest.items ≡ map Lit l.fn.literals
