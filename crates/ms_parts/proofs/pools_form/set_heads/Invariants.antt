use Rattle.std.proofs.Common.{◌≡◌, ◌++◌, map}
use Rattle.ms_grammar.specs.declared.statement.Head.TheVariants.{Set}
use Rattle.ms_parts.proofs.pools_form.set_heads.Given as goal

abbrev pub invariant-loop-set : goal.invariant-loop-set
invariant-loop-set l = l.made ++ map Set l.set-iterator.rest.items ≡ map Set l.fn.sets
