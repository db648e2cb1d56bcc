use Rattle.std.proofs.Common.{◌≡◌, ◌++◌, map}
use Rattle.ms_grammar.specs.declared.statement.TextLit.TheVariants.{Positive}
use Rattle.ms_parts.proofs.pools_form.positives.Given as goal

abbrev pub invariant-loop-atom : goal.invariant-loop-atom
invariant-loop-atom l = l.made ++ map Positive l.atom-iterator.rest.items ≡ map Positive l.fn.atoms
