use Rattle.std.proofs.Common.{◌≡◌, ◌++◌, map}
use Rattle.ms_grammar.specs.declared.statement.TextLit.TheVariants.{Negated}
use Rattle.ms_parts.proofs.pools_form.negatives.Given as goal

abbrev pub invariant-loop-atom : goal.invariant-loop-atom
invariant-loop-atom l = l.made ++ map Negated l.atom-iterator.rest.items ≡ map Negated l.fn.atoms
