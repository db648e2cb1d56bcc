use Rattle.std.proofs.Common.{◌≡◌, ◌++◌, map}
use Rattle.ms_grammar.specs.declared.term.TextTerm.{Neg}
use Rattle.ms_parts.proofs.pools.negations.Given as goal

abbrev pub invariant-loop-term : goal.invariant-loop-term
invariant-loop-term l = l.made ++ map Neg l.term-iterator.rest.items ≡ map Neg l.fn.terms
