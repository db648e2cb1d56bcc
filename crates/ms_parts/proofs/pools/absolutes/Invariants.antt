use Rattle.std.proofs.Common.{◌≡◌, ◌++◌, map}
use Rattle.ms_grammar.specs.declared.term.TextTerm.{Abs}
use Rattle.ms_parts.proofs.pools.absolutes.Given as goal

abbrev pub invariant-loop-term : goal.invariant-loop-term
invariant-loop-term l = l.made ++ map Abs l.term-iterator.rest.items ≡ map Abs l.fn.terms
