use Rattle.std.proofs.Common.{◌≡◌, ◌++◌, map}
use Rattle.ms_grammar.specs.declared.term.TextTerm.{Binary}
use Rattle.ms_core.specs.Pools.{pairs_with}
use Rattle.ms_parts.proofs.pools.operations.Given as goal

abbrev pub invariant-loop-left : goal.invariant-loop-left
invariant-loop-left l = l.made ++ map (λ p. Binary l.op p.0 p.1) l.left-iterator.rest.items ≡ pairs_with (Binary l.op) l.fn.lefts l.fn.rights
