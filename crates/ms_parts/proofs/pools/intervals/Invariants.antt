use Rattle.std.proofs.Common.{◌≡◌, ◌++◌, map}
use Rattle.ms_grammar.specs.declared.term.TextTerm.{Interval}
use Rattle.ms_core.specs.Pools.{pairs_with}
use Rattle.ms_parts.proofs.pools.intervals.Given as goal

abbrev pub invariant-loop-low : goal.invariant-loop-low
invariant-loop-low l = l.made ++ map (λ p. Interval p.0 p.1) l.low-iterator.rest.items ≡ pairs_with Interval l.fn.lows l.fn.highs
