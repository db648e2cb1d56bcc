use Rattle.std.proofs.Common.{take}
use Rattle.std.specs.List.{All}
use Rattle.ms_ctxground.specs.Sizes.{IsLargeHead}
use Rattle.ms_ctxground.proofs.size.has_large_head.Given as goal

abbrev pub invariant-loop-instance : goal.invariant-loop-instance
invariant-loop-instance l = All (λ i. IsLargeHead l.terms i → ⊥) (take l.instance-index l.instances)
