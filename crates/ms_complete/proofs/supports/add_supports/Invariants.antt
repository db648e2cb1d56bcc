use Rattle.std.proofs.Common.{take}
use Rattle.std.specs.List.{Any}
use Rattle.ms_complete.specs.Bases.{AddsExactly}
use Rattle.ms_complete.specs.Rules.{HeadSays}
use Rattle.ms_complete.proofs.supports.add_supports.Given as goal

abbrev pub invariant-loop-head : goal.invariant-loop-head
invariant-loop-head l = AddsExactly l.fn.store l.store (λ n. Any (λ head. HeadSays l.supports head n) (take l.head-index l.heads))
