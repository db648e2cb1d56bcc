use Rattle.std.proofs.Common.{ℕ, take}
use Rattle.std.specs.Prelude.{◌↔◌}
use Rattle.std.specs.List.{Contains}
use Rattle.ms_unfound.specs.Taking.{IsInner}
use Rattle.ms_unfound.proofs.taking.inner_places.Given as goal

abbrev pub invariant-loop-a : goal.invariant-loop-a
invariant-loop-a l = (i : ℕ) → Contains l.places i ↔ IsInner l.members l.number (take l.a-index l.atoms) i
