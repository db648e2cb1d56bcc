use Rattle.std.proofs.Common.{ℕ, ◌≡◌, ◌<◌, length}
use Rattle.ms_nogood.specs.Propagation.{Propagates}
use Rattle.ms_nogood.specs.Looks.{IsCalmAt}
use Rattle.ms_nogood.proofs.nogoods.Nogoods.pass.Given as goal

abbrev pub invariant-loop-key : goal.invariant-loop-key
invariant-loop-key l = record {
  propagates : Propagates l.self l.initial.trail l.trail;
  calm : length l.trail.entries ≡ length l.initial.trail.entries → (key : ℕ) → key < l.key → IsCalmAt l.self l.trail.entries key;
}
