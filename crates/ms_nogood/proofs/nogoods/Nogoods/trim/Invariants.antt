use Rattle.std.proofs.Common.{◌≡◌}
use Rattle.ms_nogood.proofs.Kept.{Dropped}
use Rattle.ms_nogood.proofs.nogoods.Nogoods.trim.Given as goal

abbrev pub invariant-loop-i : goal.invariant-loop-i
invariant-loop-i l = record {
  kept : l.self-inside.kept ≡ l.initial.self-inside.kept;
  passing : l.self-inside.passing ≡ l.initial.self-inside.passing;
  fresh : l.self-inside.fresh ≡ l.initial.self-inside.fresh;
  capacity : l.self-inside.slots.capacity ≡ l.initial.self-inside.slots.capacity;
  dropped : Dropped l.initial.self-inside.kept.items l.initial.self-inside.slots.slots l.self-inside.slots.slots l.i;
}
