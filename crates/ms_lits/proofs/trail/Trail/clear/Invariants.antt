use Rattle.std.proofs.Common.{◌≡◌, vec_len}
use Rattle.std.specs.Prelude.{vec_capacity}
use Rattle.ms_lits.specs.Storage.{AreStored}
use Rattle.ms_lits.proofs.trail.Trail.clear.Given as goal

abbrev pub invariant-loop-entry : goal.invariant-loop-entry
invariant-loop-entry l = record {
  room : l.self-inside.room ≡ l.initial.self-inside.room;
  ends : l.self-inside.ends ≡ l.initial.self-inside.ends;
  capacity : vec_capacity l.self-inside.entries ≡ vec_capacity l.initial.self-inside.entries;
  stored : AreStored l.self-inside.room l.self-inside.entries.items l.self-inside.places.items l.self-inside.marks.items;
}

abbrev pub decreases-loop-entry : goal.decreases-loop-entry
decreases-loop-entry l = vec_len l.self-inside.entries
