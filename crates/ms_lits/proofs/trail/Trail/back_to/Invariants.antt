use Rattle.std.proofs.Common.{◌≡◌, ◌≤◌, ◌++◌, List, length, vec_len}
use Rattle.std.specs.Prelude.{vec_capacity}
use Rattle.ms_lits.specs.declared.trail.Entry.{Entry}
use Rattle.ms_lits.specs.Storage.{AreStored}
use Rattle.ms_lits.proofs.trail.Trail.back_to.Given as goal

abbrev pub invariant-loop-self : goal.invariant-loop-self
invariant-loop-self l = record {
  room : l.self-inside.room ≡ l.initial.self-inside.room;
  ends : l.self-inside.ends ≡ l.initial.self-inside.ends;
  capacity : vec_capacity l.self-inside.entries ≡ vec_capacity l.initial.self-inside.entries;
  stored : AreStored l.self-inside.room l.self-inside.entries.items l.self-inside.places.items l.self-inside.marks.items;
  above : l.end ≤ length l.self-inside.entries.items;
  front : (rest : List Entry) × (l.initial.self-inside.entries.items ≡ l.self-inside.entries.items ++ rest);
}

abbrev pub decreases-loop-self : goal.decreases-loop-self
decreases-loop-self l = vec_len l.self-inside.entries
