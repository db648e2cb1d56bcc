use Rattle.std.proofs.Common.{◌≡◌, ◌∷◌, ◌++◌, [], ◌∙◌}
use Rattle.ms_lits.proofs.Stored.{stored_less}
use Rattle.ms_lits.proofs.trail.Trail.clear.Goals as goal

pub loop-entry-preserved : goal.loop-entry-preserved
loop-entry-preserved c =
    let i = c.loop-entry.invariant in
    let splits : c.loop-entry.self-inside.entries.items ≡ c.pop.new.self.items ++ c.in-Some.entry ∷ [] = c.in-Some.ensures.items in
    record {
      room = i.room;
      ends = i.ends;
      capacity = c.pop.ensures.capacity ∙ i.capacity;
      stored = stored_less c.loop-entry.self-inside.room c.loop-entry.self-inside.entries.items c.pop.new.self.items c.loop-entry.self-inside.places.items c.loop-entry.self-inside.marks.items c.in-Some.entry i.stored splits;
    }
