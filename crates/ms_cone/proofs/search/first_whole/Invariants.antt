use Rattle.std.proofs.Common.{◌≡◌, ◌+◌, ◌-◌}
use Rattle.ms_cone.specs.Search.{IsExplored, led_by}
use Rattle.ms_cone.proofs.search.first_whole.Given as goal

abbrev pub invariant-loop-forth : goal.invariant-loop-forth
invariant-loop-forth l = record {
  forth_atoms : l.forth.atoms ≡ l.atoms;
  back_atoms : l.back.atoms ≡ l.atoms;
  forth_explored : IsExplored (led_by l.old.needs l.new.needs) l.starts l.forth;
  back_explored : IsExplored (led_by l.old.uses l.new.uses) l.starts l.back;
}

abbrev pub decreases-loop-forth : goal.decreases-loop-forth
decreases-loop-forth l = l.atoms + l.atoms - (l.forth.visited + l.back.visited)
