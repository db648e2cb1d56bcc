use Rattle.std.proofs.Common.{◌++◌, List, take}
use Rattle.ms_things.specs.Signs.{Signed, IsFor}
use Rattle.ms_complete.specs.Rules.{signed_atoms}
use Rattle.ms_complete.specs.Sets.{Match}
use Rattle.ms_complete.proofs.complete.Complete.push_lits.Given as goal

abbrev pub invariant-loop-a : goal.invariant-loop-a
invariant-loop-a l = (signs : List Signed) → Match (IsFor l.self.things) signs l.fn.lits.items → Match (IsFor l.self.things) (signs ++ signed_atoms l.truth (take l.a-index l.atoms)) l.lits.items
