-- Atoms that no set has which is possible for the join.
use Rattle.std.specs.Prelude.{ℕ, ◌≡◌, Bool, false, Some, slice_get}
use Rattle.ms_tree.specs.Tree.{Tree}
use Rattle.ms_join.specs.Possible.{IsPossible}
use Rattle.ms_machine.specs.Machine.{State}

-- An atom of the base has this term, and no possible set has the atom.
pub record IsRuledOut (s : State) (t : Tree) : Type 0 where
  pub atom : ℕ
  pub named : slice_get s.names atom ≡ Some t
  pub in_none : (set : ℕ → Bool) → IsPossible s.join set → set atom ≡ false
