-- Flags, one for each atom of the base, as a set.
use Rattle.std.specs.Prelude.{ℕ, Bool, false, List, slice_index_or}

-- the set of the atoms whose flag is set
abbrev pub flag_at : List Bool → ℕ → Bool
flag_at flags a = slice_index_or flags a false
