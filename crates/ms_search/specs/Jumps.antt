-- The levels of a nogood's literals.
use Rattle.std.specs.Prelude.{ℕ, ◌≡◌, ◌≢◌, ◌<◌, None, Contains}
use Rattle.ms_lits.specs.declared.lit.Lit.{Lit}
use Rattle.ms_lits.specs.declared.trail.Entry.{Entry}
use Rattle.ms_lits.specs.Literals.{Nogood}
use Rattle.ms_lits.specs.Assignment.{up_to, value_in}
use Rattle.std.specs.Prelude.{List}

-- The literal's variable is unassigned below this level.
pub record IsFreeBelow (entries : List Entry) (lit : Lit) (level : ℕ) : Type 0 where
  pub free : (lower : ℕ) → lower < level → value_in (up_to lower entries) lit.var ≡ None

-- A literal of the nogood is unassigned.
pub record IsOpenIn (entries : List Entry) (nogood : Nogood) : Type 0 where
  pub lit : Lit
  pub among : Contains nogood lit
  pub free : value_in entries lit.var ≡ None

-- Literals of two variables are unassigned.
pub record IsOpenTwice (entries : List Entry) (nogood : Nogood) : Type 0 where
  pub first : Lit
  pub second : Lit
  pub has_first : Contains nogood first
  pub has_second : Contains nogood second
  pub differ : first.var ≢ second.var
  pub first_free : value_in entries first.var ≡ None
  pub second_free : value_in entries second.var ≡ None

-- Below this level the nogood is open twice.
abbrev pub IsOpenBelow : List Entry → Nogood → ℕ → Type 0
IsOpenBelow entries nogood level = (lower : ℕ) → lower < level → IsOpenTwice (up_to lower entries) nogood
