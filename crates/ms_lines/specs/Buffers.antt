-- How bytes are kept of which some are gone.
use Rattle.std.specs.Prelude.{ℕ, ◌≡◌, ◌≤◌, ◌<◌, ◌+◌, ◌-◌, ◌==◌, ◌||◌, Bool, ◌++◌, List, [], length, drop, take_while}
use Rattle.std.specs.List.{prefix_len}
use Rattle.ms_text.specs.Tokens.{is_in_line}
use Rattle.ms_call.specs.Lines.{is_space}

-- So many are gone, and in what is left no line end stands before a place.
pub record IsKept (bytes : List ℕ) (gone seen : ℕ) : Type 0 where
  pub after : gone ≤ seen
  pub within : seen ≤ length bytes
  pub before : seen - gone ≤ prefix_len is_in_line (drop gone bytes)

-- The first line has a line end, and so many bytes before it.
pub record IsLineLen (bytes : List ℕ) (len : ℕ) : Type 0 where
  pub len_is : len ≡ prefix_len is_in_line bytes
  pub within : len < length bytes

-- No line has a line end.
abbrev pub HasNoLine : List ℕ → Type 0
HasNoLine bytes = prefix_len is_in_line bytes ≡ length bytes

-- what may be passed over where a line begins outside of a text: space, tab and line end
abbrev pub is_passed : ℕ → Bool
is_passed b = is_space b || (b == 10)

abbrev pub BeginsNotBlank : List ℕ → Type 0
BeginsNotBlank bytes = take_while is_passed bytes ≡ []

-- The first bytes end with the second.
abbrev pub IsEndOf : List ℕ → List ℕ → Type 0
IsEndOf bytes last = (front : List ℕ) × (bytes ≡ front ++ last)

-- The first bytes end with the second, and the first line isn't among them.
abbrev pub LacksLine : List ℕ → List ℕ → Type 0
LacksLine bytes last = length last + prefix_len is_in_line bytes < length bytes
