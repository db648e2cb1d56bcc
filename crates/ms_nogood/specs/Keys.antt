-- The least key of some from a number on.
use Rattle.std.specs.Prelude.{ℕ, ◌≡◌, ◌<◌, ◌≤◌, Bool, true, false, Option, Some, None}

pub record IsLeastFrom (test : ℕ → Bool) (from key : ℕ) : Type 0 where
  pub at_least : from ≤ key
  pub passes : test key ≡ true
  pub least : (other : ℕ) → from ≤ other → other < key → test other ≡ false

-- The least key of at least this number that passes the test, or None where none does.
abbrev pub FindsFrom : (ℕ → Bool) → ℕ → Option ℕ → Type 0
FindsFrom test from None = (key : ℕ) → from ≤ key → test key ≡ false
FindsFrom test from (Some key) = IsLeastFrom test from key
