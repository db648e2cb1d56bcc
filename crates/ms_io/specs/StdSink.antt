-- What a sink over a writer is.
use Rattle.std.specs.Prelude.{ℕ}

-- The writer, and how many faults there were.
pub record Writes (W : Type 0) : Type 0 where
  pub writer : W
  pub faults : ℕ
