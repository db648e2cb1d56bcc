-- What a source over a reader is.
use Rattle.std.specs.Prelude.{ℕ}

-- The reader, and how many faults there were.
pub record Reads (R : Type 0) : Type 0 where
  pub reader : R
  pub faults : ℕ
