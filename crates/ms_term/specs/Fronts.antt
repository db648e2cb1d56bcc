-- Fronts of texts.
use Rattle.std.specs.Prelude.{◌≡◌, ℕ, List, ◌++◌}

pub record IsFrontOf (front whole : List ℕ) : Type 0 where
  pub rest : List ℕ
  pub is : front ++ rest ≡ whole

-- A front of the text was appended to what was there.
pub record AppendsFront (old new text : List ℕ) : Type 0 where
  pub kept : IsFrontOf old new
  pub front : IsFrontOf new (old ++ text)
