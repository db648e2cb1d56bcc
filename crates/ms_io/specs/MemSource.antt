-- What a source over bytes in memory is, and what its calls change.
use Rattle.std.specs.Prelude.{ℕ, List, length, drop, min}
use Rattle.ms_io.specs.Faults.{raised}

-- The bytes that are left, how many one call gives at most, the numbers of the calls that fail, and
-- the counts of calls and of faults.
pub record SourceState : Type 0 where
  pub left : List ℕ
  pub chunk : ℕ
  pub fails : List ℕ
  pub calls : ℕ
  pub faults : ℕ

-- How many bytes a call that doesn't fail moves into a buffer of this length.
abbrev pub moved_count : SourceState → ℕ → ℕ
moved_count source room = min source.chunk (min (length source.left) room)

-- The source after a call that moved the first n bytes.
abbrev pub after_move : SourceState → ℕ → SourceState
after_move source n = record source { left = drop n source.left; calls = raised source.calls }

-- The source after a call that failed.
abbrev pub after_fault : SourceState → SourceState
after_fault source = record source { calls = raised source.calls; faults = raised source.faults }
