-- What a sink that holds its bytes in memory is, and what its calls change.
use Rattle.std.specs.Prelude.{ℕ, List, ◌++◌}
use Rattle.ms_io.specs.Faults.{raised}

-- The bytes that it holds, how many it has room for in all, the numbers of the calls that fail, and
-- the counts of calls and of faults.
pub record SinkState : Type 0 where
  pub held : List ℕ
  pub room : ℕ
  pub fails : List ℕ
  pub calls : ℕ
  pub faults : ℕ

-- The sink after a call that added the piece.
abbrev pub after_put : SinkState → List ℕ → SinkState
after_put sink piece = record sink { held = sink.held ++ piece; calls = raised sink.calls }

-- The sink after a call that failed.
abbrev pub after_refusal : SinkState → SinkState
after_refusal sink = record sink { calls = raised sink.calls; faults = raised sink.faults }
