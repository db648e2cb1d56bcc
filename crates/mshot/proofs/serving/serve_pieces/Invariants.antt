use Rattle.std.proofs.Common.{◌≡◌, ◌≤◌, ◌-◌, ◌^◌, ℕ, false, List, Some, length, take, drop, vec_len}
use Rattle.ms_lines.specs.Buffers.{HasNoLine}
use Rattle.ms_session.specs.Kept.{state_of}
use Rattle.mshot.specs.Sinks.{sinks}
use Rattle.mshot.specs.Serving.{HasServed}
use Rattle.mshot.proofs.serving.serve_pieces.Given as goal

-- each whole command that was taken has its reply, and no call failed
abbrev pub invariant-loop-lines : goal.invariant-loop-lines
invariant-loop-lines g l = record {
  buffer : vec_len l.buffer ≡ 65536;
  few : l.taken ≤ 2 ^ 30;
  src_quiet : g.S.Source.faults l.src ≡ g.S.Source.faults l.fn.src;
  out_quiet : g.K.Sink.faults l.out ≡ g.K.Sink.faults l.fn.out;
  log_quiet : g.L.Sink.faults l.log ≡ g.L.Sink.faults l.fn.log;
  no_line : HasNoLine l.lines.rest;
  served : (script : List ℕ) → g.S.Source.left l.fn.src ≡ Some script
      → (l.taken ≤ length script) × (g.S.Source.left l.src ≡ Some (drop l.taken script))
      × HasServed false (take l.taken script) (sinks (g.K.Sink.held l.fn.out) (g.K.Sink.pieces l.fn.out) (g.L.Sink.held l.fn.log) (g.L.Sink.pieces l.fn.log))
      (sinks (g.K.Sink.held l.out) (g.K.Sink.pieces l.out) (g.L.Sink.held l.log) (g.L.Sink.pieces l.log)) l.lines (state_of l.session) l.refused;
}

abbrev pub decreases-loop-lines : goal.decreases-loop-lines
decreases-loop-lines g l = 2 ^ 30 - l.taken
