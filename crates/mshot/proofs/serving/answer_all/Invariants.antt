use Rattle.std.proofs.Common.{◌≡◌, ◌||◌, ℕ, Bool, List, length}
use Rattle.ms_session.specs.Kept.{state_of}
use Rattle.mshot.specs.Sinks.{Sinks, sinks}
use Rattle.mshot.specs.Serving.{HasServed}
use Rattle.mshot.proofs.serving.answer_all.Given as goal

-- the items so far have their replies, and no put failed
abbrev pub invariant-loop-answer : goal.invariant-loop-answer
invariant-loop-answer g l = record {
  out_quiet : g.K.Sink.faults l.out ≡ g.K.Sink.faults l.fn.out;
  log_quiet : g.L.Sink.faults l.log ≡ g.L.Sink.faults l.fn.log;
  served : (taken : List ℕ) (before : Sinks) (some : Bool)
      → HasServed l.ended taken before (sinks (g.K.Sink.held l.fn.out) (g.K.Sink.pieces l.fn.out) (g.L.Sink.held l.fn.log) (g.L.Sink.pieces l.fn.log)) l.fn.lines (state_of l.fn.session) some
      → HasServed l.ended taken before (sinks (g.K.Sink.held l.out) (g.K.Sink.pieces l.out) (g.L.Sink.held l.log) (g.L.Sink.pieces l.log)) l.lines (state_of l.session) (some || l.refused);
}

abbrev pub decreases-loop-answer : goal.decreases-loop-answer
decreases-loop-answer g l = length l.lines.rest
