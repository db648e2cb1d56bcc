use Rattle.std.proofs.Common.{◌≡◌, length}
use Rattle.ms_io.proofs.Appending.{FrontIsOut}
use Rattle.ms_io.proofs.std_sink.StdSinkSink.put.Given as goal

-- no write failed so far
abbrev pub invariant-loop-rest : goal.invariant-loop-rest
invariant-loop-rest g l =
    (l.self.faults ≡ l.initial.self.faults)
    × FrontIsOut l.piece l.rest (g.W.Write.contents l.initial.self.writer) (g.W.Write.contents l.self.writer)

abbrev pub decreases-loop-rest : goal.decreases-loop-rest
decreases-loop-rest g l = length l.rest
