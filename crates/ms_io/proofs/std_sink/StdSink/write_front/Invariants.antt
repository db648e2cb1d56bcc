use Rattle.std.proofs.Common.{◌≡◌}
use Rattle.std.specs.Io.KnownBytes.{Keeps}
use Rattle.ms_io.proofs.std_sink.StdSink.write_front.Given as goal

-- a try that isn't the last counts no fault, and adds nothing
abbrev pub invariant-loop : goal.invariant-loop
invariant-loop g l =
    (l.self-inside.faults ≡ l.initial.self-inside.faults)
    × Keeps (g.W.Write.contents l.initial.self-inside.writer) (g.W.Write.contents l.self-inside.writer)
