use Rattle.std.proofs.Common.{◌≡◌}
use Rattle.std.specs.Io.KnownBytes.{Keeps}
use Rattle.ms_io.proofs.std_source.StdSourceSource.take.Given as goal

-- a try that isn't the last counts no fault, and loses no byte
abbrev pub invariant-loop : goal.invariant-loop
invariant-loop g l =
    (l.self-inside.faults ≡ l.initial.self-inside.faults)
    × Keeps (g.R.Read.remaining l.initial.self-inside.reader) (g.R.Read.remaining l.self-inside.reader)
