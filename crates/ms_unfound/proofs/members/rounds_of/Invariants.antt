use Rattle.std.proofs.Common.{ℕ, take}
use Rattle.std.specs.Prelude.{◌↔◌}
use Rattle.std.specs.List.{Contains}
use Rattle.ms_unfound.specs.Members.{IsCyclic}
use Rattle.ms_unfound.proofs.members.rounds_of.Given as goal

abbrev pub invariant-loop-rule : goal.invariant-loop-rule
invariant-loop-rule l = (n : ℕ) → Contains l.rounds.items n ↔ IsCyclic l.cone (take l.rule-index l.rules) n
