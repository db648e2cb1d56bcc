use Rattle.std.proofs.Common.{ℕ, ◌≡◌, take}
use Rattle.ms_join.specs.AnswerSets.{set_of}
use Rattle.ms_rules.specs.Flags.{flag_at}
use Rattle.ms_rules.proofs.flags.write_flags.Given as goal

abbrev pub invariant-loop-atom : goal.invariant-loop-atom
invariant-loop-atom l = (a : ℕ) → flag_at l.flags a ≡ set_of (take l.atom-index l.atoms) a
