use Rattle.std.proofs.Common.{◌≡◌, ◌++◌, [], Some, map, take}
use Rattle.ms_core.specs.declared.rule.RuleKind.TheVariants.{External}
use Rattle.ms_core.specs.CoreRules.{core_rule}
use Rattle.ms_parts.proofs.call.append_externals.Given as goal

abbrev pub invariant-loop-atom : goal.invariant-loop-atom
invariant-loop-atom l = l.into ≡ l.fn.into ++ map (λ a. core_rule External (Some a) []) (take l.atom-index l.atoms)
