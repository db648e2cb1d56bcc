use Rattle.std.proofs.Common.{◌≡◌, ◌++◌, take}
use Rattle.std.specs.List.{flat_map}
use Rattle.ms_grammar.specs.declared.statement.Form.TheVariants.{Rule}
use Rattle.ms_core.specs.CoreRules.{core_rules}
use Rattle.ms_parts.proofs.call.append_copies.Given as goal

abbrev pub invariant-loop-rule : goal.invariant-loop-rule
invariant-loop-rule l = l.into ≡ l.fn.into ++ flat_map (λ r. core_rules (Rule r.0 r.1)) (take l.rule-index l.rules)
