use Rattle.std.proofs.Common.{◌≡◌, ◌++◌, List, rules, subst, sym}
use Rattle.ms_core.specs.declared.rule.Guard.{Guard}
use Rattle.ms_core.specs.CoreRules.{left_guard, right_guard, guards}
use Rattle.ms_parts.specs.Makers.{IsMade}
use Rattle.ms_parts.proofs.MakerLaws.{made_then}
use Rattle.ms_parts.proofs.body.guards.Goals as goal

pub returns : goal.returns
returns c =
    let both : c.from_vec.result ≡ c.in_ok-left_guard.field-0 ++ c.in_ok-right_guard.field-0 = search (rules) in
    subst (λ (made : List Guard). IsMade (guards c.args.left.now c.args.right.now) 0 c.args.ranges.now made c.right_guard.new.ranges) (sym both)
    (made_then (λ l r. l ++ r) (left_guard c.args.left.now) (right_guard c.args.right.now) 0 c.args.ranges.now c.in_ok-left_guard.field-0 c.left_guard.new.ranges c.in_ok-right_guard.field-0 c.right_guard.new.ranges c.in_ok-left_guard.ensures c.in_ok-right_guard.ensures)
