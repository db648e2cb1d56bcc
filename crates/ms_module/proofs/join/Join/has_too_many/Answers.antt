use Rattle.std.proofs.Common.{◌≡◌, [], ◌++◌, subst}
use Rattle.std.proofs.lemmas.List.Elements.{All-append}
use Rattle.ms_join.specs.declared.ground_rule.GroundRule.{GroundRule}
use Rattle.ms_join.specs.Modules.{Join}
use Rattle.ms_module.specs.Bodies.{ArePlain}
use Rattle.ms_module.proofs.JoinLaws.{plain_rules}
use Rattle.ms_module.proofs.TooMany.{tells_many}
use Rattle.ms_module.proofs.join.Join.has_too_many.Goals as goal

pub returns-clause-tells : goal.returns-clause-tells
returns-clause-tells c = tells_many c.self.inside.state c.args.self.now c.self.inside.bodies c.args.rules.now c.args.atoms c.in_ok-bodies.bodies c.saturating_add.result
    c.self.view_is
    (All-append (λ (rule : GroundRule). rule.aggs ≡ []) c.self.inside.state.rules c.args.rules.now (plain_rules c.self.inside.state.atoms c.self.inside.state.rules c.self.invariant.join.over.rules) c.requires)
    c.self.invariant.bodies_are c.in_ok-bodies.ensures c.saturating_add.ensures

pub returns-clause-plain : goal.returns-clause-plain
returns-clause-plain c =
    subst (λ (j : Join). ArePlain (j.rules ++ c.args.rules.now)) c.self.view_is
    (All-append (λ (rule : GroundRule). rule.aggs ≡ []) c.self.inside.state.rules c.args.rules.now (plain_rules c.self.inside.state.atoms c.self.inside.state.rules c.self.invariant.join.over.rules) c.requires)
