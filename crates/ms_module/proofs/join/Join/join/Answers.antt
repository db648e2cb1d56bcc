use Rattle.std.proofs.Common.{◌<◌, ◌+◌, ◌^◌, subst, sym}
use Rattle.ms_join.specs.Modules.{Join, IsWellFormed, IsJoined, rules_of}
use Rattle.ms_join.specs.AnswerSets.{AreRulesOver}
use Rattle.ms_possible.proofs.Joining.{joined_keeps}
use Rattle.ms_module.proofs.JoinLaws.{kept_joined, kept_reset, few_atoms}
use Rattle.ms_module.proofs.join.Join.join.Goals as goal

pub add_module-requires-clause-well_formed : goal.add_module-requires-clause-well_formed
add_module-requires-clause-well_formed c = subst (λ (j : Join). IsWellFormed j.atoms c.args.m.now) (sym c.self.view_is) c.requires.well_formed

pub add_module-requires-clause-few : goal.add_module-requires-clause-few
add_module-requires-clause-few c = subst (λ (j : Join). j.atoms + c.args.m.now.fresh < 2 ^ 32) (sym c.self.view_is) (few_atoms c.args.self.now c.args.m.now c.requires.composable.few)

pub add_module-requires-clause-inputs : goal.add_module-requires-clause-inputs
add_module-requires-clause-inputs c = c.self.invariant.join.over.inputs

pub invariant_of-self : goal.invariant_of-self
invariant_of-self c = kept_joined c.self.inside.state c.args.m.now c.add_module.new.state c.self.inside.bodies c.add_module.new.bodies c.self.inside.dependencies c.add_module.new.dependencies
    c.self.invariant (subst (λ (j : Join). IsWellFormed j.atoms c.args.m.now) (sym c.self.view_is) c.requires.well_formed)
    c.in-Ok.ensures.joined c.in-Ok.ensures.inputs c.in-Ok.ensures.bodies c.in-Ok.ensures.uses

pub invariant_of-self-in-Err : goal.invariant_of-self-in-Err
invariant_of-self-in-Err c = kept_reset c.new.result c.new-in-Err.result c.new-in-Err-2.result c.new.ensures c.new-in-Err.ensures c.new-in-Err-2.ensures

pub returns-in-Ok-clause-ok : goal.returns-in-Ok-clause-ok
returns-in-Ok-clause-ok c = subst (λ (j : Join). IsJoined j c.args.m.now c.add_module.new.state) c.self.view_is c.in-Ok.ensures.joined

pub returns-in-Ok-clause-past : goal.returns-in-Ok-clause-past
returns-in-Ok-clause-past c set possible =
    joined_keeps c.args.self.now c.add_module.new.state c.args.m.now set (subst (λ (j : Join). AreRulesOver j.atoms (rules_of j)) c.self.view_is c.self.invariant.join.over)
    c.requires.well_formed c.requires.composable (subst (λ (j : Join). IsJoined j c.args.m.now c.add_module.new.state) c.self.view_is c.in-Ok.ensures.joined) possible
