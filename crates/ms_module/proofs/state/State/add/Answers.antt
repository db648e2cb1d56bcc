use Rattle.std.proofs.Common.{◌≡◌, ◌++◌, List, subst}
use Rattle.ms_join.specs.declared.ground_rule.GroundRule.{GroundRule}
use Rattle.ms_module.proofs.JoinLaws.{joined}
use Rattle.ms_module.proofs.state.State.add.Goals as goal

pub returns-clause-joined : goal.returns-clause-joined
returns-clause-joined c = joined c.args.self.now c.args.m.now c.add_atoms.new.self c.append.new.self c.in_ok-add_atoms.ensures
    (subst (λ (rules : List GroundRule). c.append.new.self ≡ record c.add_atoms.new.self { rules = c.add_atoms.new.self.rules ++ rules }) c.as_slice.ensures c.in_ok-append.ensures.ok)
