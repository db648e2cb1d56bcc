use Rattle.std.proofs.Common.{subst}
use Rattle.std.specs.Prelude.{◌↔◌}
use Rattle.ms_join.specs.Modules.{Join}
use Rattle.ms_join.specs.Possible.{IsPossible}
use Rattle.ms_module.proofs.PossibleLaws.{possible_assigned}
use Rattle.ms_module.proofs.JoinLaws.{kept_assigned}
use Rattle.ms_module.proofs.join.Join.assign.Goals as goal

pub invariant_of-self : goal.invariant_of-self
invariant_of-self c = kept_assigned c.self.inside.state c.assign.new.self c.self.inside.bodies c.self.inside.dependencies c.args.a _ c.assign.result
    c.assign.ensures.assigns c.assign.ensures.inputs c.self.invariant

pub returns-clause-possible : goal.returns-clause-possible
returns-clause-possible c set =
    subst (λ (j : Join). IsPossible j set ↔ IsPossible c.assign.new.self set) c.self.view_is
    (possible_assigned c.self.inside.state c.assign.new.self c.args.a _ c.assign.result c.assign.ensures.assigns set)
