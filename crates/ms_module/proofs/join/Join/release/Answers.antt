use Rattle.std.proofs.Common.{subst}
use Rattle.ms_join.specs.Modules.{Join}
use Rattle.ms_join.specs.Possible.{IsPossible}
use Rattle.ms_module.proofs.PossibleLaws.{possible_released}
use Rattle.ms_module.proofs.JoinLaws.{kept_released}
use Rattle.ms_module.proofs.join.Join.release.Goals as goal

pub invariant_of-self : goal.invariant_of-self
invariant_of-self c = kept_released c.self.inside.state c.release.new.self c.self.inside.bodies c.self.inside.dependencies c.args.a c.release.result
    c.release.ensures.releases c.release.ensures.inputs c.self.invariant

pub returns-clause-past : goal.returns-clause-past
returns-clause-past c set possible =
    subst (λ (j : Join). IsPossible j set) c.self.view_is
    (possible_released c.self.inside.state c.release.new.self c.args.a c.release.result c.release.ensures.releases set possible)
