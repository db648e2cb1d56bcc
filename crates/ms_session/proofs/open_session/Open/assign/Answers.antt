use Rattle.ms_join.specs.Modules.{value_of}
use Rattle.ms_session.proofs.Turning.{assigned_sound}
use Rattle.ms_session.proofs.open_session.Open.assign.Goals as goal

pub returns-clause-whole : goal.returns-clause-whole
returns-clause-whole c =
    let s = c.args.self.now in
    assigned_sound s.terms s.base s.join c.assign-effect.new.self s.solver c.args.a c.requires c.assigned_is_served.ensures c.rules.ensures.join (value_of c.args.truth) c.assign-effect.result c.assign-effect.ensures.assigns
