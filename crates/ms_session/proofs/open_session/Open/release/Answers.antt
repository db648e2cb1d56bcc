use Rattle.ms_session.proofs.Turning.{released_sound}
use Rattle.ms_session.proofs.open_session.Open.release.Goals as goal

pub returns-in-Done-clause-whole : goal.returns-in-Done-clause-whole
returns-in-Done-clause-whole c =
    let s = c.args.self.now in
    released_sound s.terms s.base s.join c.release-effect.new.self s.solver c.args.a c.requires c.rules.ensures.join c.release.new.self c.in-Done.ensures.releases
    c.release.ensures.serves c.release.ensures.numbering c.release.ensures.attached c.release.ensures.in_step
