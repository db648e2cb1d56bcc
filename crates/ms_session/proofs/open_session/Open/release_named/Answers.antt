use Rattle.ms_session.proofs.Inputs.{is_released, not_released, unknown_released}
use Rattle.ms_session.proofs.open_session.Open.release_named.Goals as goal

pub returns-in_default : goal.returns-in_default
returns-in_default c = unknown_released c.args.self.now c.args.atom.now c.in_ok-a.field-0 c.requires c.in_ok-a.ensures c.in_default.is

pub returns-in-Done : goal.returns-in-Done
returns-in-Done c =
    is_released c.args.self.now c.args.atom.now c.in_ok-a.field-0 c.requires c.in_ok-a.ensures c.release.new.self c.in-Some.a c.in-Some.is c.release.ensures.whole c.release.ensures.told c.release.ensures.rest
    (rw c.in-Done.is at c.release.ensures.releases)

pub returns-in-NoEffect : goal.returns-in-NoEffect
returns-in-NoEffect c =
    not_released c.args.self.now c.args.atom.now c.in_ok-a.field-0 c.requires c.in_ok-a.ensures c.release.new.self c.in-Some.a c.in-Some.is c.release.ensures.whole c.release.ensures.told c.release.ensures.rest
    (rw c.in-NoEffect.is at c.release.ensures.releases)
