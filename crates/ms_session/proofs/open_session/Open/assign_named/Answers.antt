use Rattle.ms_session.proofs.Inputs.{is_assigned, not_assigned, unknown_assigned}
use Rattle.ms_session.proofs.open_session.Open.assign_named.Goals as goal

pub returns-in_default : goal.returns-in_default
returns-in_default c = unknown_assigned c.args.self.now c.args.atom.now c.in_ok-a.field-0 c.requires c.in_ok-a.ensures c.args.truth c.in_default.is

pub returns-in-Done : goal.returns-in-Done
returns-in-Done c =
    is_assigned c.args.self.now c.args.atom.now c.in_ok-a.field-0 c.requires c.in_ok-a.ensures c.assign.new.self c.in-Some.a c.in-Some.is c.assign.ensures.whole c.assign.ensures.rest
    c.args.truth (rw c.in-Done.is at c.assign.ensures.assigns)

pub returns-in-NoEffect : goal.returns-in-NoEffect
returns-in-NoEffect c =
    not_assigned c.args.self.now c.args.atom.now c.in_ok-a.field-0 c.requires c.in_ok-a.ensures c.assign.new.self c.in-Some.a c.in-Some.is c.assign.ensures.whole c.assign.ensures.rest
    c.args.truth (rw c.in-NoEffect.is at c.assign.ensures.assigns)
