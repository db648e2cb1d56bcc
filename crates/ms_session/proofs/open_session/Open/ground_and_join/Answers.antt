use Rattle.std.proofs.Common.{refl, sym, subst}
use Rattle.ms_call.specs.declared.command.Command.TheVariants.{Ground}
use Rattle.ms_solving.specs.Grounding.{core_of_calls}
use Rattle.ms_session.specs.declared.open_session.Open.{Open}
use Rattle.ms_session.specs.Opened.{IsStep}
use Rattle.ms_session.proofs.Stepping.{both_weaker, grown_base, grown_over, joining_step, large, later, module_stays}
use Rattle.ms_session.proofs.open_session.Open.ground_and_join.Goals as goal

pub join_module-requires-clause-base : goal.join_module-requires-clause-base
join_module-requires-clause-base c =
    let s = c.args.self.now in
    grown_base (core_of_calls s.parts c.args.calls.now) s.terms c.ground.new.terms s.base c.ground.new.base s.join s.solver
    c.in-Ok.ground_module c.mark-mark.result c.requires.whole c.mark-mark.ensures c.in-Ok.ensures

pub join_module-requires-clause-solver : goal.join_module-requires-clause-solver
join_module-requires-clause-solver c =
    let s = c.args.self.now in
    grown_over (core_of_calls s.parts c.args.calls.now) s.terms c.ground.new.terms s.base c.ground.new.base s.join s.solver
    c.in-Ok.ground_module c.requires.whole c.in-Ok.ensures

pub returns-in-Err-Later-clause-step : goal.returns-in-Err-Later-clause-step
returns-in-Err-Later-clause-step c =
    later c.args.calls.now c.args.self.now c.requires c.ground.new.terms c.ground.new.base (rw c.in-Err-Later.field-0-is at c.in-Err-Later.ensures)

pub returns-in-Err-TooLarge-clause-step : goal.returns-in-Err-TooLarge-clause-step
returns-in-Err-TooLarge-clause-step c =
    large c.args.calls.now c.args.self.now c.requires c.ground.new.terms c.ground.new.base (rw c.in-Err-TooLarge.field-0-is at c.in-Err-TooLarge.ensures)

pub returns-clause-step : goal.returns-clause-step
returns-clause-step c =
    let s = c.args.self.now in
    let n = c.join_module.new.self in
    both_weaker c.join_module.result _ _ _
    (λ reply h d. subst (λ (o : Open). IsStep s (Ground c.args.calls.now) o reply) (sym c.join_module.ensures.rest)
    (joining_step c.args.calls.now s c.requires c.ground.new.terms c.ground.new.base n.base n.join n.solver n.notes c.in-Ok.ground_module c.mark-mark.result reply
    c.mark-mark.ensures c.in-Ok.ensures h d))
    c.join_module.ensures.joins c.join_module.ensures.declares

pub returns-in-Err-Later-clause-back : goal.returns-in-Err-Later-clause-back
returns-in-Err-Later-clause-back c = let h = rw c.in-Err-Later.field-0-is at c.in-Err-Later.ensures in (h.same, refl, refl, c.requires.silent)

pub returns-in-Err-TooLarge-clause-back : goal.returns-in-Err-TooLarge-clause-back
returns-in-Err-TooLarge-clause-back c = let h = rw c.in-Err-TooLarge.field-0-is at c.in-Err-TooLarge.ensures in (h.same, refl, refl, c.requires.silent)

pub returns-clause-back : goal.returns-clause-back
returns-clause-back c =
    let s = c.args.self.now in
    let n = c.join_module.new.self in
    both_weaker c.join_module.result _ _ _
    (λ reply h d. module_stays (core_of_calls s.parts c.args.calls.now) s n c.ground.new.terms c.ground.new.base
    c.in-Ok.ground_module c.mark-mark.result reply c.mark-mark.ensures c.in-Ok.ensures h d)
    c.join_module.ensures.joins c.join_module.ensures.declares
