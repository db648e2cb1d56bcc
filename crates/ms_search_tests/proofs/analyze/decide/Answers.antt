use Rattle.std.proofs.Common.{◌∷◌, ◌++◌, [], ◌∙◌, ap, refl, arith, None}
use Rattle.ms_lits.specs.Assignment.{Assignment, entry_made}
use Rattle.ms_analyze.proofs.Reasoned.{one_decision, reasoned_decided}
use Rattle.ms_search_tests.proofs.analyze.decide.Goals as goal

pub returns-in-Violated-clause-reasons : goal.returns-in-Violated-clause-reasons
returns-in-Violated-clause-reasons c =
    let pushes = ap (λ (a : Assignment). a.entries) c.assign.ensures ∙ ap (λ (a : Assignment). a.entries ++ entry_made c.args.lit c.push_level.new.self.level None ∷ []) c.push_level.ensures in
    reasoned_decided c.args.store.now c.args.trail.now c.assign.new.self c.scan.new.trail _ c.requires.reasons pushes refl c.scan.ensures.propagates

pub returns-in-Violated-clause-decision : goal.returns-in-Violated-clause-decision
returns-in-Violated-clause-decision c =
    let pushes = ap (λ (a : Assignment). a.entries) c.assign.ensures ∙ ap (λ (a : Assignment). a.entries ++ entry_made c.args.lit c.push_level.new.self.level None ∷ []) c.push_level.ensures in
    let level = c.scan.ensures.propagates.level ∙ ap (λ (a : Assignment). a.level) c.assign.ensures ∙ ap (λ (a : Assignment). a.level) c.push_level.ensures in
    one_decision c.args.store.now c.args.trail.now c.assign.new.self c.scan.new.trail _ c.scan.new.trail.level c.len-before.ensures.assignment (omega (arith, level)) pushes c.scan.ensures.propagates

pub returns-in-Closed-clause-reasons : goal.returns-in-Closed-clause-reasons
returns-in-Closed-clause-reasons c =
    let pushes = ap (λ (a : Assignment). a.entries) c.assign.ensures ∙ ap (λ (a : Assignment). a.entries ++ entry_made c.args.lit c.push_level.new.self.level None ∷ []) c.push_level.ensures in
    reasoned_decided c.args.store.now c.args.trail.now c.assign.new.self c.scan.new.trail _ c.requires.reasons pushes refl c.scan.ensures.propagates
