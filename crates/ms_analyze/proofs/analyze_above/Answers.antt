use Rattle.std.proofs.Common.{◌<◌, ◌∷◌, ◌++◌, [], ◌∙◌, ◌||◌, All, ap, subst, sym}
use Rattle.std.proofs.lemmas.Result.{IfOk-weaker}
use Rattle.std.proofs.lemmas.List.Elements.{All-nil, All-push, All-same}
use Rattle.ms_lits.specs.declared.lit.Lit.{Lit}
use Rattle.ms_analyze.specs.Cuts.{no_entry}
use Rattle.ms_analyze.proofs.Learning.{lit_read}
use Rattle.ms_nogood.specs.Store.{nogood_at}
use Rattle.ms_analyze.specs.Analysis.{is_temporary}
use Rattle.ms_analyze.proofs.Points.{last_stage, learned_asserts, learned_back, learned_different, learned_lasts, learned_refuted, learned_room, learned_whole}
use Rattle.ms_analyze.proofs.Stages.{last_falls, place_some, reason_assigned, reason_there, stage_start, stage_step, start_marked, start_place, step_place, whole_assigned}
use Rattle.ms_analyze.proofs.analyze_above.Goals as goal

pub mark-requires : goal.mark-requires
mark-requires c = whole_assigned c.args.store.now c.args.trail.now c.args.violated c.len.ensures.assignment c.requires.whole

pub take_last-last-requires : goal.take_last-last-requires
take_last-last-requires c =
    let whole = c.requires.whole in
    let is = start_marked c.args.trail.now.entries c.args.fixed whole.stored.lits _ _ _ (c.in_ok-mark.ensures.places whole.stored whole.found) c.len.ensures.len c.new-cut.ensures.places in
    place_some c.args.trail.now.entries _ c.args.trail.now.level
    (start_place c.args.store.now c.args.trail.now c.args.fixed c.requires.fixed c.requires.level whole.stored.lits _ whole.whole (c.requires.present whole.stored whole.found) is)

pub loop-reason-init : goal.loop-reason-init
loop-reason-init c =
    let whole = c.requires.whole in
    let is = start_marked c.args.trail.now.entries c.args.fixed whole.stored.lits _ _ _ (c.in_ok-mark.ensures.places whole.stored whole.found) c.len.ensures.len c.new-cut.ensures.places in
    let label = c.take_last-last.ensures.temporary ∙ c.mark.ensures.temporary ∙ ap (λ b. b || is_temporary (nogood_at c.args.store.now c.args.violated)) c.new-cut.ensures.temporary in
    record {
      stage = stage_start c.args.store.now c.args.trail.now c.args.fixed c.requires.fixed c.requires.level c.args.violated _ _ _ _ c.len.ensures.assignment whole (c.requires.present whole.stored whole.found) is label c.take_last-last.ensures.places c.take_last-last.ensures.below c.take_last-last.ensures.ordered;
      resolved = subst (All (λ v. v < c.args.trail.now.room)) (sym c.new-resolved.ensures.items) (All-nil (λ v. v < c.args.trail.now.room));
    }

pub mark-requires-in-Some : goal.mark-requires-in-Some
mark-requires-in-Some c =
    let stage = c.loop-reason.invariant.stage in
    reason_assigned c.args.store.now c.args.trail.now c.loop-reason.last c.in-Some.reason c.len.ensures.assignment stage.within
    (reason_there c.args.store.now c.args.trail.now.entries c.loop-reason.last c.in-Some.reason c.requires.reasons stage.within c.in-Some.ensures.reason)

pub take_last-last-requires-in-Some : goal.take_last-last-requires-in-Some
take_last-last-requires-in-Some c =
    let stage = c.loop-reason.invariant.stage in
    let r = reason_there c.args.store.now c.args.trail.now.entries c.loop-reason.last c.in-Some.reason c.requires.reasons stage.within c.in-Some.ensures.reason in
    place_some c.args.trail.now.entries _ c.args.trail.now.level
    (step_place c.args.trail.now c.args.fixed _ _ c.loop-reason.last r.stored.lits c.in-Some.ensures.other (c.in_ok-mark-2.ensures.places r.stored r.found))

pub loop-reason-smaller : goal.loop-reason-smaller
loop-reason-smaller c =
    let stage = c.loop-reason.invariant.stage in
    let r = reason_there c.args.store.now c.args.trail.now.entries c.loop-reason.last c.in-Some.reason c.requires.reasons stage.within c.in-Some.ensures.reason in
    last_falls c.args.store.now c.args.trail.now c.args.fixed c.args.violated _ _ _ _ _ _ r.stored.lits stage (c.in_ok-mark-2.ensures.places r.stored r.found) c.take_last-last-in-Some.ensures.places

pub loop-reason-preserved : goal.loop-reason-preserved
loop-reason-preserved c =
    let stage = c.loop-reason.invariant.stage in
    let r = reason_there c.args.store.now c.args.trail.now.entries c.loop-reason.last c.in-Some.reason c.requires.reasons stage.within c.in-Some.ensures.reason in
    let last = c.take_last-last-in-Some.ensures in
    record {
      stage = stage_step c.args.store.now c.args.trail.now c.args.fixed c.requires.fixed c.args.violated _ _ _ _ _ c.in-Some.reason _ _ c.len.ensures.assignment stage r c.in-Some.ensures.reason c.in-Some.ensures.other (c.in_ok-mark-2.ensures.places r.stored r.found) (last.temporary ∙ c.mark-in-Some.ensures.temporary) last.places last.below last.ordered;
      resolved = All-same (λ v. v < c.args.trail.now.room) c.push.new.self.items (c.loop-reason.resolved.items ++ c.at.result.var ∷ []) c.in_ok-push.ensures.items
          (All-push (λ v. v < c.args.trail.now.room) c.loop-reason.resolved.items c.at.result.var c.loop-reason.invariant.resolved
          (subst (λ (l : Lit). l.var < c.args.trail.now.room) (lit_read c.args.trail.now.entries c.loop-reason.last c.at.result c.at.ensures) (c.len.ensures.assignment.within c.loop-reason.last no_entry stage.within)));
    }

pub returns-clause-whole : goal.returns-clause-whole
returns-clause-whole c =
    let s = last_stage c.args.store.now c.args.trail.now c.args.violated _ _ _ c.len.ensures.assignment c.requires.level c.loop-reason.invariant.stage c.in_default.ensures.alone in
    IfOk-weaker c.learned.result _ _ (learned_whole c.args.store.now c.args.trail.now c.args.violated _ _ _ s) c.learned.ensures.read

pub returns-clause-room : goal.returns-clause-room
returns-clause-room c =
    let s = last_stage c.args.store.now c.args.trail.now c.args.violated _ _ _ c.len.ensures.assignment c.requires.level c.loop-reason.invariant.stage c.in_default.ensures.alone in
    IfOk-weaker c.learned.result _ _ (learned_room c.args.store.now c.args.trail.now c.args.violated _ _ _ s) c.learned.ensures.read

pub returns-clause-different : goal.returns-clause-different
returns-clause-different c =
    let s = last_stage c.args.store.now c.args.trail.now c.args.violated _ _ _ c.len.ensures.assignment c.requires.level c.loop-reason.invariant.stage c.in_default.ensures.alone in
    IfOk-weaker c.learned.result _ _ (learned_different c.args.store.now c.args.trail.now c.args.violated _ _ _ s) c.learned.ensures.read

pub returns-clause-asserting : goal.returns-clause-asserting
returns-clause-asserting c =
    let s = last_stage c.args.store.now c.args.trail.now c.args.violated _ _ _ c.len.ensures.assignment c.requires.level c.loop-reason.invariant.stage c.in_default.ensures.alone in
    IfOk-weaker c.learned.result _ _ (learned_asserts c.args.store.now c.args.trail.now c.args.violated _ _ _ s) c.learned.ensures.read

pub returns-clause-back : goal.returns-clause-back
returns-clause-back c =
    let s = last_stage c.args.store.now c.args.trail.now c.args.violated _ _ _ c.len.ensures.assignment c.requires.level c.loop-reason.invariant.stage c.in_default.ensures.alone in
    IfOk-weaker c.learned.result _ _ (learned_back c.args.store.now c.args.trail.now c.args.violated _ _ _ s) c.learned.ensures.read

pub returns-clause-refuted : goal.returns-clause-refuted
returns-clause-refuted c =
    let s = last_stage c.args.store.now c.args.trail.now c.args.violated _ _ _ c.len.ensures.assignment c.requires.level c.loop-reason.invariant.stage c.in_default.ensures.alone in
    IfOk-weaker c.learned.result _ _ (learned_refuted c.args.store.now c.args.trail.now c.args.violated _ _ _ s) c.learned.ensures.read

pub returns-clause-lasting : goal.returns-clause-lasting
returns-clause-lasting c =
    let s = last_stage c.args.store.now c.args.trail.now c.args.violated _ _ _ c.len.ensures.assignment c.requires.level c.loop-reason.invariant.stage c.in_default.ensures.alone in
    IfOk-weaker c.learned.result _ _ (learned_lasts c.args.store.now c.args.trail.now c.args.violated _ _ _ s) c.learned.ensures.read

pub returns-clause-resolved : goal.returns-clause-resolved
returns-clause-resolved c = IfOk-weaker c.learned.result _ _ (λ r same. subst (All (λ v. v < c.args.trail.now.room)) (sym same) c.loop-reason.invariant.resolved) c.learned.ensures.resolved
