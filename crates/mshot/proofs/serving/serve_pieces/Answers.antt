use Rattle.std.proofs.Common.{◌∙◌, ◌+◌, false, take, drop, refl, sym, subst, arith, inl, inr}
use Rattle.std.proofs.lemmas.Bool.{false≢true}
use Rattle.ms_lines.specs.Buffers.{HasNoLine}
use Rattle.ms_session.specs.Kept.{state_of}
use Rattle.mshot.proofs.Progress.{served_first}
use Rattle.mshot.proofs.Reading.{taken_more, serves_front, serves_taken, serves_most, serves_ended, serves_nothing, on_ok, served_fed, serves_unfed, whole_buffer}
use Rattle.mshot.proofs.serving.serve_pieces.Goals as goal

pub loop-lines-init : goal.loop-lines-init
loop-lines-init g c = record {
  buffer = c.in-Ok.ensures;
  few = omega arith;
  src_quiet = refl;
  out_quiet = refl;
  log_quiet = refl;
  no_line = subst (λ l. HasNoLine l.rest) (sym c.requires.first) refl;
  served = λ script at. (omega arith, at, served_first _ c.args.lines.now (state_of c.args.session.now) c.requires.first c.requires.begins);
}

pub returns-in_default-clause-served : goal.returns-in_default-clause-served
returns-in_default-clause-served g c = λ script at. serves_nothing script _ _ at

pub returns-in-Ok-eq0-clause-served : goal.returns-in-Ok-eq0-clause-served
returns-in-Ok-eq0-clause-served g c = λ script at.
    let told = c.loop-lines.invariant.served script at in
    let piece = c.in-Ok-eq0.ensures.piece (drop c.loop-lines.taken script) told.1 in
    serves_ended script c.loop-lines.taken _ _ _ _ told.0 c.loop-lines.invariant.few piece.1 c.in-Ok-eq0.field-0-test (piece.3 c.in-Ok-eq0.field-0-test) c.finish.result c.finish.ensures.ends
    (c.finish.ensures.finished (take c.loop-lines.taken script) _ told.2)

pub returns-in-Err-clause-served : goal.returns-in-Err-clause-served
returns-in-Err-clause-served g c = λ script at.
    let told = c.loop-lines.invariant.served script at in
    let piece = c.in-Err.ensures.piece (drop c.loop-lines.taken script) told.1 in
    elim c.in-Err.ensures.only [
      | inl is ↦ serves_taken script c.loop-lines.taken _ _ _ told.0 c.loop-lines.invariant.few c.loop-lines.lines _ _ told.2 c.loop-lines.invariant.no_line _ _ piece is
      | inr is ↦ serves_most script c.loop-lines.taken _ _ _ told.0 c.loop-lines.invariant.few c.loop-lines.lines _ _ told.2 c.loop-lines.invariant.no_line _ _ piece is
    ]

pub returns-then-is_err-clause-served : goal.returns-then-is_err-clause-served
returns-then-is_err-clause-served g c = λ script at.
    let told = c.loop-lines.invariant.served script at in
    let piece = c.in-Ok-take_piece.ensures.piece (drop c.loop-lines.taken script) told.1 in
    let more = taken_more script c.loop-lines.taken c.in-Ok-take_piece.count _ _ told.0 piece in
    serves_unfed script c.loop-lines.taken c.in-Ok-take_piece.count _ _ more _ _ c.loop-lines.lines _ _ told.2 c.in-Ok-take_piece.ensures.few_more.1

pub returns-in-Err-answer_all-clause-served : goal.returns-in-Err-answer_all-clause-served
returns-in-Err-answer_all-clause-served g c = λ script at.
    let told = c.loop-lines.invariant.served script at in
    let piece = c.in-Ok-take_piece.ensures.piece (drop c.loop-lines.taken script) told.1 in
    let more = taken_more script c.loop-lines.taken c.in-Ok-take_piece.count _ _ told.0 piece in
    let fed = served_fed script c.loop-lines.taken c.in-Ok-take_piece.count _ _ more _ _ c.loop-lines.lines _ _ told.2 c.feed.new.self _ (whole_buffer c.loop-lines.buffer.len _ _ _ (omega (arith, c.in-Ok-take_piece.ensures.len, c.as_mut_slice.ensures.len)) c.deref.ensures.value) (on_ok c.feed.result (sym c.is_err.ensures.value ∙ c.if-is_err.false) c.feed.ensures.ok) in
    serves_front script (c.loop-lines.taken + c.in-Ok-take_piece.count) _ _ _ more.within c.in-Ok-take_piece.ensures.few_more.1 false (λ e. absurd (false≢true e)) more.others _ c.in-Err-answer_all.ensures.ends
    (c.in-Err-answer_all.ensures.stopped (take (c.loop-lines.taken + c.in-Ok-take_piece.count) script) _ c.loop-lines.refused fed)

pub loop-lines-preserved : goal.loop-lines-preserved
loop-lines-preserved g c = record {
  buffer = c.loop-lines.invariant.buffer;
  few = c.in-Ok-take_piece.ensures.few_more.1;
  src_quiet = c.in-Ok-take_piece.ensures.quiet (λ e. cc) ∙ c.loop-lines.invariant.src_quiet;
  out_quiet = c.in-Ok-answer_all.ensures.out_quiet (λ e. cc) ∙ c.loop-lines.invariant.out_quiet;
  log_quiet = c.in-Ok-answer_all.ensures.log_quiet (λ e. cc) ∙ c.loop-lines.invariant.log_quiet;
  no_line = c.in-Ok-answer_all.ensures.all;
  served = λ script at.
      let told = c.loop-lines.invariant.served script at in
      let piece = c.in-Ok-take_piece.ensures.piece (drop c.loop-lines.taken script) told.1 in
      let more = taken_more script c.loop-lines.taken c.in-Ok-take_piece.count _ _ told.0 piece in
      let fed = served_fed script c.loop-lines.taken c.in-Ok-take_piece.count _ _ more _ _ c.loop-lines.lines _ _ told.2 c.feed.new.self _ (whole_buffer c.loop-lines.buffer.len _ _ _ (omega (arith, c.in-Ok-take_piece.ensures.len, c.as_mut_slice.ensures.len)) c.deref.ensures.value) (on_ok c.feed.result (sym c.is_err.ensures.value ∙ c.if-is_err.false) c.feed.ensures.ok) in
      (more.within, more.others, c.in-Ok-answer_all.ensures.served (take (c.loop-lines.taken + c.in-Ok-take_piece.count) script) _ c.loop-lines.refused fed);
}
