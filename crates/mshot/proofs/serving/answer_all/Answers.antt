use Rattle.std.proofs.Common.{◌∙◌, sym, refl}
use Rattle.std.proofs.Math.Bool.{or_assoc}
use Rattle.ms_session.specs.Kept.{state_of}
use Rattle.mshot.proofs.Progress.{served_first_none, served_nothing, served_more, stopped_between, stopped_in}
use Rattle.mshot.proofs.serving.answer_all.Goals as goal

pub loop-answer-init : goal.loop-answer-init
loop-answer-init g c = record { out_quiet = refl; log_quiet = refl; served = λ taken before some first. served_first_none _ _ _ _ _ _ _ first }

pub returns-in-Ok-None-clause-served : goal.returns-in-Ok-None-clause-served
returns-in-Ok-None-clause-served g c = λ taken before some first.
    let none = rw c.in-Ok-None.field-0-is at c.in-Ok-None.ensures in
    served_nothing _ _ _ _ _ _ _ (c.loop-answer.invariant.served taken before some first) c.next_answer.new.lines (state_of c.next_answer.new.session) none.0 none.2

pub returns-in-Ok-None-clause-all : goal.returns-in-Ok-None-clause-all
returns-in-Ok-None-clause-all g c = let none = rw c.in-Ok-None.field-0-is at c.in-Ok-None.ensures in none.1

pub returns-in-Err-clause-stopped : goal.returns-in-Err-clause-stopped
returns-in-Err-clause-stopped g c = λ taken before some first. stopped_between _ _ _ _ _ _ _ (c.loop-answer.invariant.served taken before some first)

pub returns-in-Err-put_answer-clause-stopped : goal.returns-in-Err-put_answer-clause-stopped
returns-in-Err-put_answer-clause-stopped g c = λ taken before some first.
    let step = rw c.in-Ok-Some.field-0-is at c.in-Ok-Some.ensures in
    stopped_in _ _ _ _ _ _ _ (c.loop-answer.invariant.served taken before some first) c.next_answer.new.lines (state_of c.next_answer.new.session) c.in-Ok-Some.answer step _ _ c.in-Err-put_answer.ensures.failed

pub loop-answer-preserved : goal.loop-answer-preserved
loop-answer-preserved g c = record {
  out_quiet = c.in-Ok.ensures.out_quiet (λ e. cc) ∙ c.loop-answer.invariant.out_quiet;
  log_quiet = c.in-Ok.ensures.log_quiet (λ e. cc) ∙ c.loop-answer.invariant.log_quiet;
  served = λ taken before some first.
      let step = rw c.in-Ok-Some.field-0-is at c.in-Ok-Some.ensures in
      served_more _ _ _ _ _ _ _ (c.loop-answer.invariant.served taken before some first) c.next_answer.new.lines (state_of c.next_answer.new.session) c.in-Ok-Some.answer step _ _ (sym (or_assoc some c.loop-answer.refused c.in-Ok-Some.answer.refused)) c.in-Ok.ensures.put;
}
