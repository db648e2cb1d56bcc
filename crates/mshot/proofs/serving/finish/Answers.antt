use Rattle.std.proofs.Common.{sym, ◌∙◌}
use Rattle.std.proofs.lemmas.Bool.{false≢true}
use Rattle.mshot.proofs.Progress.{served_ended, ends_whole, stops_finish}
use Rattle.mshot.proofs.Reading.{as_refused}
use Rattle.mshot.proofs.serving.finish.Goals as goal

pub returns-in-Err-clause-finished : goal.returns-in-Err-clause-finished
returns-in-Err-clause-finished g c = λ script before first. stops_finish _ _ _ _ (c.in-Err.ensures.stopped script before c.args.refused (served_ended _ _ _ _ _ _ first))

pub returns-then-unfinished-clause-finished : goal.returns-then-unfinished-clause-finished
returns-then-unfinished-clause-finished g c = λ script before first.
    c.put_unfinished.ensures.finished script before c.answer_all.new.lines _ c.in-Ok.ensures.all (c.unfinished.ensures.0 c.if-unfinished.true) (c.in-Ok.ensures.served script before c.args.refused (served_ended _ _ _ _ _ _ first))

pub returns-then-refused-clause-finished : goal.returns-then-refused-clause-finished
returns-then-refused-clause-finished g c = λ script before first.
    as_refused _ _ script before _ c.if-refused.true
    (ends_whole script before _ c.answer_all.new.lines _ _ (c.in-Ok.ensures.served script before c.args.refused (served_ended _ _ _ _ _ _ first)) c.in-Ok.ensures.all (λ some. false≢true (sym c.if-unfinished.false ∙ c.unfinished.ensures.1 some)))

pub returns-else-refused-clause-finished : goal.returns-else-refused-clause-finished
returns-else-refused-clause-finished g c = λ script before first.
    as_refused _ _ script before _ c.if-refused.false
    (ends_whole script before _ c.answer_all.new.lines _ _ (c.in-Ok.ensures.served script before c.args.refused (served_ended _ _ _ _ _ _ first)) c.in-Ok.ensures.all (λ some. false≢true (sym c.if-unfinished.false ∙ c.unfinished.ensures.1 some)))
