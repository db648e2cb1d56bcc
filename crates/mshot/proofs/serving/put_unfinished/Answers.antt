use Rattle.mshot.proofs.Progress.{stopped_between, ends_cut, stops_cut, stops_finish}
use Rattle.mshot.proofs.serving.put_unfinished.Goals as goal

pub returns-in_default-clause-finished : goal.returns-in_default-clause-finished
returns-in_default-clause-finished g c = λ script before lines some none opened done. stopped_between _ _ _ _ _ _ _ done

pub returns-in-Ok-put_answer-clause-finished : goal.returns-in-Ok-put_answer-clause-finished
returns-in-Ok-put_answer-clause-finished g c = λ script before lines some none opened done.
    ends_cut script before _ lines _ some done none opened _ c.in-Ok.ensures.text _ c.in-Ok-put_answer.ensures.put

pub returns-clause-finished : goal.returns-clause-finished
returns-clause-finished g c = λ script before lines some none opened done.
    stops_finish _ script before _ (stops_cut script before _ lines _ some done none opened _ c.in-Ok.ensures.text _ _ c.in-Err.ensures.failed)
