use Rattle.mshot.proofs.Reading.{complete_by}
use Rattle.mshot.proofs.top.mshot.Goals as goal

pub returns-then-are_run_words-clause-complete : goal.returns-then-are_run_words-clause-complete
returns-then-are_run_words-clause-complete g c = λ words script at few quiet still calm.
    complete_by c.serve.result script _ _ _ (c.serve.ensures.served script at) few (λ e. quiet (c.serve.ensures.read_fault e)) (λ e. still (c.serve.ensures.out_fault e)) (λ e. calm (c.serve.ensures.log_fault e))
