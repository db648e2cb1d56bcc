use Rattle.ms_parse.proofs.SignLemmas.{separator_found}
use Rattle.ms_parse.proofs.rule.after_separator.Goals as goal

pub returns-in-None : goal.returns-in-None
returns-in-None c = separator_found _ (λ r. r.now) _ _ c.in-None.ensures c.after_sign-in-None.ensures
