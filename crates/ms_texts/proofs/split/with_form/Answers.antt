use Rattle.std.proofs.lemmas.Result.{IfOk-weaker}
use Rattle.ms_texts.proofs.SectionLaws.{goes_on_plainly}
use Rattle.ms_texts.proofs.split.with_form.Goals as goal

pub returns-in_default : goal.returns-in_default
returns-in_default c = IfOk-weaker c.with_last-in_default.result _ _ (λ next is. goes_on_plainly c.args.done.now.items c.args.here c.args.form c.in_default.not-IncludeIncmode c.in_default.not-Program next is) c.with_last-in_default.ensures
