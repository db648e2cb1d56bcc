use Rattle.std.proofs.Common.{arith}
use Rattle.ms_term.specs.Terms.{terms_at}
use Rattle.ms_term.proofs.Texts.{closing_text-named}
use Rattle.ms_term.proofs.text.closing_of.Goals as goal

pub returns-in_default : goal.returns-in_default
returns-in_default c = λ ts. closing_text-named c.args.name.now (terms_at ts c.args.after.now) (omega arith)
