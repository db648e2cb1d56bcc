use Rattle.std.proofs.Common.{arith}
use Rattle.ms_term.proofs.Texts.{closing_text-more}
use Rattle.ms_term.proofs.text.closing_of_tuple.Goals as goal

pub returns-in_default : goal.returns-in_default
returns-in_default c = λ ts. closing_text-more ts c.args.after.now (omega arith)
