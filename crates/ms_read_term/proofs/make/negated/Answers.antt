use Rattle.std.proofs.Common.{◌∙◌, sym, arith}
use Rattle.ms_read_term.proofs.Closings.{negated_first}
use Rattle.ms_read_term.proofs.make.negated.Goals as goal

pub loop-minuses-preserved : goal.loop-minuses-preserved
loop-minuses-preserved c =
    negated_first _ _ _ (omega arith) (sym (c.in_ok-higher.ensures) ∙ c.in-Some.is) ∙ c.loop-minuses.invariant
