use Rattle.std.proofs.Common.{length, ap, eqb, sym, ◌∙◌, true≢false}
use Rattle.ms_lines.proofs.SolveLemmas.{assume_with, assume_not}
use Rattle.ms_lines.proofs.solve.read_assume.Goals as goal

pub returns-in-Some : goal.returns-in-Some
returns-in-Some c = assume_with c.args.text.now c.args.tokens.now _ c.in-Some.ensures _ c.read_literals.ensures

pub returns-in-None : goal.returns-in-None
returns-in-None c = assume_not c.args.text.now c.args.tokens.now c.in-None.ensures (λ e. true≢false (ap (λ ts. eqb (length ts) 0) (sym e) ∙ sym c.is_empty.ensures ∙ c.if-is_empty.false))
