use Rattle.std.proofs.Common.{take, sym, subst}
use Rattle.std.proofs.lemmas.List.{take_more}
use Rattle.ms_watch.specs.Choices.{IsChoice}
use Rattle.ms_watch.proofs.choice.choose.Goals as goal

pub loop-lit-preserved : goal.loop-lit-preserved
loop-lit-preserved c =
    subst (λ xs. IsChoice c.args.trail.now.entries xs c.with-choice.result)
    (sym (take_more c.args.lits.now c.loop-lit.lit-index _ c.loop-lit-test.true))
    (c.with-choice.ensures (take c.loop-lit.lit-index c.args.lits.now) c.loop-lit.invariant)
