use Rattle.std.proofs.Common.{false, get_or, take_all, subst}
use Rattle.std.specs.Prelude.{Contains}
use Rattle.std.proofs.lemmas.List.Elements.{All-more}
use Rattle.ms_lits.specs.declared.lit.Lit.{Lit}
use Rattle.ms_lits.specs.Literals.{IsContained, Nogood}
use Rattle.ms_search.proofs.needless.contains_all.Goals as goal

pub loop-lit-preserved : goal.loop-lit-preserved
loop-lit-preserved c =
    let d : Lit = record { var = 0; truth = false } in
    let found = c.in-Some.ensures in
    All-more (Contains c.args.lits.now) c.args.small.now c.loop-lit.lit-index d c.loop-lit-test.true c.loop-lit.invariant
    (c.in-Some.place, found.within, found.there (get_or c.args.small.now c.loop-lit.lit-index d))

pub returns : goal.returns
returns c = λ is. subst (λ (ls : Nogood). IsContained c.args.lits.now ls) (take_all c.loop-lit.lit-index c.args.small.now c.loop-lit-test.false) c.loop-lit.invariant
