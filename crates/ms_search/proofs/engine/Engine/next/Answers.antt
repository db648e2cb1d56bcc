use Rattle.std.proofs.Common.{Some, false, take_all, subst, ap, sym, ◌∙◌, List}
use Rattle.std.specs.Prelude.{All}
use Rattle.std.proofs.lemmas.Bool.{not-false}
use Rattle.std.proofs.lemmas.List.Elements.{All-more}
use Rattle.ms_lits.specs.declared.lit.Lit.{Lit}
use Rattle.ms_lits.specs.Assignment.{HoldsIn}
use Rattle.ms_nogood.proofs.Looks.{same_truth}
use Rattle.ms_search.proofs.engine.Engine.next.Goals as goal

pub loop-lit-preserved : goal.loop-lit-preserved
loop-lit-preserved g c =
    let d : Lit = record { var = 0; truth = false } in
    let known = c.in-Some.ensures in
    All-more (HoldsIn c.args.self.now.trail.entries) c.args.demanded.now c.loop-lit.lit-index d c.loop-lit-test.true c.loop-lit.invariant
    (sym known ∙ ap Some (same_truth _ _ (not-false _ c.if-truth-lit.false)))

pub returns : goal.returns
returns g c =
    subst (λ (ls : List Lit). All (HoldsIn c.args.self.now.trail.entries) ls) (take_all c.loop-lit.lit-index c.args.demanded.now c.loop-lit-test.false) c.loop-lit.invariant
