use Rattle.std.proofs.Common.{◌<◌, ◌≤◌, false, take, length, subst, sym, arith, get_or}
use Rattle.std.specs.Prelude.{All}
use Rattle.std.proofs.lemmas.List.{take_all}
use Rattle.std.proofs.lemmas.List.Elements.{All-more, All-weaker}
use Rattle.ms_lits.specs.declared.lit.Lit.{Lit}
use Rattle.ms_watch.specs.Watches.{list_of, loose}
use Rattle.ms_watch.proofs.state.lists_for.Goals as goal

pub loop-lit-preserved : goal.loop-lit-preserved
loop-lit-preserved c =
    let lits = c.args.lits.now in
    let i = c.loop-lit.lit-index in
    record {
      least = omega (arith, c.loop-lit.invariant.least, c.max-count.ensures);
      all = All-more (λ (l : Lit). list_of l < c.max-count.result) lits i _ c.loop-lit-test.true
          (All-weaker (λ (l : Lit). list_of l < c.loop-lit.count) (λ (l : Lit). list_of l < c.max-count.result) (λ l lt. omega (arith, lt, c.max-count.ensures)) (take i lits) c.loop-lit.invariant.all)
          (subst (λ n. n < c.max-count.result) c.list_of.ensures.list (omega (arith, c.max-count.ensures)));
    }

pub returns-clause-all : goal.returns-clause-all
returns-clause-all c = subst (All (λ (l : Lit). list_of l < c.loop-lit.count)) (take_all c.loop-lit.lit-index c.args.lits.now (omega (arith, c.loop-lit-test.false))) c.loop-lit.invariant.all
