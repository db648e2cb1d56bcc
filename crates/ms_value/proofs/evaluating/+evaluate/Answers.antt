use Rattle.std.proofs.Common.{ℕ, ◌+◌, List, map, length, sym, subst, ap, ◌∙◌}
use Rattle.ms_copies.specs.Evaluating.{value, all_values}
use Rattle.ms_term.specs.Terms.{AllBelow}
use Rattle.ms_value.proofs.Tables.{after, keeps_then, below_longer, below_push, gives_none, gives_some}
use Rattle.ms_value.proofs.SideBySide.{values_from, named_next, none_here, all_named}
use Rattle.ms_value.proofs.evaluating.+evaluate.Goals as goal

pub evaluate_all-returns : goal.evaluate_all-returns
evaluate_all-returns t c = record {
  keeps = c.loop-pattern.invariant.keeps;
  named = (
    c.loop-pattern.invariant.below,
    all_named c.loop-pattern.terms c.loop-pattern.names.items c.args.chosen.now c.args.patterns.now c.loop-pattern.pattern-index
        (all_values (map (value c.args.chosen.now) c.args.patterns.now)) c.loop-pattern-test.false c.loop-pattern.invariant.same,
  );
}

pub evaluate_all-returns-in-None : goal.evaluate_all-returns-in-None
evaluate_all-returns-in-None t c = record {
  keeps = keeps_then c.args.terms.now c.loop-pattern.terms c.evaluate.new.terms c.loop-pattern.invariant.keeps c.in_ok-name.ensures.keeps;
  named = none_here c.loop-pattern.terms c.loop-pattern.names.items c.args.chosen.now c.args.patterns.now c.loop-pattern.pattern-index c.pattern-item.result
      (all_values (map (value c.args.chosen.now) c.args.patterns.now)) c.loop-pattern-test.true c.pattern-item.is
      (gives_none c.loop-pattern.terms c.evaluate.new.terms (value c.args.chosen.now c.pattern-item.result) c.in_ok-name.field-0 c.in_ok-name.ensures c.in-None.is)
      c.loop-pattern.invariant.same;
}

pub evaluate_all-loop-pattern-preserved : goal.evaluate_all-loop-pattern-preserved
evaluate_all-loop-pattern-preserved t c =
    let old = c.loop-pattern.terms in
    let new = c.evaluate.new.terms in
    let found = gives_some old new (value c.args.chosen.now c.pattern-item.result) c.in_ok-name.field-0 c.in-Some.name c.in_ok-name.ensures c.in-Some.is in
    record {
      keeps = keeps_then c.args.terms.now old new c.loop-pattern.invariant.keeps c.in_ok-name.ensures.keeps;
      below = subst (λ (is : List ℕ). AllBelow (length new) is) (sym c.in_ok-push-in-Some.ensures.items)
          (below_push (length new) c.loop-pattern.names.items c.in-Some.name
          (below_longer (length old) (length new) c.loop-pattern.names.items c.in_ok-name.ensures.keeps.longer c.loop-pattern.invariant.below) found.0);
      same = ap (λ (is : List ℕ). after new is (values_from c.args.chosen.now c.args.patterns.now (c.loop-pattern.pattern-index + 1))) c.in_ok-push-in-Some.ensures.items
          ∙ named_next old new c.loop-pattern.names.items c.in-Some.name c.args.chosen.now c.args.patterns.now c.loop-pattern.pattern-index c.pattern-item.result
          c.loop-pattern-test.true c.pattern-item.is c.in_ok-name.ensures.keeps c.loop-pattern.invariant.below found.1
          ∙ c.loop-pattern.invariant.same;
    }
