use Rattle.std.proofs.Common.{ℕ, List, length, map, sym, subst, ap, ◌∙◌, ◌+◌}
use Rattle.ms_term.specs.Terms.{AllBelow, HasNo}
use Rattle.ms_solving.specs.Listing.{row, tree_of_value}
use Rattle.ms_value.proofs.Tables.{below_push}
use Rattle.ms_session.proofs.Finding.{no_name, some_name}
use Rattle.ms_session.proofs.Rows.{before, row_from, one_more_named, all_named, lacks_row, no_function, tree_of_function}
use Rattle.ms_session.proofs.value_term.+find_term.Goals as goal

pub find_term-returns-in-None : goal.find_term-returns-in-None
find_term-returns-in-None t c =
    let lacks = rw (c.in-None.is, c.as_slice-in-Function.ensures) at c.in_ok-args-in-Function.ensures in
    rw c.in-Function.is (subst (HasNo c.args.terms.now) (sym (tree_of_function _ _)) (no_function c.args.terms.now _ _ c.len.ensures.whole lacks))

pub find_terms-returns-in-None : goal.find_terms-returns-in-None
find_terms-returns-in-None t c =
    lacks_row c.args.terms.now c.args.values.now c.loop-value.value-index c.value-item.result c.loop-value-test.true c.value-item.is
    (no_name c.args.terms.now _ c.in_ok-name.field-0 c.in-None.is c.in_ok-name.ensures)

pub find_terms-loop-value-preserved : goal.find_terms-loop-value-preserved
find_terms-loop-value-preserved t c =
    let terms = c.args.terms.now in
    let named = some_name terms (tree_of_value c.value-item.result) c.in_ok-name.field-0 c.in-Some.name c.in-Some.is c.in_ok-name.ensures in
    record {
      below = subst (λ (is : List ℕ). AllBelow (length terms) is) (sym {A = List ℕ} c.in_ok-push-in-Some.ensures.items)
          (below_push (length terms) c.loop-value.names.items c.in-Some.name c.loop-value.invariant.below named.within);
      same = ap (λ (is : List ℕ). before terms is (row_from c.args.values.now (c.loop-value.value-index + 1))) c.in_ok-push-in-Some.ensures.items
          ∙ one_more_named terms c.loop-value.names.items c.in-Some.name c.args.values.now c.loop-value.value-index c.value-item.result c.loop-value-test.true c.value-item.is named.names
          ∙ c.loop-value.invariant.same;
    }

pub find_terms-returns : goal.find_terms-returns
find_terms-returns t c = (
  c.loop-value.invariant.below,
  all_named c.args.terms.now c.loop-value.names.items c.args.values.now c.loop-value.value-index (row (map tree_of_value c.args.values.now)) c.loop-value-test.false c.loop-value.invariant.same,
)
