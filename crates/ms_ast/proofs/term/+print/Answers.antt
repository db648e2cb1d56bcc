use Rattle.std.proofs.Common.{◌≡◌, ◌+◌, ◌*◌, ◌<◌, [], ◌∷◌, ◌++◌, map, length, sym, ap, ◌∙◌, arith}
use Rattle.std.proofs.lemmas.Bool.{eqb-true}
use Rattle.ms_ast.specs.declared.line.Line.TheVariants.{Sum, Unary}
use Rattle.ms_ast.specs.Ink.{ink_text}
use Rattle.ms_ast.specs.Terms.{printed, at_line, op_line, list_ink, alternatives_ink}
use Rattle.ms_ast.proofs.Sizes.{term_size, terms_size, lists_size, size_within, list_within}
use Rattle.ms_ast.proofs.TermTexts.{some_from_test, four_appended, two_appended, three_appended, pool_text, interval_text, neg_text, abs_text, binary_text, parens_text, tuple_text, applied_text, one_tuple_text, list_text, alternatives_text, lists_text}
use Rattle.ms_ast.proofs.term.+print.Goals as goal

pub print_alternatives-loop-term-init : goal.print_alternatives-loop-term-init
print_alternatives-loop-term-init t c = rw c.as_slice-between.ensures (ap (λ s. c.args.into.now.items ++ s) (alternatives_text c.args.terms.now))

pub print_list-loop-term-init : goal.print_list-loop-term-init
print_list-loop-term-init t c = rw c.as_slice-between.ensures (ap (λ s. c.args.into.now.items ++ s) (list_text c.args.terms.now))

pub print_lists-loop-list-init : goal.print_lists-loop-list-init
print_lists-loop-list-init t c = rw c.as_slice-between.ensures (ap (λ s. c.args.into.now.items ++ s) (lists_text c.args.lists.now))

pub print_alternatives-print_inside-requires : goal.print_alternatives-print_inside-requires
print_alternatives-print_inside-requires t c =
    let within : term_size c.term-item.result < terms_size c.args.terms.now = size_within c.args.terms.now c.loop-term.term-index c.term-item.result c.loop-term-test.true c.term-item.is in
    let measure : 4 * terms_size c.args.terms.now + 1 ≡ t = c.decreases in
    (omega arith, tt)

pub print_list-print_term-requires : goal.print_list-print_term-requires
print_list-print_term-requires t c =
    let within : term_size c.term-item.result < terms_size c.args.terms.now = size_within c.args.terms.now c.loop-term.term-index c.term-item.result c.loop-term-test.true c.term-item.is in
    let measure : 4 * terms_size c.args.terms.now + 1 ≡ t = c.decreases in
    (omega arith, tt)

pub print_lists-print_list-requires : goal.print_lists-print_list-requires
print_lists-print_list-requires t c =
    let within : terms_size c.list-item.result < lists_size c.args.lists.now = list_within c.args.lists.now c.loop-list.list-index c.list-item.result c.loop-list-test.true c.list-item.is in
    let same : terms_size c.as_slice.result.now ≡ terms_size c.list-item.result = ap terms_size c.as_slice.ensures in
    let measure : 4 * lists_size c.args.lists.now + 2 ≡ t = c.decreases in
    (omega arith, tt)

pub print_at-returns-in_ok-push-2 : goal.print_at-returns-in_ok-push-2
print_at-returns-in_ok-push-2 t c = three_appended _ _ _ _ _ _ _ _ c.in_ok-push.ensures.items c.in_ok-print_inside.ensures c.in_ok-push-2.ensures.items
    (parens_text c.args.line c.line_of.result (printed c.args.term.now) c.may_stand_at.result c.line_of.ensures c.may_stand_at.ensures c.if-may_stand_at.false)

pub print_function-returns-then-is_empty : goal.print_function-returns-then-is_empty
print_function-returns-then-is_empty t c = three_appended _ _ _ _ _ _ _ _ c.in_ok-push.ensures.items c.in_ok-print_tuple.ensures c.in_ok-push-2.ensures.items
    (tuple_text c.args.name.now (map (map printed) c.args.lists.now) (eqb-true (length c.args.name.now) 0 (sym c.is_empty.ensures ∙ c.if-is_empty.true)))

pub print_term-returns-in_ok-push-in-Pool-2 : goal.print_term-returns-in_ok-push-in-Pool-2
print_term-returns-in_ok-push-in-Pool-2 t c = three_appended _ _ _ _ _ _ _ _ c.in_ok-push-in-Pool.ensures.items c.in_ok-print_alternatives-in-Pool.ensures c.in_ok-push-in-Pool-2.ensures.items
    (ap (λ ts. (40 ∷ []) ++ (ink_text (alternatives_ink (map printed ts)) ++ 41 ∷ [])) c.as_slice-in-Pool.ensures ∙ pool_text c.args.term.now c.in-Pool.alternatives c.in-Pool.is)

pub print_term-returns-in_ok-print_at-in-Interval-2 : goal.print_term-returns-in_ok-print_at-in-Interval-2
print_term-returns-in_ok-print_at-in-Interval-2 t c = three_appended _ _ _ _ _ _ _ _ c.in_ok-print_at-in-Interval.ensures c.in_ok-extend_from_slice-in-Interval.ensures.items c.in_ok-print_at-in-Interval-2.ensures
    (ap (λ u. ink_text (at_line Sum (printed u)) ++ ((46 ∷ 46 ∷ []) ++ ink_text (at_line Sum (printed c.get-in-Interval.result.now)))) c.get.ensures
    ∙ ap (λ u. ink_text (at_line Sum (printed c.in-Interval.low)) ++ ((46 ∷ 46 ∷ []) ++ ink_text (at_line Sum (printed u)))) c.get-in-Interval.ensures
    ∙ interval_text c.args.term.now c.in-Interval.low c.in-Interval.high c.in-Interval.is)

pub print_term-returns-in_ok-print_at-in-Neg : goal.print_term-returns-in_ok-print_at-in-Neg
print_term-returns-in_ok-print_at-in-Neg t c = two_appended _ _ _ _ _ _ c.in_ok-push-in-Neg.ensures.items c.in_ok-print_at-in-Neg.ensures
    (ap (λ u. (45 ∷ []) ++ ink_text (at_line Unary (printed u))) c.get-in-Neg.ensures ∙ neg_text c.args.term.now c.in-Neg.of c.in-Neg.is)

pub print_term-returns-in_ok-push-in-Abs-2 : goal.print_term-returns-in_ok-push-in-Abs-2
print_term-returns-in_ok-push-in-Abs-2 t c = three_appended _ _ _ _ _ _ _ _ c.in_ok-push-in-Abs.ensures.items c.in_ok-print_at-in-Abs.ensures c.in_ok-push-in-Abs-2.ensures.items
    (ap (λ u. (124 ∷ []) ++ (ink_text (at_line Sum (printed u)) ++ 124 ∷ [])) c.get-in-Abs.ensures ∙ abs_text c.args.term.now c.in-Abs.of c.in-Abs.is)

pub print_term-returns-in_ok-print_at-in-Binary-2 : goal.print_term-returns-in_ok-print_at-in-Binary-2
print_term-returns-in_ok-print_at-in-Binary-2 t c = three_appended _ _ _ _ _ _ _ _ c.in_ok-print_at-in-Binary.ensures c.in_ok-push-in-Binary.ensures.items c.in_ok-print_at-in-Binary-2.ensures
    (ap (λ u. ink_text (at_line c.op_line.result (printed u)) ++ ((c.op_sign.result ∷ []) ++ ink_text (at_line c.right_line.result (printed c.get-in-Binary-2.result.now)))) c.get-in-Binary.ensures
    ∙ ap (λ u. ink_text (at_line c.op_line.result (printed c.in-Binary.left)) ++ ((c.op_sign.result ∷ []) ++ ink_text (at_line c.right_line.result (printed u)))) c.get-in-Binary-2.ensures
    ∙ ap (λ l. ink_text (at_line l (printed c.in-Binary.left)) ++ ((c.op_sign.result ∷ []) ++ ink_text (at_line c.right_line.result (printed c.in-Binary.right)))) c.op_line.ensures
    ∙ ap (λ l. ink_text (at_line (op_line c.in-Binary.op) (printed c.in-Binary.left)) ++ ((c.op_sign.result ∷ []) ++ ink_text (at_line l (printed c.in-Binary.right)))) c.right_line.ensures
    ∙ binary_text c.args.term.now c.in-Binary.left c.in-Binary.right c.in-Binary.op c.op_sign.result c.in-Binary.is c.op_sign.ensures)

pub print_tuple-returns-in_ok-push : goal.print_tuple-returns-in_ok-push
print_tuple-returns-in_ok-push t c =
    let one : length c.list-item.result ≡ 1 = sym c.len.ensures ∙ c.if-len-eq1.true in
    two_appended _ _ _ _ _ _ c.in_ok-print_list.ensures c.in_ok-push.ensures.items
    (ap (λ ts. ink_text (list_ink (map printed ts)) ++ 44 ∷ []) c.as_slice.ensures ∙ one_tuple_text c.args.lists.now c.list-item.result c.in-len1-up.len_at_least c.list-item.is one)

pub print_function-returns : goal.print_function-returns
print_function-returns t c =
    let some : 0 < length c.args.name.now = some_from_test (length c.args.name.now) c.is_empty.result c.is_empty.ensures c.if-is_empty.false in
    four_appended _ _ _ _ _ _ _ _ _ _ c.in_ok-extend_from_slice.ensures.items c.in_ok-push-3.ensures.items c.in_ok-print_lists.ensures c.in_ok-push-4.ensures.items
    (applied_text c.args.name.now c.args.lists.now some (sym c.are_no_arguments.ensures ∙ c.if-are_no_arguments.false))
