use Rattle.std.proofs.Common.{◌≡◌, ◌<◌, ap, sym, ◌∙◌, subst, length, arith}
use Rattle.std.specs.Ordering.{nat_cmp, ordering_then}
use Rattle.std.specs.Cmp.Lexicographic.{slice_cmp}
use Rattle.ms_tree.specs.Tree.{function}
use Rattle.ms_tree.specs.Order.{compare_trees}
use Rattle.ms_term.specs.Comparing.{IsComparison}
use Rattle.ms_term.specs.Terms.{term_at, terms_at}
use Rattle.ms_term.proofs.NodeTables.{AllBelow-le}
use Rattle.ms_term.proofs.Orders.{by_tops, by_arguments}
use Rattle.ms_term.proofs.terms.Terms.compare_tops.Goals as goal

pub compare_arguments-requires-clause-within : goal.compare_arguments-requires-clause-within
compare_arguments-requires-clause-within c =
    let within : c.args.a < length c.args.self.now = c.requires.a_within in
    AllBelow-le c.args.a (length c.args.self.now) _ (omega arith) c.in-Function-Function.ensures.below

pub compare_arguments-requires-clause-others_within : goal.compare_arguments-requires-clause-others_within
compare_arguments-requires-clause-others_within c =
    let within : c.args.b < length c.args.self.now = c.requires.b_within in
    AllBelow-le c.args.b (length c.args.self.now) _ (omega arith) c.in-Function-Function.ensures'.below

pub returns-in-Equal : goal.returns-in-Equal
returns-in-Equal c =
    let ts = c.args.self.now in
    let f = c.in-Function-Function in
    let tops : c.then.result ≡ ordering_then (nat_cmp (length f.arguments.now) (length f.others.now)) (slice_cmp nat_cmp f.name.now f.other_name.now) =
    c.then.ensures ∙ (ap (λ o. ordering_then o c.cmp-in-Function-Function-2.result) c.cmp-in-Function-Function.ensures ∙ ap (λ o. ordering_then (nat_cmp (length f.arguments.now) (length f.others.now)) o) c.cmp-in-Function-Function-2.ensures) in
    let same = by_arguments ts f.name.now f.other_name.now f.arguments.now f.others.now c.then.result tops c.in-Equal.is in
    let whole : compare_trees (function f.name.now (terms_at ts f.arguments.now)) (function f.other_name.now (terms_at ts f.others.now)) ≡ compare_trees (term_at ts c.args.a) (term_at ts c.args.b) =
    ap (λ t. compare_trees t (function f.other_name.now (terms_at ts f.others.now))) (sym f.ensures.is) ∙ ap (λ t. compare_trees (term_at ts c.args.a) t) (sym f.ensures'.is) in
    subst (λ order. IsComparison ts c.args.a order c.compare_arguments.result) (same ∙ whole) (c.compare_arguments.ensures c.args.a f.ensures.below)

pub returns-in_default : goal.returns-in_default
returns-in_default c =
    let ts = c.args.self.now in
    let f = c.in-Function-Function in
    let tops : c.then.result ≡ ordering_then (nat_cmp (length f.arguments.now) (length f.others.now)) (slice_cmp nat_cmp f.name.now f.other_name.now) =
    c.then.ensures ∙ (ap (λ o. ordering_then o c.cmp-in-Function-Function-2.result) c.cmp-in-Function-Function.ensures ∙ ap (λ o. ordering_then (nat_cmp (length f.arguments.now) (length f.others.now)) o) c.cmp-in-Function-Function-2.ensures) in
    let whole : compare_trees (function f.name.now (terms_at ts f.arguments.now)) (function f.other_name.now (terms_at ts f.others.now)) ≡ compare_trees (term_at ts c.args.a) (term_at ts c.args.b) =
    ap (λ t. compare_trees t (function f.other_name.now (terms_at ts f.others.now))) (sym f.ensures.is) ∙ ap (λ t. compare_trees (term_at ts c.args.a) t) (sym f.ensures'.is) in
    by_tops ts f.name.now f.other_name.now f.arguments.now f.others.now c.then.result tops c.in_default.not-Equal ∙ whole
