use Rattle.std.proofs.Common.{List, ℕ, sym, ap, ◌∙◌, subst}
use Rattle.std.specs.List.{list_all}
use Rattle.ms_instances.specs.Listing.{holds}
use Rattle.ms_instances.proofs.OneCopy.{AreNames, names_given, no_values, head_given, no_pos, no_neg, whole_instance}
use Rattle.ms_instances.proofs.making.instance_of.Goals as goal

pub returns-in_default-2 : goal.returns-in_default-2
returns-in_default-2 c =
    no_pos c.args.terms.now c.all_hold.new.terms c.name_head.new.terms c.evaluate_all.new.terms c.args.rule.now c.args.chosen.now
    c.in_ok-all_hold.ensures.keeps c.in_ok-head.ensures.keeps c.in_ok-pos.ensures.keeps
    (no_values c.name_head.new.terms c.evaluate_all.new.terms c.args.chosen.now c.as_slice-2.result.now c.args.rule.now.conds.pos c.in_ok-pos.field-0
    c.in_ok-pos.ensures c.as_slice-2.ensures c.in_default-2.is)

pub returns-in_default-3 : goal.returns-in_default-3
returns-in_default-3 c =
    no_neg c.args.terms.now c.all_hold.new.terms c.name_head.new.terms c.evaluate_all.new.terms c.evaluate_all-2.new.terms c.args.rule.now c.args.chosen.now
    (record { tests = c.in_ok-all_hold.ensures.keeps; head = c.in_ok-head.ensures.keeps; pos = c.in_ok-pos.ensures.keeps; neg = c.in_ok-neg.ensures.keeps })
    (no_values c.evaluate_all.new.terms c.evaluate_all-2.new.terms c.args.chosen.now c.as_slice-3.result.now c.args.rule.now.conds.neg c.in_ok-neg.field-0
    c.in_ok-neg.ensures c.as_slice-3.ensures c.in_default-3.is)

pub returns : goal.returns
returns c =
    let chosen = c.args.chosen.now in
    let rule = c.args.rule.now in
    whole_instance c.args.terms.now c.all_hold.new.terms c.name_head.new.terms c.evaluate_all.new.terms c.evaluate_all-2.new.terms rule chosen
    c.in-Some.head c.from_vec.result c.from_vec-2.result
    (record { tests = c.in_ok-all_hold.ensures.keeps; head = c.in_ok-head.ensures.keeps; pos = c.in_ok-pos.ensures.keeps; neg = c.in_ok-neg.ensures.keeps })
    (ap (list_all (holds chosen)) (sym c.as_slice.ensures) ∙ sym c.in_ok-all_hold.ensures.is ∙ c.if-not-branch.false)
    (head_given c.all_hold.new.terms c.name_head.new.terms chosen rule.head c.in_ok-head.field-0 c.in-Some.head c.in_ok-head.ensures c.in-Some.is)
    (subst (λ (names : List ℕ). AreNames c.evaluate_all.new.terms chosen rule.conds.pos names) (sym c.from_vec.ensures)
    (names_given c.name_head.new.terms c.evaluate_all.new.terms chosen c.as_slice-2.result.now rule.conds.pos c.in_ok-pos.field-0 c.in-Some-2.pos
    c.in_ok-pos.ensures c.as_slice-2.ensures c.in-Some-2.is))
    (subst (λ (names : List ℕ). AreNames c.evaluate_all-2.new.terms chosen rule.conds.neg names) (sym c.from_vec-2.ensures)
    (names_given c.evaluate_all.new.terms c.evaluate_all-2.new.terms chosen c.as_slice-3.result.now rule.conds.neg c.in_ok-neg.field-0 c.in-Some-3.neg
    c.in_ok-neg.ensures c.as_slice-3.ensures c.in-Some-3.is))
