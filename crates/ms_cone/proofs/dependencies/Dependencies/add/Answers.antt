use Rattle.std.proofs.Common.{◌≡◌, ◌+◌, append_assoc, ◌++◌, ◌∷◌, [], List, subst, sym, ap, ◌∙◌, take}
use Rattle.std.proofs.lemmas.List.{take_more}
use Rattle.ms_join.specs.declared.ground_rule.GroundRule.{GroundRule}
use Rattle.ms_cone.specs.Dependencies.{Keeps}
use Rattle.ms_cone.proofs.Adding.{keeps_more}
use Rattle.ms_cone.proofs.dependencies.Dependencies.add.Goals as goal

pub loop-rule-preserved : goal.loop-rule-preserved
loop-rule-preserved c before keeps =
    let rules = c.args.rules.now in
    let i = c.loop-rule.rule-index in
    let rule = c.rule-item.result in
    let done = take i rules in
    let more : (before ++ done) ++ rule ∷ [] ≡ before ++ take (i + 1) rules =
    append_assoc before done (rule ∷ []) ∙ ap (λ (xs : List GroundRule). before ++ xs) (ap (λ (x : GroundRule). done ++ x ∷ []) c.rule-item.is ∙ sym (take_more rules i rule c.loop-rule-test.true)) in
    subst (λ (xs : List GroundRule). Keeps c.add_rule.new.self xs) more
    (keeps_more c.loop-rule.self c.add_rule.new.self (before ++ done) rule (c.loop-rule.invariant before keeps) c.in_ok-add_rule.ensures)
