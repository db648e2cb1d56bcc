use Rattle.std.proofs.Common.{◌∙◌, ◌+◌, List, ℕ, Vec, Global, ap, subst, sym, take}
use Rattle.std.specs.Prelude.{◌↔◌}
use Rattle.std.specs.List.{Contains}
use Rattle.std.proofs.lemmas.List.{take_all}
use Rattle.ms_join.specs.declared.ground_rule.GroundRule.{GroundRule}
use Rattle.ms_unfound.specs.Members.{IsCyclic}
use Rattle.ms_unfound.proofs.MemberLaws.{rounds_keep, rounds_more}
use Rattle.ms_unfound.proofs.members.rounds_of.Goals as goal
use Rattle.ms_unfound.proofs.members.rounds_of.Goals.{in-Some+in_ok-push, in_default}

pub loop-rule-preserved : goal.loop-rule-preserved
loop-rule-preserved c =
    let cone = c.args.cone.now in
    let rules = c.args.rules.now in
    let i = c.loop-rule.rule-index in
    let rule = c.rule-item.result in
    let old = c.loop-rule.rounds.items in
    elim c.match-round_of.branch [
      | in-Some+in_ok-push w ↦
          subst (λ (xs : List ℕ). (n : ℕ) → Contains xs n ↔ IsCyclic cone (take (i + 1) rules) n) (sym (ap (λ (v : Vec ℕ Global). v.items) w.rounds-is ∙ w.in_ok-push.ensures.items))
          (rounds_more cone rules i rule c.loop-rule-test.true c.rule-item.is old c.loop-rule.invariant w.in-Some.number w.in-Some.ensures)
      | in_default w ↦
          subst (λ (xs : List ℕ). (n : ℕ) → Contains xs n ↔ IsCyclic cone (take (i + 1) rules) n) (sym (ap (λ (v : Vec ℕ Global). v.items) w.rounds-is))
          (rounds_keep cone rules i rule c.loop-rule-test.true c.rule-item.is old c.loop-rule.invariant w.in_default.ensures)
    ]

pub returns : goal.returns
returns c =
    subst (λ (rs : List GroundRule). (n : ℕ) → Contains c.loop-rule.rounds.items n ↔ IsCyclic c.args.cone.now rs n) (take_all c.loop-rule.rule-index c.args.rules.now c.loop-rule-test.false) c.loop-rule.invariant
