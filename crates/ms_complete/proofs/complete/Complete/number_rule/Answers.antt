use Rattle.std.proofs.Common.{◌≡◌, ◌∙◌, ap, inl, inr, refl, subst, List, ℕ, Some}
use Rattle.ms_join.specs.Things.{Body}
use Rattle.ms_join.specs.Things.Thing.{body}
use Rattle.ms_complete.specs.Keys.{plain, plain_body}
use Rattle.ms_complete.specs.Numbering.{IsPartOf, IsOfRule, IsHeadThing}
use Rattle.ms_complete.proofs.NumberLaws.{declares_then, keeps_number}
use Rattle.ms_complete.proofs.complete.Complete.number_rule.Goals as goal

pub returns-clause-declares : goal.returns-clause-declares
returns-clause-declares c =
    let same : plain c.as_slice.result.now c.as_slice-2.result.now ≡ plain_body c.args.rule.now =
    ap (λ (x : List ℕ). plain x c.as_slice-2.result.now) c.as_slice.ensures ∙ ap (λ (x : List ℕ). plain c.args.rule.now.pos x) c.as_slice-2.ensures in
    declares_then c.args.self.now c.number_body.new.self c.number_head.new.self (IsPartOf (plain c.as_slice.result.now c.as_slice-2.result.now)) (IsHeadThing c.args.rule.now.head) (IsOfRule c.args.rule.now)
    c.in_ok-body.ensures.declares c.in_ok-head.ensures.declares (λ t p. inl (subst (λ (b : Body). IsPartOf b t) same p)) (λ t p. inr p)

pub returns-clause-numbered : goal.returns-clause-numbered
returns-clause-numbered c =
    let same : plain c.as_slice.result.now c.as_slice-2.result.now ≡ plain_body c.args.rule.now =
    ap (λ (x : List ℕ). plain x c.as_slice-2.result.now) c.as_slice.ensures ∙ ap (λ (x : List ℕ). plain c.args.rule.now.pos x) c.as_slice-2.ensures in
    record {
      kind = refl;
      head = c.in_ok-head.ensures.number;
      body_at = keeps_number c.number_body.new.self c.number_head.new.self (IsHeadThing c.args.rule.now.head) c.in_ok-head.ensures.declares c.in_ok-body.body (body (plain_body c.args.rule.now))
          (c.in_ok-body.ensures.number ∙ ap (λ (b : Body). Some (body b)) same);
    }
