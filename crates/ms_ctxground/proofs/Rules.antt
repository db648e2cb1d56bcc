-- The rules that instances leave, as they are collected one instance after another.
use Rattle.std.proofs.Common.{ℕ, List, [], ◌∷◌, ◌++◌, arith, length-append, ◌∙◌}
use Rattle.std.proofs.lemmas.List.{get_or_append_left}
use Rattle.std.proofs.lemmas.List.Elements.{All-push, All-weaker}
use Rattle.std.proofs.lemmas.List.Quantifiers.{Any-push}
use Rattle.std.specs.List.{All, Any}
use Rattle.ms_join.specs.declared.ground_rule.GroundRule.{GroundRule}
use Rattle.ms_instances.specs.declared.instance.Instance.{Instance}
use Rattle.ms_ctxground.specs.LeftRules.{AreAllLeft, IsLeftBy, MustLeave}

Any-append_left : {X : Type 0} (P : X → Type 0) (xs ys : List X) → Any P xs → Any P (xs ++ ys)
Any-append_left P xs ys (k, x, within, at, holds) = (k, x, omega (arith, length-append xs ys), get_or_append_left xs ys x k within ∙ at, holds)

abbrev IsOfOne : List ℕ → List Instance → GroundRule → Type 0
IsOfOne base instances rule = Any (λ i. IsLeftBy base i rule) instances

abbrev HasOne : List ℕ → List GroundRule → Instance → Type 0
HasOne base rules i = MustLeave base i → Any (IsLeftBy base i) rules

module _ {base : List ℕ} {instances : List Instance} {rules : List GroundRule} (i : Instance) (so_far : AreAllLeft base instances rules) where
  of_more : All (IsOfOne base (instances ++ i ∷ [])) rules
  of_more = All-weaker (IsOfOne base instances) (IsOfOne base (instances ++ i ∷ [])) (λ rule h. Any-append_left (λ j. IsLeftBy base j rule) instances (i ∷ []) h) rules so_far.each

  pub AreAllLeft-skip : (MustLeave base i → ⊥) → AreAllLeft base (instances ++ i ∷ []) rules
  AreAllLeft-skip none = record {
    each = of_more;
    every = All-push (HasOne base rules) instances i so_far.every (λ must. absurd (none must));
  }

  pub AreAllLeft-more : (rule : GroundRule) → IsLeftBy base i rule → AreAllLeft base (instances ++ i ∷ []) (rules ++ rule ∷ [])
  AreAllLeft-more rule is = record {
    each = All-push (IsOfOne base (instances ++ i ∷ [])) rules rule of_more (Any-push (λ j. IsLeftBy base j rule) instances i is);
    every = All-push (HasOne base (rules ++ rule ∷ [])) instances i
        (All-weaker (HasOne base rules) (HasOne base (rules ++ rule ∷ [])) (λ j h must. Any-append_left (IsLeftBy base j) rules (rule ∷ []) (h must)) instances so_far.every)
        (λ must. Any-push (IsLeftBy base i) rules rule is);
  }
