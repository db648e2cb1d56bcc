-- The rules that instances leave, as a set.
use Rattle.std.proofs.Common.{ℕ, List, subst}
use Rattle.std.proofs.lemmas.List.Filters.{All-dedup}
use Rattle.std.proofs.lemmas.List.Kept.{Contains-dedup, IsStrictlySortedBy-dedup}
use Rattle.std.proofs.lemmas.List.Sorted.{All-permutation, Contains-permutation}
use Rattle.std.specs.List.{Any, dedup}
use Rattle.std.specs.List.Sorted.{IsPermutation, IsSorted, IsStrictlySortedBy}
use Rattle.std.specs.declared.cmp.Ordering.{Ordering}
use Rattle.ms_join.specs.declared.ground_rule.GroundRule.{GroundRule}
use Rattle.ms_join.specs.contracts.ground_rule.GroundRulePartialEq.TheImpl as derived
use Rattle.ms_join.specs.contracts.ground_rule.GroundRuleOrd.TheImpl as order
use Rattle.ms_join.specs.contracts.ground_rule.GroundRuleEq.TheImpl.Laws.{laws-law}
use Rattle.ms_join.specs.contracts.ground_rule.GroundRuleOrd.TheImpl.Laws.{total-law, matches_eq-law}
use Rattle.ms_join.proofs.Derived.{same_order, same_rule}
use Rattle.ms_instances.specs.declared.instance.Instance.{Instance}
use Rattle.ms_ctxground.specs.LeftRules.{AreAllLeft, AreLeftInOrder, IsLeftBy}

abbrev once_each : List GroundRule → List GroundRule
once_each rules = dedup (derived.ghosts).eq rules

module _ (base : List ℕ) (instances : List Instance) (rules sorted : List GroundRule) (moved : IsPermutation rules sorted) where
  kept : (i : Instance) → Any (IsLeftBy base i) rules → Any (IsLeftBy base i) (once_each sorted)
  kept i (k, rule, within, at, is) =
      let in_sorted = Contains-permutation rules sorted rule moved (k, within, at) in
      let (j, below, there) = Contains-dedup laws-law same_rule sorted rule in_sorted in
      (j, rule, below, there, is)

  pub AreLeftInOrder-from_sort : IsSorted (order.ghosts).cmp sorted → AreAllLeft base instances rules → AreLeftInOrder base instances (once_each sorted)
  AreLeftInOrder-from_sort in_order are = record {
    rising = subst (λ (R : GroundRule → GroundRule → Ordering). IsStrictlySortedBy R (once_each sorted)) (λ i a b. same_order a b i) (IsStrictlySortedBy-dedup total-law matches_eq-law sorted in_order);
    all = record {
      each =
          let IsOfOne : GroundRule → Type 0 = λ rule. Any (λ i. IsLeftBy base i rule) instances in
          All-dedup (derived.ghosts).eq IsOfOne sorted (All-permutation IsOfOne rules sorted moved are.each);
      every = λ k d within must. kept _ (are.every k d within must);
    };
  }
