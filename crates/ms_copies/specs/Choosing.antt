-- The copies of a core rule: the choices of integers for its ranges.
-- Source: intervals and comparisons of gringo. That a rule has no copy where a term has no value is after clingo;
-- the exact set is this project's own.
use Rattle.std.specs.Prelude.{◌≡◌, ℤ, ◌≤ℤ◌, true, ⊤, List, [], ◌∷◌, ◌++◌, map, flat_map, Some, All, IsSome, option_to_list}
use Rattle.ms_tree.specs.Tree.{number}
use Rattle.ms_grammar.specs.Terms.{both}
use Rattle.ms_core.specs.declared.pattern.Pattern.{Pattern}
use Rattle.ms_core.specs.declared.rule.Test.{Test}
use Rattle.ms_core.specs.declared.rule.Range.{Range}
use Rattle.ms_core.specs.declared.rule.Element.{Element}
use Rattle.ms_core.specs.declared.rule.CoreRule.{CoreRule}
use Rattle.ms_copies.specs.Evaluating.{Chosen, value, compares}

-- The integer lies within the two integer ends of the range.
pub record IsWithin (before : Chosen) (range : Range) (n : ℤ) : Type 0 where
  pub low : ℤ
  pub high : ℤ
  pub low_is : value before range.low ≡ Some (number low)
  pub high_is : value before range.high ≡ Some (number high)
  pub above : low ≤ℤ n
  pub below : n ≤ℤ high

-- An integer is chosen for each of the ranges. The ends of a range name only ranges before it.
abbrev pub AreChosen : Chosen → List Range → Chosen → Type 0
AreChosen before [] [] = ⊤
AreChosen before (range ∷ ranges) (n ∷ chosen) = IsWithin before range n × AreChosen (before ++ n ∷ []) ranges chosen
AreChosen before [] (n ∷ chosen) = ⊥
AreChosen before (range ∷ ranges) [] = ⊥

-- Both sides of the comparison have a value, and it holds of them.
abbrev pub Holds : Chosen → Test → Type 0
Holds chosen test = both (λ l r. Some (compares test.cmp l r)) (value chosen test.left) (value chosen test.right) ≡ Some true

-- A choice for these ranges, behind that for the ranges before, gives each of the terms a value and makes each
-- comparison true.
pub record IsChoice (before : Chosen) (ranges : List Range) (terms : List Pattern) (tests : List Test) (chosen : Chosen) : Type 0 where
  pub within : AreChosen before ranges chosen
  pub defined : All (λ p. IsSome (value (before ++ chosen) p)) terms
  pub compared : All (Holds (before ++ chosen)) tests

-- the terms of a rule outside the elements of its aggregates, apart from ends of ranges and sides of comparisons
abbrev pub terms_of : CoreRule → List Pattern
terms_of rule = option_to_list rule.head ++ rule.conds.pos ++ rule.conds.neg ++ flat_map (λ a. map (λ g. g.bound) a.guards) rule.aggs

abbrev pub element_terms : Element → List Pattern
element_terms e = e.tuple ++ e.conds.pos ++ e.conds.neg

-- The rule has a copy with this choice.
abbrev pub IsCopy : CoreRule → Chosen → Type 0
IsCopy rule chosen = IsChoice [] rule.conds.ranges (terms_of rule) rule.conds.tests chosen

-- An element of an aggregate has a copy with this choice for its own ranges, where the rule's choice is kept.
abbrev pub IsElementCopy : Chosen → Element → Chosen → Type 0
IsElementCopy of_rule e chosen = IsChoice of_rule e.conds.ranges (element_terms e) e.conds.tests chosen
