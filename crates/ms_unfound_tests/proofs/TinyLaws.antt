-- A module of rules over four atoms is well formed.
use Rattle.std.proofs.Common.{◌≡◌, ◌⊎◌, ◌+◌, ◌<◌, ◌≤◌, ℕ, zero, suc, List, [], ◌∷◌, Option, Some, None, length, sym, ap, subst, inl, inr, refl, arith}
use Rattle.std.specs.Prelude.{IfSome}
use Rattle.std.specs.List.{All, Contains}
use Rattle.std.specs.List.Sorted.{IsStrictlyIncreasing}
use Rattle.std.proofs.lemmas.Bool.{cases_eq}
use Rattle.std.proofs.lemmas.List.Elements.{All-cons, All-nil, All-weaker}
use Rattle.ms_join.specs.declared.ground_module.GroundModule.{GroundModule}
use Rattle.ms_join.specs.declared.ground_rule.GroundRule.{GroundRule}
use Rattle.ms_join.specs.AnswerSets.{IsAtomSet, IsRuleOver}
use Rattle.ms_join.specs.Modules.{HasSets, IsWellFormed}
use Rattle.ms_unfound_tests.specs.Tiny.{IsTinyRule}

abbrev three : List ℕ
three = 0 ∷ 1 ∷ 2 ∷ []

one_of_three : (a : ℕ) → a < 3 → Contains three a
one_of_three a less = elim (cases_eq a 0) [
  | inl is ↦ (0, omega arith, sym is)
  | inr more ↦ elim (cases_eq a 1) [
    | inl is ↦ (1, omega arith, sym is)
    | inr above ↦ let is : a ≡ 2 = omega (arith, less, more, above) in (2, omega arith, sym is)
  ]
]

headed : (head : Option ℕ) → IfSome head (λ h. h < 3) → IfSome head (Contains three)
headed None below = tt
headed (Some h) below = one_of_three h below

rising_three : IsStrictlyIncreasing three
rising_three zero within = omega arith
rising_three (suc zero) within = omega arith
rising_three (suc (suc k)) within = absurd (omega (arith, within))

rising_one : IsStrictlyIncreasing (3 ∷ [])
rising_one k within = absurd (omega (arith, within))

below_three : All (λ (a : ℕ). a < 4) three
below_three = All-cons (λ (a : ℕ). a < 4) 0 (1 ∷ 2 ∷ []) (omega arith) (All-cons (λ (a : ℕ). a < 4) 1 (2 ∷ []) (omega arith) (All-cons (λ (a : ℕ). a < 4) 2 [] (omega arith) (All-nil (λ (a : ℕ). a < 4))))

below_one : All (λ (a : ℕ). a < 4) (3 ∷ [])
below_one = All-cons (λ (a : ℕ). a < 4) 3 [] (omega arith) (All-nil (λ (a : ℕ). a < 4))

pub well_formed : (names : List ℕ) (rules : List GroundRule) (externals heads : List ℕ) → names ≡ 0 ∷ 1 ∷ 2 ∷ 3 ∷ [] → externals ≡ 3 ∷ [] → heads ≡ three → All IsTinyRule rules
    → IsWellFormed 0 (record { first_new = 0; fresh = 4; names = names; rules = rules; externals = externals; heads = heads })
well_formed names rules externals heads names_are externals_are heads_are tiny = record {
  first = refl;
  fresh = sym (ap length names_are);
  rules = All-weaker IsTinyRule (IsRuleOver 4) (λ rule is. is.over) rules tiny;
  bodies = All-weaker IsTinyRule HasSets (λ rule is. is.sets) rules tiny;
  heads = subst (IsAtomSet 4) (sym heads_are) (record { within = below_three; rising = rising_three });
  externals = subst (IsAtomSet 4) (sym externals_are) (record { within = below_one; rising = rising_one });
  headed = subst (λ (hs : List ℕ). All (λ (rule : GroundRule). IfSome rule.head (Contains hs)) rules) (sym heads_are)
      (All-weaker IsTinyRule (λ (rule : GroundRule). IfSome rule.head (Contains three)) (λ rule is. headed rule.head is.head) rules tiny);
  covered = λ a late less. elim (cases_eq a 3) [
    | inl is ↦ inr (subst (λ (es : List ℕ). Contains es a) (sym externals_are) (0, omega arith, sym is))
    | inr other ↦ inl (subst (λ (hs : List ℕ). Contains hs a) (sym heads_are) (one_of_three a (omega (arith, less, other))))
  ];
}
