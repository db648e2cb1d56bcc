-- An answer set under the values of inputs is a possible set that has them.
use Rattle.std.proofs.Common.{◌≡◌, ◌≢◌, ◌∙◌, ◌⊎◌, ◌<◌, ℕ, Bool, true, false, not, ◌&&◌, eqb, List, [], ◌∷◌, Option, Some, None, get_or, length, refl, sym, subst, ap, inl, inr, arith}
use Rattle.std.specs.Prelude.{IfSome, IsTrue}
use Rattle.std.specs.List.{All, AllPairs, list_all}
use Rattle.std.proofs.lemmas.Bool.{and_from, and_parts, cases_Bool, cases_eq, cases_lt, eq-eqb, false≢true, ne_eqb, not_from_false, not_from_true}
use Rattle.std.proofs.lemmas.List.{get_or_default}
use Rattle.std.proofs.lemmas.List.Elements.{All-map, Contains-get_or}
use Rattle.ms_join.specs.declared.ground_rule.GroundKind.{GroundKind}
use Rattle.ms_join.specs.declared.ground_rule.GroundKind.TheVariants.{Normal, Choice, Constraint}
use Rattle.ms_join.specs.declared.ground_rule.GroundRule.{GroundRule}
use Rattle.ms_join.specs.declared.ground_rule.Input.{Input}
use Rattle.ms_join.specs.AnswerSets.{has_all, side_holds, IsAnswerSet, Keeps, KeepsInput}
use Rattle.ms_join.specs.Modules.{Join, IsInput, IsJoin, rules_of}
use Rattle.ms_join.specs.Possible.{IsPossible, freed}
use Rattle.ms_possible.proofs.FreeSets.{answer_is_possible}
use Rattle.ms_possible.proofs.Inputs.{input_from}
use Rattle.ms_possible.proofs.Lists.{All-unmap}
use Rattle.ms_solver.specs.Laws.{HasValue, ValuesAreAssumed}

-- ---- an input that is false is in no answer set: the set without it is a model of the same reduct

abbrev without : ℕ → (ℕ → Bool) → ℕ → Bool
without a set b = set b && not (eqb b a)

module _ (a : ℕ) (set : ℕ → Bool) where
  other : (b : ℕ) → (b ≡ a → ⊥) → IsTrue (set b) → IsTrue (without a set b)
  other b differ holds = and_from (set b) (not (eqb b a)) holds (not_from_false (eqb b a) (ne_eqb b a differ))

  fewer : (b : ℕ) → IsTrue (without a set b) → IsTrue (set b)
  fewer b holds = (and_parts (set b) (not (eqb b a)) holds).0

  all_fewer : (atoms : List ℕ) → IsTrue (list_all (without a set) atoms) → IsTrue (list_all set atoms)
  all_fewer [] holds = refl
  all_fewer (b ∷ bs) holds =
      let both = and_parts (without a set b) (list_all (without a set) bs) holds in
      and_from (set b) (list_all set bs) (fewer b both.0) (all_fewer bs both.1)

  head_kept : (head : Option ℕ) → IfSome head (λ h. h ≢ a) → IfSome head (λ h. IsTrue (set h)) → IfSome head (λ h. IsTrue (without a set h))
  head_kept None no_rule holds = tt
  head_kept (Some h) no_rule holds = other h no_rule holds

  choice_kept : (head : Option ℕ) (pos : List ℕ) (side : Bool) → IfSome head (λ h. h ≢ a)
      → IfSome head (λ h. IsTrue (set h) → IsTrue side → IsTrue (has_all set pos) → IsTrue (set h))
      → IfSome head (λ h. IsTrue (set h) → IsTrue side → IsTrue (has_all (without a set) pos) → IsTrue (without a set h))
  choice_kept None pos side no_rule keeps = tt
  choice_kept (Some h) pos side no_rule keeps = λ chosen none all. other h no_rule chosen

  rule_kept : (kind : GroundKind) (rule : GroundRule) → IfSome rule.head (λ h. h ≢ a) → Keeps set set kind rule → Keeps set (without a set) kind rule
  rule_kept Normal rule no_rule keeps = λ none all. head_kept rule.head no_rule (keeps none (all_fewer rule.pos all))
  rule_kept Choice rule no_rule keeps = choice_kept rule.head rule.pos (side_holds set rule) no_rule keeps
  rule_kept Constraint rule no_rule keeps = tt

  input_kept : (b : ℕ) (value : Option Bool) → (b ≡ a) ⊎ (b ≢ a) → (b ≡ a → value ≡ Some false) → KeepsInput set set b value → KeepsInput set (without a set) b value
  input_kept b (Some true) (inl here) false_there keeps = absurd (let wrong : Some true ≡ Some false = false_there here in cc)
  input_kept b (Some true) (inr differ) false_there keeps = other b differ keeps
  input_kept b (Some false) case false_there keeps = tt
  input_kept b None (inl here) false_there keeps = absurd (let wrong : None ≡ Some false = false_there here in cc)
  input_kept b None (inr differ) false_there keeps = λ holds. other b differ holds

  itself_out : IsTrue (without a set a) → ⊥
  itself_out holds =
      let differ : IsTrue (not (eqb a a)) = (and_parts (set a) (not (eqb a a)) holds).1 in
      false≢true (sym (not_from_true (eqb a a) (eq-eqb a a refl)) ∙ differ)

no_head : (j : Join) (a : ℕ) (head : Option ℕ) → IsInput j a → IfSome head (λ h. ¬ IsInput j h) → IfSome head (λ h. h ≢ a)
no_head j a None input output = tt
no_head j a (Some h) input output = λ same. output (subst (IsInput j) (sym same) input)

-- each input has its value once
value_once : (inputs : List Input) → AllPairs (λ i k. i.atom ≢ k.atom) inputs → (p q : ℕ) (d : Input) → p < length inputs → q < length inputs
    → (get_or inputs p d).atom ≡ (get_or inputs q d).atom → (get_or inputs p d).value ≡ (get_or inputs q d).value
value_once inputs once p q d first second same = elim (cases_lt p q) [
  | inl less ↦ absurd (once p q d less second same)
  | inr late ↦ elim (cases_eq p q) [
    | inl is ↦ ap (λ (k : ℕ). (get_or inputs k d).value) is
    | inr differ ↦ (let more : q < p = omega (arith, late, differ) in absurd (once q p d more first (sym same)))
  ]
]

false_is_out : (j : Join) (set : ℕ → Bool) → IsJoin j → IsAnswerSet (rules_of j) set → (p : ℕ) (d : Input) → p < length j.inputs → (get_or j.inputs p d).value ≡ Some false → set (get_or j.inputs p d).atom ≡ false
false_is_out j set join answers p d within value =
    let a : ℕ = (get_or j.inputs p d).atom in
    let input : IsInput j a = input_from j (get_or j.inputs p d) (Contains-get_or j.inputs p d within) in
    elim (cases_Bool (set a)) [
      | inl holds ↦ absurd (itself_out a set (answers.least (without a set) (record {
        rules = λ k e inside. rule_kept a set (get_or j.rules k e).kind (get_or j.rules k e) (no_head j a (get_or j.rules k e).head input (join.outputs k e inside)) (answers.model.rules k e inside);
        inputs = λ k e inside.
            let same_default : get_or j.inputs k e ≡ get_or j.inputs k d = get_or_default j.inputs k e d inside in
            input_kept a set (get_or j.inputs k e).atom (get_or j.inputs k e).value (cases_eq (get_or j.inputs k e).atom a)
            (λ here. ap (λ (i : Input). i.value) same_default ∙ (value_once j.inputs join.once k p d inside within (sym (ap (λ (i : Input). i.atom) same_default) ∙ here) ∙ value))
            (answers.model.inputs k e inside);
      }) a holds))
      | inr lacks ↦ lacks
    ]

has_it : (set : ℕ → Bool) (a : ℕ) (value : Option Bool) → (value ≡ Some false → set a ≡ false) → KeepsInput set set a value → (b : Bool) → value ≡ Some b → set a ≡ b
has_it set a (Some true) out keeps true is = keeps
has_it set a (Some true) out keeps false is = absurd (let wrong : Some true ≡ Some false = is in cc)
has_it set a (Some false) out keeps true is = absurd (let wrong : Some false ≡ Some true = is in cc)
has_it set a (Some false) out keeps false is = out refl
has_it set a None out keeps b is = absurd (let wrong : None ≡ Some b = is in cc)

-- ---- a possible set that has the values

keeps_free : (set of : ℕ → Bool) (a : ℕ) (value : Option Bool) → ((b : Bool) → value ≡ Some b → set a ≡ b) → KeepsInput set of a value → IsTrue (set a) → IsTrue (of a)
keeps_free set of a (Some true) has keeps holds = keeps
keeps_free set of a (Some false) has keeps holds = absurd (false≢true (sym (has false refl) ∙ holds))
keeps_free set of a None has keeps holds = keeps holds

keeps_valued : (set of : ℕ → Bool) (a : ℕ) (value : Option Bool) → ((b : Bool) → value ≡ Some b → set a ≡ b) → (IsTrue (set a) → IsTrue (of a)) → KeepsInput set of a value
keeps_valued set of a (Some true) has keeps = keeps (has true refl)
keeps_valued set of a (Some false) has keeps = tt
keeps_valued set of a None has keeps = keeps

module _ (j : Join) (set : ℕ → Bool) (has : All (HasValue set) j.inputs) where
  abbrev free : Input → Input
  free i = record { atom = i.atom; value = None }

  to_free : (of : ℕ → Bool) → All (λ i. KeepsInput set of i.atom i.value) j.inputs → All (λ i. KeepsInput set of i.atom i.value) (freed j.inputs)
  to_free of keeps = All-map (λ (i : Input). KeepsInput set of i.atom i.value) free j.inputs
      (λ k d within. keeps_free set of (get_or j.inputs k d).atom (get_or j.inputs k d).value (has k d within) (keeps k d within))

  from_free : (of : ℕ → Bool) → All (λ i. KeepsInput set of i.atom i.value) (freed j.inputs) → All (λ i. KeepsInput set of i.atom i.value) j.inputs
  from_free of keeps k d within =
      keeps_valued set of (get_or j.inputs k d).atom (get_or j.inputs k d).value (has k d within)
      (All-unmap (λ (i : Input). KeepsInput set of i.atom i.value) free j.inputs keeps k d within)

  answer_from_possible : IsPossible j set → IsAnswerSet (rules_of j) set
  answer_from_possible possible = record {
    model = record { rules = possible.model.rules; inputs = from_free set possible.model.inputs };
    least = λ of model. possible.least of (record { rules = model.rules; inputs = to_free of model.inputs });
    allowed = possible.allowed;
  }

pub values_are_assumed : ValuesAreAssumed
values_are_assumed j set join = (
  λ answers. (
    answer_is_possible j set answers,
    λ k d within. has_it set (get_or j.inputs k d).atom (get_or j.inputs k d).value (false_is_out j set join answers k d within) (answers.model.inputs k d within),
  ),
  λ (possible, has). answer_from_possible j set has possible,
)
