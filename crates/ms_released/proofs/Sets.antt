-- A set without an atom that is false for good is a model of the same reduct.
use Rattle.std.proofs.Common.{◌≡◌, ◌≢◌, ◌∙◌, ℕ, Bool, true, false, not, ◌&&◌, eqb, List, [], ◌∷◌, Option, Some, None, get_or, refl, sym, subst, ap, inl, inr}
use Rattle.std.specs.Prelude.{IfSome, IsTrue}
use Rattle.std.specs.List.{Contains, list_all}
use Rattle.std.proofs.lemmas.Bool.{and_from, and_parts, cases_Bool, eq-eqb, false≢true, ne_eqb, not_from_false, not_from_true}
use Rattle.std.proofs.lemmas.List.Elements.{Contains-get_or}
use Rattle.ms_join.specs.declared.ground_rule.GroundKind.{GroundKind}
use Rattle.ms_join.specs.declared.ground_rule.GroundKind.TheVariants.{Normal, Choice, Constraint}
use Rattle.ms_join.specs.declared.ground_rule.GroundRule.{GroundRule}
use Rattle.ms_join.specs.declared.ground_rule.Input.{Input}
use Rattle.ms_join.specs.AnswerSets.{has_all, side_holds, IsAnswerSet, IsReductModel, Keeps, KeepsInput}
use Rattle.ms_join.specs.Modules.{Join, IsInput, rules_of}
use Rattle.ms_released.specs.Released.{IsFalseForGood}

-- the set without the atom
abbrev without : ℕ → (ℕ → Bool) → ℕ → Bool
without a set b = set b && not (eqb b a)

-- an input in the list, and its atom
pub input_from : (j : Join) (i : Input) → Contains j.inputs i → IsInput j i.atom
input_from j i (k, within, is) = (k, i, within, is, refl)

module _ (a : ℕ) (set : ℕ → Bool) where
  other : (b : ℕ) → (b ≡ a → ⊥) → IsTrue (set b) → IsTrue (without a set b)
  other b differ holds = and_from (set b) (not (eqb b a)) holds (not_from_false (eqb b a) (ne_eqb b a differ))

  fewer : (b : ℕ) → IsTrue (without a set b) → IsTrue (set b)
  fewer b holds = (and_parts (set b) (not (eqb b a)) holds).0

  all_fewer : (atoms : List ℕ) → IsTrue (list_all (without a set) atoms) → IsTrue (list_all set atoms)
  all_fewer [] holds = refl
  all_fewer (b ∷ bs) holds =
      let both = and_parts (without a set b) (list_all (without a set) bs) holds in
      and_from (set b) (list_all set bs) (fewer b both.0) (all_fewer bs both.1)

  head_kept : (head : Option ℕ) → head ≢ Some a → IfSome head (λ h. IsTrue (set h)) → IfSome head (λ h. IsTrue (without a set h))
  head_kept None no_rule holds = tt
  head_kept (Some h) no_rule holds = other h (λ same. no_rule (ap Some same)) holds

  choice_kept : (head : Option ℕ) (pos : List ℕ) (side : Bool) → head ≢ Some a
      → IfSome head (λ h. IsTrue (set h) → IsTrue side → IsTrue (has_all set pos) → IsTrue (set h))
      → IfSome head (λ h. IsTrue (set h) → IsTrue side → IsTrue (has_all (without a set) pos) → IsTrue (without a set h))
  choice_kept None pos side no_rule keeps = tt
  choice_kept (Some h) pos side no_rule keeps = λ chosen none all. other h (λ same. no_rule (ap Some same)) chosen

  rule_kept : (kind : GroundKind) (rule : GroundRule) → rule.head ≢ Some a → Keeps set set kind rule → Keeps set (without a set) kind rule
  rule_kept Normal rule no_rule keeps = λ none all. head_kept rule.head no_rule (keeps none (all_fewer rule.pos all))
  rule_kept Choice rule no_rule keeps = choice_kept rule.head rule.pos (side_holds set rule) no_rule keeps
  rule_kept Constraint rule no_rule keeps = tt

  input_kept : (b : ℕ) (value : Option Bool) → (b ≡ a → ⊥) → KeepsInput set set b value → KeepsInput set (without a set) b value
  input_kept b (Some true) differ keeps = other b differ keeps
  input_kept b (Some false) differ keeps = tt
  input_kept b None differ keeps = λ holds. other b differ holds

  still_model : (j : Join) → IsFalseForGood j a → IsReductModel (rules_of j) set set → IsReductModel (rules_of j) set (without a set)
  still_model j lies model = record {
    rules = λ k d within. rule_kept (get_or j.rules k d).kind (get_or j.rules k d) (lies.no_rule k d within) (model.rules k d within);
    inputs = λ k d within.
        let i : Input = get_or j.inputs k d in
        input_kept i.atom i.value (λ same. lies.output.no_input (subst (IsInput j) same (input_from j i (Contains-get_or j.inputs k d within)))) (model.inputs k d within);
  }

  itself_out : IsTrue (without a set a) → ⊥
  itself_out holds =
      let differ : IsTrue (not (eqb a a)) = (and_parts (set a) (not (eqb a a)) holds).1 in
      false≢true (sym (not_from_true (eqb a a) (eq-eqb a a refl)) ∙ differ)

pub in_no_answer_set : (j : Join) (a : ℕ) (set : ℕ → Bool) → IsFalseForGood j a → IsAnswerSet (rules_of j) set → set a ≡ false
in_no_answer_set j a set lies answers = elim (cases_Bool (set a)) [
  | inl holds ↦ absurd (itself_out a set (answers.least (without a set) (still_model a set j lies answers.model) a holds))
  | inr lacks ↦ lacks
]
