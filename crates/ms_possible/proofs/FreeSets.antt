-- A possible set, said of the atoms that are inputs in place of a list of them.
use Rattle.std.proofs.Common.{◌≡◌, ◌≢◌, ℕ, Bool, true, false, List, Option, Some, None, get_or, inl, inr, refl, sym, subst, ap}
use Rattle.std.specs.Prelude.{◌↔◌, IsTrue}
use Rattle.std.specs.List.{All}
use Rattle.std.proofs.lemmas.Bool.{cases_eq}
use Rattle.std.proofs.lemmas.List.Elements.{All-contains, All-map, Contains-get_or}
use Rattle.ms_join.specs.declared.ground_rule.GroundRule.{GroundRule}
use Rattle.ms_join.specs.declared.ground_rule.Input.{Input}
use Rattle.ms_join.specs.AnswerSets.{Allows, IsAnswerSet, Keeps, KeepsInput}
use Rattle.ms_join.specs.Modules.{Join, IsAssigned, IsInput, IsReleased, rules_of}
use Rattle.ms_possible.proofs.Inputs.{input_from, input_of}
use Rattle.ms_join.specs.Possible.{IsAnswerUnder, IsPossible, freed, valued}
use Rattle.ms_possible.proofs.Lists.{All-unmap}

-- The set is an answer set of the rules, where the atoms of which `Is` holds are free.
pub record IsFreeSet (rules : List GroundRule) (Is : ℕ → Type 0) (set : ℕ → Bool) : Type 0 where
  pub model : All (λ rule. Keeps set set rule.kind rule) rules
  pub least : (other : ℕ → Bool) → All (λ rule. Keeps set other rule.kind rule) rules → ((a : ℕ) → Is a → IsTrue (set a) → IsTrue (other a))
      → (a : ℕ) → IsTrue (set a) → IsTrue (other a)
  pub allowed : All (λ rule. Allows set rule.kind rule) rules

-- It stays one where more atoms are free.
more_free : (rules : List GroundRule) (Is More : ℕ → Type 0) (set : ℕ → Bool) → ((a : ℕ) → Is a → More a) → IsFreeSet rules Is set → IsFreeSet rules More set
more_free rules Is More set more free = record {
  model = free.model;
  least = λ other keeps has. free.least other keeps (λ a is. has a (more a is));
  allowed = free.allowed;
}

-- ---- inputs with any values

-- an input that is in the other set where it is in this one
has_value : (set other : ℕ → Bool) (a : ℕ) (value : Option Bool) → KeepsInput set set a value → (IsTrue (set a) → IsTrue (other a)) → KeepsInput set other a value
has_value set other a (Some true) keeps has = has keeps
has_value set other a (Some false) keeps has = tt
has_value set other a None keeps has = has

has_values : (set other : ℕ → Bool) (inputs : List Input) → All (λ i. KeepsInput set set i.atom i.value) inputs → All (λ i. IsTrue (set i.atom) → IsTrue (other i.atom)) inputs
    → All (λ i. KeepsInput set other i.atom i.value) inputs
has_values set other inputs keeps has k d within = has_value set other (get_or inputs k d).atom (get_or inputs k d).value (keeps k d within) (has k d within)

-- an answer set under any values of some inputs
free_from_answer : (rules : List GroundRule) (inputs : List Input) (Is : ℕ → Type 0) (set : ℕ → Bool) → All (λ i. Is i.atom) inputs
    → IsAnswerSet (record { rules = rules; inputs = inputs }) set → IsFreeSet rules Is set
free_from_answer rules inputs Is set are answers = record {
  model = answers.model.rules;
  least = λ other keeps has. answers.least other (record {
    rules = keeps;
    inputs = has_values set other inputs answers.model.inputs (λ k d within. has (get_or inputs k d).atom (are k d within));
  });
  allowed = answers.allowed;
}

are_inputs : (j : Join) → All (λ i. IsInput j i.atom) j.inputs
are_inputs j k d within = input_from j (get_or j.inputs k d) (Contains-get_or j.inputs k d within)

-- ---- possible sets

pub free_from_possible : (j : Join) (set : ℕ → Bool) → IsPossible j set → IsFreeSet j.rules (IsInput j) set
free_from_possible j set possible =
    free_from_answer j.rules (freed j.inputs) (IsInput j) set
    (All-map (λ (i : Input). IsInput j i.atom) (λ (i : Input). record { atom = i.atom; value = None }) j.inputs (are_inputs j))
    possible

has_of : (j : Join) (P : ℕ → Type 0) → All (λ i. P i.atom) j.inputs → (a : ℕ) → IsInput j a → P a
has_of j P all a is = let of = input_of j a is in subst P of.atom (All-contains (λ (i : Input). P i.atom) j.inputs of.input all of.there)

pub possible_from_free : (j : Join) (set : ℕ → Bool) → IsFreeSet j.rules (IsInput j) set → IsPossible j set
possible_from_free j set free = record {
  model = record {
    rules = free.model;
    inputs = All-map (λ (i : Input). KeepsInput set set i.atom i.value) (λ (i : Input). record { atom = i.atom; value = None }) j.inputs (λ k d within here. here);
  };
  least = λ other model. free.least other model.rules
      (has_of j (λ a. IsTrue (set a) → IsTrue (other a))
      (All-unmap (λ (i : Input). KeepsInput set other i.atom i.value) (λ (i : Input). record { atom = i.atom; value = None }) j.inputs model.inputs));
  allowed = free.allowed;
}

-- the values of the inputs are those that the set has
own_value : (set : ℕ → Bool) (a : ℕ) (b : Bool) → set a ≡ b → KeepsInput set set a (Some b)
own_value set a true is = is
own_value set a false is = tt

own_value_has : (other : ℕ → Bool) (by : ℕ → Bool) (a : ℕ) (b : Bool) → KeepsInput by other a (Some b) → IsTrue b → IsTrue (other a)
own_value_has other by a true keeps here = keeps
own_value_has other by a false keeps here = cc

answer_from_free : (j : Join) (set : ℕ → Bool) → IsFreeSet j.rules (IsInput j) set → IsAnswerUnder j set set
answer_from_free j set free = record {
  model = record {
    rules = free.model;
    inputs = All-map (λ (i : Input). KeepsInput set set i.atom i.value) (λ (i : Input). record { atom = i.atom; value = Some (set i.atom) }) j.inputs
        (λ k d within. own_value set (get_or j.inputs k d).atom (set (get_or j.inputs k d).atom) refl);
  };
  least = λ other model. free.least other model.rules
      (has_of j (λ a. IsTrue (set a) → IsTrue (other a))
      (λ k d within. own_value_has other set (get_or j.inputs k d).atom (set (get_or j.inputs k d).atom)
      (All-unmap (λ (i : Input). KeepsInput set other i.atom i.value) (λ (i : Input). record { atom = i.atom; value = Some (set i.atom) }) j.inputs model.inputs k d within)));
  allowed = free.allowed;
}

pub by_values : (j : Join) (set : ℕ → Bool) → IsPossible j set ↔ ((values : ℕ → Bool) × IsAnswerUnder j values set)
by_values j set = (
  λ possible. (set, answer_from_free j set (free_from_possible j set possible)),
  λ (values, answers). possible_from_free j set (free_from_answer j.rules (valued values j.inputs) (IsInput j) set
      (All-map (λ (i : Input). IsInput j i.atom) (λ (i : Input). record { atom = i.atom; value = Some (values i.atom) }) j.inputs (are_inputs j))
      answers),
)

pub answer_is_possible : (j : Join) (set : ℕ → Bool) → IsAnswerSet (rules_of j) set → IsPossible j set
answer_is_possible j set answers = possible_from_free j set (free_from_answer j.rules j.inputs (IsInput j) set (are_inputs j) answers)

-- ---- inputs that change

-- the rules stay, and no atom becomes an input
pub fewer_inputs : (old new : Join) (set : ℕ → Bool) → new.rules ≡ old.rules → ((a : ℕ) → IsInput new a → IsInput old a) → IsPossible new set → IsPossible old set
fewer_inputs old new set rules inputs possible =
    possible_from_free old set (more_free old.rules (IsInput new) (IsInput old) set inputs
    (subst (λ (rs : List GroundRule). IsFreeSet rs (IsInput new) set) rules (free_from_possible new set possible)))

pub released_keeps : (old new : Join) (a : ℕ) (set : ℕ → Bool) → IsReleased old a new → IsPossible new set → IsPossible old set
released_keeps old new a set out =
    fewer_inputs old new set out.rules (λ b is. let of = input_of new b is in subst (IsInput old) of.atom (input_from old of.input ((out.inputs of.input).0 of.there).0))

assigned_back : (old new : Join) (a : ℕ) (value : Option Bool) → IsAssigned old a value new → (b : ℕ) → IsInput new b → IsInput old b
assigned_back old new a value is b here =
    let of = input_of new b here in
    subst (IsInput old) of.atom (elim ((is.inputs of.input).0 of.there) as (λ _. IsInput old of.input.atom) [
      | inl stays ↦ input_from old of.input stays.0
      | inr now ↦ subst (IsInput old) (sym (ap (λ (i : Input). i.atom) now.1)) now.0
    ])

assigned_on : (old new : Join) (a : ℕ) (value : Option Bool) → IsAssigned old a value new → (b : ℕ) → IsInput old b → IsInput new b
assigned_on old new a value is b here =
    let of = input_of old b here in
    elim (cases_eq b a) [
      | inl same ↦
          let now : Input = record { atom = a; value = value } in
          subst (IsInput new) (sym same) (input_from new now ((is.inputs now).1 (inr (subst (IsInput old) same here, refl))))
      | inr differ ↦ subst (IsInput new) of.atom (input_from new of.input ((is.inputs of.input).1 (inl (of.there, subst (λ (c : ℕ). c ≢ a) (sym of.atom) differ))))
    ]

pub assigned_keeps : (old new : Join) (a : ℕ) (value : Option Bool) (set : ℕ → Bool) → IsAssigned old a value new → IsPossible old set ↔ IsPossible new set
assigned_keeps old new a value set is = (
  fewer_inputs new old set (sym is.rules) (assigned_on old new a value is),
  fewer_inputs old new set is.rules (assigned_back old new a value is),
)
