-- Nothing in a possible set is unfounded: the set without an unfounded set of atoms would be a smaller model.
use Rattle.std.proofs.Common.{◌≡◌, ◌∙◌, ℕ, ◌<◌, Bool, false, not, ◌&&◌, List, Option, Some, None, get_or, refl, sym, ap, subst}
use Rattle.std.specs.Prelude.{IfSome, IsTrue, nat_lt}
use Rattle.std.specs.List.{All, list_all}
use Rattle.std.proofs.lemmas.Bool.{and_from, and_parts, false_from_ne_true, false≢true, not_from_false, not_from_true, lt-ltb, ltb-true}
use Rattle.std.proofs.lemmas.List.Elements.{All-contains}
use Rattle.std.proofs.lemmas.List.Sums.{AllPass-from_list_all, list_all-from_AllPass}
use Rattle.ms_join.specs.declared.ground_rule.GroundKind.{GroundKind}
use Rattle.ms_join.specs.declared.ground_rule.GroundKind.TheVariants.{Normal, Choice, Constraint}
use Rattle.ms_join.specs.declared.ground_rule.GroundRule.{GroundRule}
use Rattle.ms_join.specs.declared.ground_rule.Input.{Input}
use Rattle.ms_join.specs.AnswerSets.{HasHead, Keeps, has_all, has_none, side_holds}
use Rattle.ms_join.specs.Modules.{Join, IsInput, IsJoin}
use Rattle.ms_join.specs.Possible.{IsPossible, cut}
use Rattle.ms_join.specs.Things.{body_holds, body_of}
use Rattle.ms_possible.proofs.Cutting.{all_more, from_cut, if_some, in_cut}
use Rattle.ms_possible.proofs.FreeSets.{IsFreeSet, free_from_possible}
use Rattle.ms_possible.proofs.Inputs.{input_of}
use Rattle.ms_things.specs.Completion.{has_head_in}
use Rattle.ms_things.specs.Loops.{supports_from_outside}
use Rattle.ms_loops.specs.Founded.{IsFoundedModel, IsOverBase, IsUnfounded}

-- the set without the atoms of the loop
abbrev without : (ℕ → Bool) → (ℕ → Bool) → ℕ → Bool
without loop set a = set a && not (loop a)

module _ (set loop : ℕ → Bool) where
  of_set : (a : ℕ) → IsTrue (without loop set a) → IsTrue (set a)
  of_set a holds = (and_parts (set a) (not (loop a)) holds).0

  not_of_loop : (a : ℕ) → IsTrue (without loop set a) → IsTrue (not (loop a))
  not_of_loop a holds = (and_parts (set a) (not (loop a)) holds).1

  -- a head that a rule with a body in what is left gives isn't in the loop
  head_left : (rule : GroundRule) (h : ℕ) → rule.head ≡ Some h → (IsTrue (supports_from_outside loop rule) → body_holds set (body_of rule) ≡ false)
      → IsTrue (side_holds set rule) → IsTrue (has_all (without loop set) rule.pos) → IsTrue (set h) → IsTrue (without loop set h)
  head_left rule h at unsupported side all here = and_from (set h) (not (loop h)) here (not_from_false (loop h) (false_from_ne_true (loop h) (λ inside.
      let outside : IsTrue (supports_from_outside loop rule) =
      and_from (has_head_in loop rule.head) (has_none loop rule.pos) (ap (has_head_in loop) at ∙ inside) (all_more (without loop set) (λ a. not (loop a)) rule.pos (λ k d within. not_of_loop (get_or rule.pos k d)) all) in
      let body : IsTrue (body_holds set (body_of rule)) =
      and_from (has_all set rule.pos) (side_holds set rule) (all_more (without loop set) set rule.pos (λ k d within. of_set (get_or rule.pos k d)) all) side in
      false≢true (sym (unsupported outside) ∙ body))))

  rule_left : (kind : GroundKind) (rule : GroundRule) → (IsTrue (supports_from_outside loop rule) → body_holds set (body_of rule) ≡ false)
      → Keeps set set kind rule → Keeps set (without loop set) kind rule
  rule_left Normal rule unsupported keeps = λ side all.
      if_some (λ h. IsTrue (set h)) (λ h. IsTrue (without loop set h)) rule.head
      (λ h at here. head_left rule h at unsupported side all here)
      (keeps side (all_more (without loop set) set rule.pos (λ k d within. of_set (get_or rule.pos k d)) all))
  rule_left Choice rule unsupported keeps =
      if_some
      (λ h. IsTrue (set h) → IsTrue (side_holds set rule) → IsTrue (has_all set rule.pos) → IsTrue (set h))
      (λ h. IsTrue (set h) → IsTrue (side_holds set rule) → IsTrue (has_all (without loop set) rule.pos) → IsTrue (without loop set h))
      rule.head
      (λ h at kept here side all. head_left rule h at unsupported side all here)
      keeps
  rule_left Constraint rule unsupported keeps = tt

pub nothing_unfounded : (j : Join) (set loop : ℕ → Bool) → IsPossible j set → ¬ IsUnfounded j set loop
nothing_unfounded j set loop possible is =
    let free : IsFreeSet j.rules (IsInput j) set = free_from_possible j set possible in
    let left : IsTrue (without loop set is.member) =
    free.least (without loop set)
    (λ k d within. rule_left set loop (get_or j.rules k d).kind (get_or j.rules k d) (is.unsupported k d within) (free.model k d within))
    (λ a input here. and_from (set a) (not (loop a)) here (not_from_false (loop a) (false_from_ne_true (loop a) (λ inside. (is.among.outputs a inside).no_input input))))
    is.member is.true_there in
    false≢true (sym (not_from_true (loop is.member) is.has) ∙ not_of_loop set loop is.member left)

pub founded_from_possible : (j : Join) (set : ℕ → Bool) → IsPossible j set → IsFoundedModel j set
founded_from_possible j set possible = record {
  rules = possible.model.rules;
  constraints = possible.allowed;
  founded = λ loop. nothing_unfounded j set loop possible;
}

-- ---- a possible set is over the base: its atoms of the base alone are a model too

pub head_below : (n : ℕ) (kind : GroundKind) (head : Option ℕ) → HasHead n kind head → (h : ℕ) → head ≡ Some h → h < n
head_below n Normal None has h at = absurd has
head_below n Normal (Some a) has h at = let same : a ≡ h = cc in subst (λ b. b < n) same has
head_below n Choice None has h at = absurd has
head_below n Choice (Some a) has h at = let same : a ≡ h = cc in subst (λ b. b < n) same has
head_below n Constraint head has h at = cc

-- the heads of rules are below n
rule_below : (n : ℕ) (set : ℕ → Bool) (kind : GroundKind) (rule : GroundRule) → ((h : ℕ) → rule.head ≡ Some h → h < n) → Keeps set set kind rule → Keeps set (cut n set) kind rule
rule_below n set Normal rule below keeps = λ side all.
    if_some (λ h. IsTrue (set h)) (λ h. IsTrue (cut n set h)) rule.head
    (λ h at here. in_cut n set h (below h at) here)
    (keeps side (all_more (cut n set) set rule.pos (λ k d within here. (from_cut n set (get_or rule.pos k d) here).1) all))
rule_below n set Choice rule below keeps =
    if_some
    (λ h. IsTrue (set h) → IsTrue (side_holds set rule) → IsTrue (has_all set rule.pos) → IsTrue (set h))
    (λ h. IsTrue (set h) → IsTrue (side_holds set rule) → IsTrue (has_all (cut n set) rule.pos) → IsTrue (cut n set h))
    rule.head
    (λ h at kept here side all. in_cut n set h (below h at) here)
    keeps
rule_below n set Constraint rule below keeps = tt

input_below : (j : Join) → All (λ i. i.atom < j.atoms) j.inputs → (a : ℕ) → IsInput j a → a < j.atoms
input_below j below a input = let of = input_of j a input in subst (λ b. b < j.atoms) of.atom (All-contains (λ (i : Input). i.atom < j.atoms) j.inputs of.input below of.there)

pub possible_over_base : (j : Join) (set : ℕ → Bool) → IsJoin j → IsPossible j set → IsOverBase j set
possible_over_base j set is possible a here =
    let free : IsFreeSet j.rules (IsInput j) set = free_from_possible j set possible in
    let there : IsTrue (cut j.atoms set a) =
    free.least (cut j.atoms set)
    (λ k d within. rule_below j.atoms set (get_or j.rules k d).kind (get_or j.rules k d)
    (head_below j.atoms (get_or j.rules k d).kind (get_or j.rules k d).head (is.over.rules k d within).head) (free.model k d within))
    (λ b input chosen. in_cut j.atoms set b (input_below j is.over.inputs b input) chosen)
    a here in
    (from_cut j.atoms set a there).0
