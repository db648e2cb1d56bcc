-- What a rule asks for is in each model of the reduct, and a mark keeps the marked atoms within the models.
use Rattle.std.proofs.Common.{◌≡◌, ◌<◌, ℕ, Bool, true, false, not, cond, IsTrue, List, [], ◌∷◌, Option, Some, None, All, length, get_or, set, refl, sym, subst, ◌∙◌, ap, ⊎_elim, arith}
use Rattle.std.specs.Option.{IsSomeAnd}
use Rattle.std.specs.Bool.{⊤}
use Rattle.std.specs.List.{list_all}
use Rattle.std.proofs.lemmas.Bool.{and_parts, and_from, both_ways, cases_eq}
use Rattle.std.proofs.lemmas.List.{get_or-set_other, get_or-set_same}
use Rattle.std.proofs.lemmas.List.Sums.{sum_by-set}
use Rattle.std.proofs.lemmas.Option.{MatchOption-at_some}
use Rattle.ms_join.specs.declared.ground_rule.GroundRule.{GroundRule}
use Rattle.ms_join.specs.declared.ground_rule.Input.{Input}
use Rattle.ms_join.specs.declared.ground_rule.Rules.{Rules}
use Rattle.ms_join.specs.declared.ground_rule.GroundKind.{GroundKind}
use Rattle.ms_join.specs.declared.ground_rule.GroundKind.TheVariants.{Normal, Choice, Constraint}
use Rattle.ms_join.specs.AnswerSets.{has_all, side_holds, Keeps, KeepsInput, IsReductModel, IsRuleOver, HasHead}
use Rattle.ms_rules.specs.Flags.{flag_at}
use Rattle.ms_rules.specs.LeastModel.{AsksFor, MayAsk, IsMarking, IsWithinModels, unmarked_count}

-- a larger set has all that a smaller one has
pub list_all-larger : (p q : ℕ → Bool) → ((a : ℕ) → IsTrue (p a) → IsTrue (q a)) → (xs : List ℕ) → IsTrue (list_all p xs) → IsTrue (list_all q xs)
list_all-larger p q h [] e = refl
list_all-larger p q h (x ∷ xs) e =
    let parts = and_parts (p x) (list_all p xs) e in
    and_from (q x) (list_all q xs) (h x parts.0) (list_all-larger p q h xs parts.1)

kept_by_kind : (by of : ℕ → Bool) (kind : GroundKind) (rule : GroundRule) (a : ℕ) → MayAsk by kind a → IsTrue (side_holds by rule) → IsTrue (has_all of rule.pos) → rule.head ≡ Some a → Keeps by of kind rule → IsTrue (of a)
kept_by_kind by of Normal rule a may side pos head keeps = MatchOption-at_some ⊤ (λ h. IsTrue (of h)) a head (keeps side pos)
kept_by_kind by of Choice rule a may side pos head keeps =
    MatchOption-at_some ⊤ (λ h. IsTrue (by h) → IsTrue (side_holds by rule) → IsTrue (has_all of rule.pos) → IsTrue (of h)) a head keeps may side pos
kept_by_kind by of Constraint rule a may side pos head keeps = absurd may

-- what a rule asks for is in each model
pub asked_in_models : (join : Rules) (by of : ℕ → Bool) (k : ℕ) (rule : GroundRule) (a : ℕ) → k < length join.rules → rule ≡ get_or join.rules k rule → IsWithinModels join by of → AsksFor by of rule a → (other : ℕ → Bool) → IsReductModel join by other → IsTrue (other a)
asked_in_models join by of k rule a lt read below asks other model =
    let keeps : Keeps by other rule.kind rule = subst (λ r. Keeps by other r.kind r) (sym read) (model.rules k rule lt) in
    kept_by_kind by other rule.kind rule a asks.kind asks.side (list_all-larger of other (below.within other model) rule.pos asks.pos) asks.head keeps

-- a mark keeps the marks that are there
pub marks_stay : (flags : List Bool) (a b : ℕ) → a < length flags → IsTrue (flag_at flags b) → IsTrue (flag_at (set flags a true) b)
marks_stay flags a b in_range marked =
    ⊎_elim (λ (same : b ≡ a). ap (λ x. flag_at (set flags a true) x) same ∙ get_or-set_same flags a true false in_range)
    (λ (differs : b ≡ a → ⊥). get_or-set_other flags a b true false differs ∙ marked)
    (cases_eq b a)

KeepsInput-larger : (by of more : ℕ → Bool) (a : ℕ) (value : Option Bool) → (IsTrue (of a) → IsTrue (more a)) → KeepsInput by of a value → KeepsInput by more a value
KeepsInput-larger by of more a (Some true) larger keeps = larger keeps
KeepsInput-larger by of more a (Some false) larger keeps = tt
KeepsInput-larger by of more a None larger keeps = λ has. larger (keeps has)

-- so a mark keeps the inputs that are facts
pub inputs_stay : (by : ℕ → Bool) (flags : List Bool) (a : ℕ) → a < length flags → (inputs : List Input) → All (λ i. KeepsInput by (flag_at flags) i.atom i.value) inputs → All (λ i. KeepsInput by (flag_at (set flags a true)) i.atom i.value) inputs
inputs_stay by flags a in_range inputs kept k d short =
    let i = get_or inputs k d in
    KeepsInput-larger by (flag_at flags) (flag_at (set flags a true)) i.atom i.value (marks_stay flags a i.atom in_range) (kept k d short)

-- what is marked of a set that has the atom is in it
pub mark_within : (other : ℕ → Bool) (flags : List Bool) (a : ℕ) → ((b : ℕ) → IsTrue (flag_at flags b) → IsTrue (other b)) → IsTrue (other a) → (b : ℕ) → IsTrue (flag_at (set flags a true) b) → IsTrue (other b)
mark_within other flags a below has b marked =
    ⊎_elim (λ (same : b ≡ a). subst (λ x. IsTrue (other x)) (sym same) has)
    (λ (differs : b ≡ a → ⊥). below b (sym (get_or-set_other flags a b true false differs) ∙ marked))
    (cases_eq b a)

-- the mark keeps what is marked within the models
pub IsMarking-mark : (join : Rules) (by : ℕ → Bool) (flags : List Bool) (k : ℕ) (rule : GroundRule) (a : ℕ) → k < length join.rules → rule ≡ get_or join.rules k rule → a < length flags → IsMarking join by (flag_at flags) → AsksFor by (flag_at flags) rule a → IsMarking join by (flag_at (set flags a true))
IsMarking-mark join by flags k rule a lt read in_range marking asks = record {
  inputs = inputs_stay by flags a in_range join.inputs marking.inputs;
  within = record {
    within = λ other model.
        mark_within other flags a (marking.within.within other model) (asked_in_models join by (flag_at flags) k rule a lt read marking.within asks other model);
  };
}

-- a set that lacks what is asked for is no model
pub outside_is_no_model : (join : Rules) (by of : ℕ → Bool) (k : ℕ) (rule : GroundRule) (a : ℕ) → k < length join.rules → rule ≡ get_or join.rules k rule → IsWithinModels join by of → AsksFor by of rule a → by a ≡ false → ¬ (IsReductModel join by by)
outside_is_no_model join by of k rule a lt read below asks lacks model =
    both_ways (by a) lacks (asked_in_models join by of k rule a lt read below asks by model)

-- each mark leaves fewer atoms to mark
pub unmarked_count-mark : (flags : List Bool) (a : ℕ) → a < length flags → flag_at flags a ≡ false → unmarked_count (set flags a true) < unmarked_count flags
unmarked_count-mark flags a in_range lacks =
    let weight : Bool → ℕ = λ x. cond (not x) 1 0 in
    omega (arith, sum_by-set weight flags a true false in_range, ap weight lacks)

head_in_range : (n : ℕ) (by : ℕ → Bool) (kind : GroundKind) (head : Option ℕ) (a : ℕ) → MayAsk by kind a → head ≡ Some a → HasHead n kind head → a < n
head_in_range n by Normal head a may is has = subst (λ o. IsSomeAnd o (λ h. h < n)) is has
head_in_range n by Choice head a may is has = subst (λ o. IsSomeAnd o (λ h. h < n)) is has
head_in_range n by Constraint head a may is has = absurd may

-- the head of a rule over the base is an atom of it
pub asked_in_range : (n : ℕ) (by of : ℕ → Bool) (rule : GroundRule) (a : ℕ) → IsRuleOver n rule → AsksFor by of rule a → a < n
asked_in_range n by of rule a over asks = head_in_range n by rule.kind rule.head a asks.kind asks.head over.head
