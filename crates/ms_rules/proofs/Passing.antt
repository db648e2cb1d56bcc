-- A pass over the rules, after some of them.
use Rattle.std.proofs.Common.{◌≡◌, ◌+◌, ◌<◌, ◌≤◌, ℕ, Bool, true, List, All, length, get_or, set, take, sym, subst, arith}
use Rattle.std.proofs.lemmas.List.Elements.{All-more}
use Rattle.ms_join.specs.declared.ground_rule.GroundRule.{GroundRule}
use Rattle.ms_join.specs.declared.ground_rule.Rules.{Rules}
use Rattle.ms_join.specs.AnswerSets.{Keeps, IsRuleOver}
use Rattle.ms_rules.specs.declared.least_model.Progress.{Progress}
use Rattle.ms_rules.specs.declared.least_model.Progress.TheVariants.{Still, Marked, Outside}
use Rattle.ms_rules.specs.Flags.{flag_at}
use Rattle.ms_rules.specs.LeastModel.{AsksFor, IsMarking, unmarked_count}
use Rattle.ms_rules.proofs.LeastModel.{IsMarking-mark, unmarked_count-mark, asked_in_range}

-- The passed rules ask for nothing more, or something was marked.
abbrev pub ProgressesSoFar : Progress → List GroundRule → List Bool → List Bool → List Bool → Type 0
ProgressesSoFar Still passed in_set old now = All (λ rule. Keeps (flag_at in_set) (flag_at now) rule.kind rule) passed
ProgressesSoFar Marked passed in_set old now = unmarked_count now < unmarked_count old
ProgressesSoFar Outside passed in_set old now = ⊥

-- after the first i rules
pub record IsPassing (join : Rules) (i : ℕ) (in_set old now : List Bool) (progress : Progress) : Type 0 where
  pub marking : IsMarking join (flag_at in_set) (flag_at now)
  pub shrinks : unmarked_count now ≤ unmarked_count old
  pub so_far : ProgressesSoFar progress (take i join.rules) in_set old now

keep_progress : (progress : Progress) (rules : List GroundRule) (i : ℕ) (rule : GroundRule) (in_set old now : List Bool) → i < length rules → rule ≡ get_or rules i rule → Keeps (flag_at in_set) (flag_at now) rule.kind rule → ProgressesSoFar progress (take i rules) in_set old now → ProgressesSoFar progress (take (i + 1) rules) in_set old now
keep_progress Still rules i rule in_set old now lt read keeps so_far =
    let P : GroundRule → Type 0 = λ r. Keeps (flag_at in_set) (flag_at now) r.kind r in
    All-more P rules i rule lt so_far (subst P read keeps)
keep_progress Marked rules i rule in_set old now lt read keeps so_far = so_far
keep_progress Outside rules i rule in_set old now lt read keeps so_far = so_far

pub IsPassing-keep : (join : Rules) (i : ℕ) (in_set old now new : List Bool) (progress next : Progress) (rule : GroundRule) → IsPassing join i in_set old now progress → i < length join.rules → rule ≡ get_or join.rules i rule → Keeps (flag_at in_set) (flag_at now) rule.kind rule → new ≡ now → next ≡ progress → IsPassing join (i + 1) in_set old new next
IsPassing-keep join i in_set old now new progress next rule passing lt read keeps same_flags same_progress =
    let here : IsPassing join (i + 1) in_set old now progress = record {
      marking = passing.marking;
      shrinks = passing.shrinks;
      so_far = keep_progress progress join.rules i rule in_set old now lt read keeps passing.so_far;
    } in
    rw (same_flags, same_progress) here

pub IsPassing-mark : (join : Rules) (i : ℕ) (in_set old now new : List Bool) (progress next : Progress) (rule : GroundRule) (a : ℕ) → IsPassing join i in_set old now progress → i < length join.rules → rule ≡ get_or join.rules i rule → All (IsRuleOver (length old)) join.rules → length now ≡ length old → AsksFor (flag_at in_set) (flag_at now) rule a → new ≡ set now a true → next ≡ Marked → IsPassing join (i + 1) in_set old new next
IsPassing-mark join i in_set old now new progress next rule a passing lt read over same_length asks marks is_marked =
    let P : GroundRule → Type 0 = λ r. IsRuleOver (length old) r in
    let here : IsRuleOver (length old) rule = subst P (sym read) (over i rule lt) in
    let in_range : a < length now = omega (arith, asked_in_range (length old) (flag_at in_set) (flag_at now) rule a here asks) in
    let fewer = unmarked_count-mark now a in_range asks.lacks in
    let after : IsPassing join (i + 1) in_set old (set now a true) Marked = record {
      marking = IsMarking-mark join (flag_at in_set) now i rule a lt read in_range passing.marking asks;
      shrinks = omega (arith, passing.shrinks);
      so_far = omega (arith, passing.shrinks);
    } in
    rw (marks, is_marked) after
