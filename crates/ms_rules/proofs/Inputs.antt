-- The inputs that are facts, after some of them are marked.
use Rattle.std.proofs.Common.{◌≡◌, ◌+◌, ◌<◌, ℕ, Bool, true, false, IsTrue, List, [], Option, Some, None, All, length, get_or, set, take, subst, sym, arith}
use Rattle.std.proofs.lemmas.Bool.{both_ways}
use Rattle.std.proofs.lemmas.List.{get_or-take, get_or-set_same, length-take-le}
use Rattle.std.proofs.lemmas.List.Elements.{All-more}
use Rattle.ms_join.specs.declared.ground_rule.Input.{Input}
use Rattle.ms_join.specs.declared.ground_rule.Rules.{Rules}
use Rattle.ms_join.specs.AnswerSets.{KeepsInput}
use Rattle.ms_rules.specs.Flags.{flag_at}
use Rattle.ms_rules.specs.LeastModel.{AreMarked, IsFact, IsMarking}
use Rattle.ms_rules.proofs.LeastModel.{inputs_stay, mark_within}

pub AreMarked-none : (by : ℕ → Bool) (flags : List Bool) → ((a : ℕ) → flag_at flags a ≡ false) → AreMarked [] by (flag_at flags)
AreMarked-none by flags none = record {
  kept = λ k d short. absurd (omega arith);
  least = λ other kept a marked. absurd (both_ways (flag_at flags a) (none a) marked);
}

-- an input that is a fact is in each set that has what the inputs ask for
fact_in_models : (by other : ℕ → Bool) (a : ℕ) (value : Option Bool) → IsFact by a value → KeepsInput by other a value → IsTrue (other a)
fact_in_models by other a (Some true) fact keeps = keeps
fact_in_models by other a (Some false) fact keeps = absurd fact
fact_in_models by other a None fact keeps = keeps fact

marked_is_kept : (by of : ℕ → Bool) (a : ℕ) (value : Option Bool) → IsTrue (of a) → KeepsInput by of a value
marked_is_kept by of a (Some true) has = has
marked_is_kept by of a (Some false) has = tt
marked_is_kept by of a None has = λ here. has

no_fact_is_kept : (by of : ℕ → Bool) (a : ℕ) (value : Option Bool) → ¬ (IsFact by a value) → KeepsInput by of a value
no_fact_is_kept by of a (Some true) fails = absurd (fails tt)
no_fact_is_kept by of a (Some false) fails = tt
no_fact_is_kept by of a None fails = λ here. absurd (fails here)

-- what holds of one more holds of those before it, and of the last
fewer : (P : Input → Type 0) (inputs : List Input) (i : ℕ) → i < length inputs → All P (take (i + 1) inputs) → All P (take i inputs)
fewer P inputs i lt kept k d short =
    let here : k < i = omega (arith, length-take-le i inputs (omega arith)) in
    let more : k < length (take (i + 1) inputs) = omega (arith, length-take-le (i + 1) inputs (omega arith)) in
    rw (get_or-take i inputs k d here, ← get_or-take (i + 1) inputs k d (omega arith)) (kept k d more)

last_of : (P : Input → Type 0) (inputs : List Input) (i : ℕ) (d : Input) → i < length inputs → All P (take (i + 1) inputs) → P (get_or inputs i d)
last_of P inputs i d lt kept =
    let more : i < length (take (i + 1) inputs) = omega (arith, length-take-le (i + 1) inputs (omega arith)) in
    rw (← get_or-take (i + 1) inputs i d (omega arith)) (kept i d more)

pub AreMarked-mark : (inputs : List Input) (by : ℕ → Bool) (flags new : List Bool) (i : ℕ) (input : Input) (a : ℕ) → i < length inputs → input ≡ get_or inputs i input → input.atom < length flags → (a ≡ input.atom) × IsFact by a input.value → new ≡ set flags a true → AreMarked (take i inputs) by (flag_at flags) → AreMarked (take (i + 1) inputs) by (flag_at new)
AreMarked-mark inputs by flags new i input a lt read in_range fact is marked =
    let now = flag_at (set flags input.atom true) in
    let P : Input → Type 0 = λ j. KeepsInput by now j.atom j.value in
    let here : IsTrue (now input.atom) = get_or-set_same flags input.atom true false in_range in
    let after : AreMarked (take (i + 1) inputs) by now = record {
      kept = All-more P inputs i input lt (inputs_stay by flags input.atom in_range (take i inputs) marked.kept) (subst P read (marked_is_kept by now input.atom input.value here));
      least = λ other kept.
          let Q : Input → Type 0 = λ j. KeepsInput by other j.atom j.value in
          let last : Q input = subst Q (sym read) (last_of Q inputs i input lt kept) in
          mark_within other flags input.atom (marked.least other (fewer Q inputs i lt kept)) (fact_in_models by other input.atom input.value (subst (λ b. IsFact by b input.value) fact.0 fact.1) last);
    } in
    rw (is, fact.0) after

pub AreMarked-keep : (inputs : List Input) (by : ℕ → Bool) (flags new : List Bool) (i : ℕ) (input : Input) → i < length inputs → input ≡ get_or inputs i input → ¬ (IsFact by input.atom input.value) → new ≡ flags → AreMarked (take i inputs) by (flag_at flags) → AreMarked (take (i + 1) inputs) by (flag_at new)
AreMarked-keep inputs by flags new i input lt read fails is marked =
    let of = flag_at flags in
    let P : Input → Type 0 = λ j. KeepsInput by of j.atom j.value in
    let after : AreMarked (take (i + 1) inputs) by of = record {
      kept = All-more P inputs i input lt marked.kept (subst P read (no_fact_is_kept by of input.atom input.value fails));
      least = λ other kept. marked.least other (fewer (λ j. KeepsInput by other j.atom j.value) inputs i lt kept);
    } in
    rw is after

-- marks of the inputs are within the models
pub IsMarking-inputs : (join : Rules) (by of : ℕ → Bool) (inputs : List Input) → inputs ≡ join.inputs → AreMarked inputs by of → IsMarking join by of
IsMarking-inputs join by of inputs is marked =
    let here : AreMarked join.inputs by of = rw is at marked in
    record { inputs = here.kept; within = record { within = λ other model. here.least other model.inputs } }
