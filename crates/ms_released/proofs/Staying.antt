-- What is false for good stays so.
use Rattle.std.proofs.Common.{◌≡◌, ◌≢◌, ◌⊎◌, ℕ, ◌+◌, ◌<◌, ◌≤◌, true, List, [], ◌∷◌, ◌++◌, Option, Some, None, get_or, inl, inr, refl, sym, subst, arith}
use Rattle.std.specs.List.{All, Contains, slice_get}
use Rattle.std.specs.Prelude.{IsSomeAnd}
use Rattle.std.proofs.lemmas.List.Elements.{All-append, All-contains}
use Rattle.ms_tree.specs.Tree.{Tree}
use Rattle.ms_core.specs.declared.rule.CoreRule.{CoreRule}
use Rattle.ms_core.specs.declared.rule.RuleKind.{RuleKind}
use Rattle.ms_core.specs.declared.rule.RuleKind.TheVariants.{Normal, Choice, Constraint, External}
use Rattle.ms_call.specs.Items.{Item}
use Rattle.ms_call.specs.declared.command.Call.{Call}
use Rattle.ms_join.specs.declared.ground_module.GroundModule.{GroundModule}
use Rattle.ms_join.specs.declared.ground_rule.GroundKind.{GroundKind}
use Rattle.ms_join.specs.declared.ground_rule.GroundRule.{GroundRule}
use Rattle.ms_join.specs.declared.ground_rule.Input.{Input}
use Rattle.ms_join.specs.Composability.{IsComposable}
use Rattle.ms_join.specs.Modules.{Join, IsInput, IsJoined, IsOutput}
use Rattle.ms_copies.specs.Evaluating.{Chosen}
use Rattle.ms_copies.specs.Grounding.{gives_head, head_under, IsHead}
use Rattle.ms_copies.specs.Simplifying.{ground_kind, IsModule, IsNumbered}
use Rattle.ms_solving.specs.Grounding.{core_of_calls}
use Rattle.ms_machine.specs.Machine.{State, Joins}
use Rattle.ms_machine.specs.Replies.{Output}
use Rattle.ms_machine.specs.Scripts.{Run}
use Rattle.ms_released.specs.Released.{IsFalseForGood}
use Rattle.ms_released.proofs.CoreHeads.{HasHeadByKind, calls_headed}
use Rattle.ms_released.proofs.Names.{at_front}
use Rattle.ms_released.proofs.Sets.{input_from}
use Rattle.ms_released.proofs.Steps.{Grows, Stays, takes_changes}

pub no_new_head : (j : Join) (m : GroundModule) (a : ℕ) → IsFalseForGood j a → IsComposable j m → ¬ Contains m.heads a
no_new_head j m a lies composable head = composable.different a (record { head = head; output = lies.output })

-- ---- inputs

pub record InputOf (inputs : List Input) (a : ℕ) : Type 0 where
  pub input : Input
  pub there : Contains inputs input
  pub atom : input.atom ≡ a

pub input_of : (j : Join) (a : ℕ) → IsInput j a → InputOf j.inputs a
input_of j a (k, x, within, is, atom) = record { input = x; there = (k, within, is); atom = atom }

-- an output stays one where no atom becomes an input
pub output_stays : (old new : Join) → new.atoms ≡ old.atoms → ((i : Input) → Contains new.inputs i → IsInput old i.atom) → (a : ℕ) → IsOutput old a → IsOutput new a
output_stays old new atoms inputs a output = record {
  within = subst (λ n. a < n) (sym atoms) output.within;
  no_input = λ is. let of = input_of new a is in output.no_input (subst (IsInput old) of.atom (inputs of.input of.there));
}

-- an output stays one in a join with a module
pub output_joined : (old new : Join) (m : GroundModule) → IsJoined old m new → (a : ℕ) → IsOutput old a → IsOutput new a
output_joined old new m joined a output = record {
  within = let more : a < old.atoms + m.fresh = (let less : a < old.atoms = output.within in omega arith) in subst (λ n. a < n) (sym joined.atoms) more;
  no_input = λ is.
      let of = input_of new a is in
      elim ((joined.inputs of.input).0 of.there) [
        | inl stays ↦ output.no_input (subst (IsInput old) of.atom (input_from old of.input stays.0))
        | inr comes ↦
            let late : old.atoms ≤ a = subst (λ n. old.atoms ≤ n) of.atom comes.0 in
            let less : a < old.atoms = output.within in
            omega arith
      ];
}

-- and a head of the module becomes one
pub output_from_head : (old new : Join) (m : GroundModule) → IsJoined old m new → (a : ℕ) → a < new.atoms → Contains m.heads a → IsOutput new a
output_from_head old new m joined a within head = record {
  within = within;
  no_input = λ is.
      let of = input_of new a is in
      let there = subst (Contains m.heads) (sym of.atom) head in
      elim ((joined.inputs of.input).0 of.there) [
        | inl stays ↦ stays.1 there
        | inr comes ↦ comes.2 there
      ];
}

-- ---- heads

pub some_and : (P : Tree → Type 0) (o : Option Tree) (t : Tree) → o ≡ Some t → P t → IsSomeAnd o P
some_and P None t is holds = cc
some_and P (Some u) t is holds = let same : u ≡ t = cc in subst P (sym same) holds

-- the term of a number
numbered : (atoms : List Tree) (from : Option Tree) (place : Option ℕ) (h : ℕ) → IsNumbered atoms from place → place ≡ Some h → (t : Tree) × (from ≡ Some t) × (slice_get atoms h ≡ Some t)
numbered atoms None place h is at = cc
numbered atoms (Some t) None h is at = absurd is
numbered atoms (Some t) (Some a) h is at = let same : a ≡ h = cc in (t, refl, subst (λ k. slice_get atoms k ≡ Some t) same is)

-- a rule that a copy with a head leaves is of a kind with heads
gives : (kind : RuleKind) (left : GroundKind) → ground_kind kind ≡ Some left → (kind ≡ Constraint → ⊥) → gives_head kind ≡ true
gives Normal left is other = refl
gives Choice left is other = refl
gives Constraint left is other = absurd (other refl)
gives External left is other = cc

headless : (chosen : Chosen) (rule : CoreRule) (t : Tree) → rule.head ≡ None → head_under chosen rule ≡ Some t → ⊥
headless chosen rule t none is = let without : head_under chosen rule ≡ None = rw none refl in cc

-- the head of a rule of a module is among its heads
pub rule_head : (base : List Tree) (rules : List CoreRule) (names : List Tree) (m : GroundModule) → All HasHeadByKind rules → IsModule base rules names m
    → All (λ rule. (h : ℕ) → rule.head ≡ Some h → Contains m.heads h) m.rules
rule_head base rules names m headed is k d within h head =
    let (i, rule, below, at, (chosen, copy, left)) = is.left.each k d within in
    let (t, under, there) = numbered (base ++ names) (head_under chosen rule) (get_or m.rules k d).head h left.head head in
    let by_kind = All-contains HasHeadByKind rules rule headed (i, below, at) in
    let kind = gives rule.kind (get_or m.rules k d).kind left.kind (λ constraint. headless chosen rule t (by_kind constraint) under) in
    (is.heads.members h).1 (some_and (IsHead rules) (slice_get (base ++ names) h) t there (i, rule, below, at, (kind, (chosen, copy, under))))

pub joined_heads : (old : State) (calls : List Call) (atoms count : ℕ) (new : State) → (joins : Joins old calls atoms count new) → All (λ rule. (h : ℕ) → rule.head ≡ Some h → Contains joins.ground_module.heads h) joins.ground_module.rules
joined_heads old calls atoms count new joins =
    rule_head old.names (core_of_calls old.texts calls) joins.names joins.ground_module (calls_headed old.texts calls) joins.grounds.is_module

-- ---- steps

still : (old new : State) → Stays old new → (a : ℕ) → IsFalseForGood old.join a → IsFalseForGood new.join a
still old new stays a lies = record {
  output = output_stays old.join new.join stays.atoms stays.inputs a lies.output;
  no_rule = subst (All (λ (rule : GroundRule). rule.head ≢ Some a)) (sym stays.rules) lies.no_rule;
}

grown : (old new : State) → Grows old new → (a : ℕ) → IsFalseForGood old.join a → IsFalseForGood new.join a
grown old new grows a lies =
    let m : GroundModule = grows.joins.ground_module in
    record {
      output = output_joined old.join new.join m grows.joins.joined a lies.output;
      no_rule = subst (All (λ (rule : GroundRule). rule.head ≢ Some a)) (sym grows.joins.joined.rules)
          (All-append (λ (rule : GroundRule). rule.head ≢ Some a) old.join.rules m.rules lies.no_rule
          (λ k d within is. no_new_head old.join m a lies grows.joins.composable (joined_heads old grows.calls grows.atoms grows.count new grows.joins k d within a is)));
    }

either_way : (old new : State) → Stays old new ⊎ Grows old new → (a : ℕ) → IsFalseForGood old.join a → IsFalseForGood new.join a
either_way old new (inl stays) a lies = still old new stays a lies
either_way old new (inr grows) a lies = grown old new grows a lies

pub name_stays : (old new : State) → Stays old new ⊎ Grows old new → (a : ℕ) (t : Tree) → slice_get old.names a ≡ Some t → slice_get new.names a ≡ Some t
name_stays old new (inl stays) a t at = subst (λ names. slice_get names a ≡ Some t) (sym stays.names) at
name_stays old new (inr grows) a t at = subst (λ names. slice_get names a ≡ Some t) (sym grows.joins.longer) (at_front old.names grows.joins.names a t at)

pub stays_false : (old new : State) (items : List Item) (outputs : List Output) (a : ℕ) → IsFalseForGood old.join a → Run old items outputs new
    → IsFalseForGood new.join a × ((t : Tree) → slice_get old.names a ≡ Some t → slice_get new.names a ≡ Some t)
unfolding Run
stays_false old new [] [] a lies run = (subst (λ (s : State). IsFalseForGood s.join a) (sym run) lies, λ t at. subst (λ (s : State). slice_get s.names a ≡ Some t) (sym run) at)
stays_false old new (item ∷ items) (output ∷ outputs) a lies (mid, takes, run) =
    let change = takes_changes old item output mid takes in
    let rest = stays_false mid new items outputs a (either_way old mid change a lies) run in
    (rest.0, λ t at. rest.1 t (name_stays old mid change a t at))
stays_false old new [] (output ∷ outputs) a lies run = absurd run
stays_false old new (item ∷ items) [] a lies run = absurd run
