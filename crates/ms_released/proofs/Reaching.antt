-- What holds of each state that a run from the start reaches.
use Rattle.std.proofs.Common.{◌≡◌, ◌∙◌, ◌⊎◌, ℕ, ◌<◌, zero, suc, List, [], ◌∷◌, ◌++◌, Some, length, length-append, inl, inr, refl, sym, subst, ap, arith}
use Rattle.std.specs.List.{All, slice_get}
use Rattle.std.specs.Prelude.{IsSomeAnd}
use Rattle.std.proofs.lemmas.List.Elements.{All-append}
use Rattle.std.proofs.lemmas.Option.{slice_get_within}
use Rattle.ms_tree.specs.Tree.{Tree}
use Rattle.ms_grammar.specs.declared.value.Value.{Value}
use Rattle.ms_call.specs.Items.{Item}
use Rattle.ms_call.specs.declared.command.Command.{Command}
use Rattle.ms_call.specs.declared.command.Command.TheVariants.{Release}
use Rattle.ms_join.specs.declared.ground_module.GroundModule.{GroundModule}
use Rattle.ms_join.specs.declared.ground_rule.GroundRule.{GroundRule}
use Rattle.ms_join.specs.Modules.{IsInput, IsOutput, IsReleased}
use Rattle.ms_copies.specs.Grounding.{IsHead}
use Rattle.ms_solving.specs.Grounding.{core_of_calls}
use Rattle.ms_solving.specs.Listing.{tree_of_value}
use Rattle.ms_machine.specs.Machine.{State, start, IsInputNamed, Answers}
use Rattle.ms_machine.specs.Replies.{Output, Reply, released}
use Rattle.ms_machine.specs.Scripts.{Run}
use Rattle.ms_released.specs.Released.{IsFalseForGood, IsReached, IsTheOne}
use Rattle.ms_released.proofs.Names.{HasEachOnce, each_once_in_both, each_once_in_order}
use Rattle.ms_released.proofs.Staying.{input_of, joined_heads, output_from_head, output_joined, output_stays}
use Rattle.ms_released.proofs.Steps.{Grows, Stays, changes, takes_changes}

-- Each atom has a term, no two have the same, and the head of each rule is an output.
pub record IsOrderly (s : State) : Type 0 where
  pub counted : length s.names ≡ s.join.atoms
  pub each_once : HasEachOnce s.names
  pub heads : All (λ rule. (h : ℕ) → rule.head ≡ Some h → IsOutput s.join h) s.join.rules

pub orderly_start : IsOrderly start
orderly_start = record {
  counted = refl;
  each_once = λ a b t at_a at_b. cc;
  heads = λ k d within. absurd (omega arith);
}

orderly_still : (old new : State) → Stays old new → IsOrderly old → IsOrderly new
orderly_still old new stays is = record {
  counted = ap length stays.names ∙ is.counted ∙ sym stays.atoms;
  each_once = subst HasEachOnce (sym stays.names) is.each_once;
  heads = subst (All (λ (rule : GroundRule). (h : ℕ) → rule.head ≡ Some h → IsOutput new.join h)) (sym stays.rules)
      (λ k d within h head. output_stays old.join new.join stays.atoms stays.inputs h (is.heads k d within h head));
}

pub within_names : (names : List Tree) (P : Tree → Type 0) (a : ℕ) → IsSomeAnd (slice_get names a) P → a < length names
within_names [] P a is = absurd is
within_names (x ∷ xs) P zero is = omega arith
within_names (x ∷ xs) P (suc a) is = let rest = within_names xs P a is in omega arith

orderly_grown : (old new : State) → Grows old new → IsOrderly old → IsOrderly new
orderly_grown old new grows is =
    let m : GroundModule = grows.joins.ground_module in
    let module_is = grows.joins.grounds.is_module in
    let counted : length (old.names ++ grows.joins.names) ≡ new.join.atoms =
    omega (arith, length-append old.names grows.joins.names, is.counted, module_is.fresh, grows.joins.joined.atoms) in
    record {
      counted = ap length grows.joins.longer ∙ counted;
      each_once = subst HasEachOnce (sym grows.joins.longer)
          (each_once_in_both old.names grows.joins.names is.each_once (each_once_in_order grows.joins.names module_is.new.rising) (λ t new_one. ((module_is.new.members t).0 new_one).1));
      heads = subst (All (λ (rule : GroundRule). (h : ℕ) → rule.head ≡ Some h → IsOutput new.join h)) (sym grows.joins.joined.rules)
          (All-append (λ (rule : GroundRule). (h : ℕ) → rule.head ≡ Some h → IsOutput new.join h) old.join.rules m.rules
          (λ k d within h head. output_joined old.join new.join m grows.joins.joined h (is.heads k d within h head))
          (λ k d within h head.
          let among = joined_heads old grows.calls grows.atoms grows.count new grows.joins k d within h head in
          let below = within_names (old.names ++ grows.joins.names) (IsHead (core_of_calls old.texts grows.calls)) h ((module_is.heads.members h).0 among) in
          output_from_head old.join new.join m grows.joins.joined h (subst (λ n. h < n) counted below) among));
    }

pub orderly_after : (old new : State) → Stays old new ⊎ Grows old new → IsOrderly old → IsOrderly new
orderly_after old new (inl stays) is = orderly_still old new stays is
orderly_after old new (inr grows) is = orderly_grown old new grows is

pub orderly_step : (old new : State) (c : Command) (reply : Reply) → IsOrderly old → Answers old c reply new → IsOrderly new
orderly_step old new c reply is step = orderly_after old new (changes old c reply new step) is

pub orderly_run : (old new : State) (items : List Item) (outputs : List Output) → IsOrderly old → Run old items outputs new → IsOrderly new
unfolding Run
orderly_run old new [] [] is run = subst IsOrderly (sym run) is
orderly_run old new (item ∷ items) (output ∷ outputs) is (mid, takes, run) = orderly_run mid new items outputs (orderly_after old mid (takes_changes old item output mid takes) is) run
orderly_run old new [] (output ∷ outputs) is run = absurd run
orderly_run old new (item ∷ items) [] is run = absurd run

pub orderly_reached : (s : State) → IsReached s → IsOrderly s
orderly_reached s reached = orderly_run start s reached.items reached.outputs orderly_start reached.run

-- the head of no rule is an input
no_rule_of : (s : State) (a : ℕ) → IsOrderly s → IsInput s.join a → All (λ rule. rule.head ≡ Some a → ⊥) s.join.rules
no_rule_of s a is input k d within head = (is.heads k d within a head).no_input input

released_one : (old new : State) (t : Tree) (a : ℕ) → IsOrderly old → IsInputNamed old t a → IsReleased old.join a new.join → new.names ≡ old.names
    → IsTheOne new.names t a × IsFalseForGood new.join a
released_one old new t a is named out names = (
  record {
    named = subst (λ ns. slice_get ns a ≡ Some t) (sym names) named.named;
    only = λ b at. is.each_once b a t (subst (λ ns. slice_get ns b ≡ Some t) names at) named.named;
  },
  record {
    output = record {
      within =
          let below : a < length old.names = slice_get_within old.names a t named.named in
          subst (λ n. a < n) (is.counted ∙ sym out.atoms) below;
      no_input = λ has. let of = input_of new.join a has in ((out.inputs of.input).0 of.there).1 of.atom;
    };
    no_rule = subst (All (λ (rule : GroundRule). rule.head ≡ Some a → ⊥)) (sym out.rules) (no_rule_of old a is named.input);
  },
)

pub release_is_for_good : (old new : State) (atom : Value) → IsReached old → Answers old (Release atom) released new
    → (a : ℕ) × IsTheOne new.names (tree_of_value atom) a × IsFalseForGood new.join a
release_is_for_good old new atom reached ((a, named, out), texts, names) =
    let both = released_one old new (tree_of_value atom) a (orderly_reached old reached) named out names in
    (a, both.0, both.1)
