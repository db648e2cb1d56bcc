-- What a step does to a state: the join stays but for its inputs, or it is joined with a module.
use Rattle.std.proofs.Common.{◌≡◌, ◌⊎◌, ℕ, Bool, List, Option, inl, inr, sym, subst, ap}
use Rattle.std.specs.List.{Contains}
use Rattle.ms_call.specs.Items.{Item, command, bad_line}
use Rattle.ms_call.specs.declared.command.Call.{Call}
use Rattle.ms_call.specs.declared.command.Command.{Command}
use Rattle.ms_call.specs.declared.command.Command.TheVariants.{Add, Ground, Assign, Release, Solve}
use Rattle.ms_join.specs.declared.ground_rule.Input.{Input}
use Rattle.ms_join.specs.Modules.{Join, IsAssigned, IsInput, IsReleased, value_of}
use Rattle.ms_machine.specs.declared.reply.Refusal.TheVariants.{Syntax, Const, Later, TooLarge, TooMany, Redefined, CrossLoop, RecursiveAggregate}
use Rattle.ms_machine.specs.Machine.{State, Joins, Answers}
use Rattle.ms_machine.specs.Replies.{Output, Reply, added, grounded, assigned, released, no_effect, solved, refused}
use Rattle.ms_machine.specs.Scripts.{Takes}
use Rattle.ms_released.proofs.Sets.{input_from}

-- The atoms and the rules stay, and no atom becomes an input.
pub record Stays (old new : State) : Type 0 where
  pub names : new.names ≡ old.names
  pub atoms : new.join.atoms ≡ old.join.atoms
  pub rules : new.join.rules ≡ old.join.rules
  pub inputs : (i : Input) → Contains new.join.inputs i → IsInput old.join i.atom

-- A module was joined.
pub record Grows (old new : State) : Type 0 where
  pub calls : List Call
  pub atoms : ℕ
  pub count : ℕ
  pub joins : Joins old calls atoms count new

pub same_join : (old new : State) → new.names ≡ old.names → new.join ≡ old.join → Stays old new
same_join old new names join = record {
  names = names;
  atoms = ap (λ (j : Join). j.atoms) join;
  rules = ap (λ (j : Join). j.rules) join;
  inputs = λ i has. input_from old.join i (subst (λ (j : Join). Contains j.inputs i) join has);
}

pub same : (old new : State) → new ≡ old → Stays old new ⊎ Grows old new
same old new is = inl (same_join old new (ap (λ (s : State). s.names) is) (ap (λ (s : State). s.join) is))

pub stays_assigned : (old new : State) (a : ℕ) (value : Option Bool) → IsAssigned old.join a value new.join → new.names ≡ old.names → Stays old new
stays_assigned old new a value is names = record {
  names = names;
  atoms = is.atoms;
  rules = is.rules;
  inputs = λ i has. elim ((is.inputs i).0 has) [
    | inl before ↦ input_from old.join i before.0
    | inr set_now ↦ subst (IsInput old.join) (sym (ap (λ (x : Input). x.atom) set_now.1)) set_now.0
  ];
}

pub stays_released : (old new : State) (a : ℕ) → IsReleased old.join a new.join → new.names ≡ old.names → Stays old new
stays_released old new a is names = record {
  names = names;
  atoms = is.atoms;
  rules = is.rules;
  inputs = λ i has. input_from old.join i ((is.inputs i).0 has).0;
}

pub changes : (old : State) (c : Command) (reply : Reply) (new : State) → Answers old c reply new → Stays old new ⊎ Grows old new
changes old (Add text) (added count) new h = inl (same_join old new (ap (λ (s : State). s.names) h.4) (ap (λ (s : State). s.join) h.4))
changes old (Add text) (refused (Syntax line)) new h = same old new h.1
changes old (Add text) (refused (Const line)) new h = same old new h.3
changes old (Ground calls) (grounded atoms count) new h = inr (record { calls = calls; atoms = atoms; count = count; joins = h })
changes old (Ground calls) (refused Later) new h = same old new h.1
changes old (Ground calls) (refused TooLarge) new h = same old new h.2
changes old (Ground calls) (refused TooMany) new h = same old new h.1
changes old (Ground calls) (refused (Redefined atom)) new h = same old new h.1
changes old (Ground calls) (refused (CrossLoop new_head other)) new h = same old new h.1
changes old (Ground calls) (refused (RecursiveAggregate atom)) new h = same old new h.1
changes old (Assign atom truth) assigned new ((a, named, is), texts, names) = inl (stays_assigned old new a (value_of truth) is names)
changes old (Assign atom truth) no_effect new h = same old new h.1
changes old (Release atom) released new ((a, named, is), texts, names) = inl (stays_released old new a is names)
changes old (Release atom) no_effect new h = same old new h.1
changes old (Solve asked limit assume) (solved ending count most listing) new (solves, most_is, texts, names, join) = inl (same_join old new names join)
changes old c reply new h = absurd h

-- the same of an item of a script
pub takes_changes : (old : State) (item : Item) (output : Output) (new : State) → Takes old item output new → Stays old new ⊎ Grows old new
takes_changes old (command c) output new h = changes old c output.reply new h.answers
takes_changes old bad_line output new h = same old new h.1
