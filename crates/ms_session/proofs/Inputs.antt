-- What assigning and releasing an atom by its term say of an open session.
use Rattle.std.proofs.Common.{◌≡◌, ℕ, refl, sym, subst, ap, ◌∙◌, Option, Some, None}
use Rattle.std.specs.List.{Contains}
use Rattle.std.proofs.lemmas.Option.{get_or_from_slice_get, slice_get_within}
use Rattle.ms_base.specs.declared.truth.Truth.{Truth}
use Rattle.ms_base.specs.declared.truth.Effect.TheVariants.{Done, NoEffect as nothing}
use Rattle.ms_tree.specs.Tree.{Tree}
use Rattle.ms_grammar.specs.declared.value.Value.{Value}
use Rattle.ms_call.specs.declared.command.Command.{Command}
use Rattle.ms_call.specs.declared.command.Command.TheVariants.{Assign, Release}
use Rattle.ms_join.specs.Modules.{Join, IsInput, value_of}
use Rattle.ms_module.specs.Inputs.{Assigns, Releases}
use Rattle.ms_value.specs.Naming.{Keeps}
use Rattle.ms_value.proofs.Tables.{keeps_same}
use Rattle.ms_solving.specs.Listing.{tree_of_value}
use Rattle.ms_machine.specs.Machine.{Answers, IsInputNamed, Logs}
use Rattle.ms_machine.specs.Replies.{assigned, no_effect, released}
use Rattle.ms_machine.specs.declared.reply.Reply.TheVariants.{Assigned, NoEffect, Released}
use Rattle.ms_session.specs.declared.open_session.Open.{Open}
use Rattle.ms_complete.specs.Numbering.{Numbering}
use Rattle.ms_session.specs.Fitting.{IsToldAlike}
use Rattle.ms_session.specs.Kept.{IsAtomOf, IsNumberOf}
use Rattle.ms_session.specs.Opened.{IsReady, IsStep, IsWhole, names_of, state_in}

-- nothing happened
unchanged : (o : Open) (command : Command) → IsWhole o → Answers (state_in o) command no_effect (state_in o) → Logs (state_in o) command no_effect o.notes (state_in o)
    → IsStep o command o NoEffect
unchanged o command whole answers logs = record { answers = answers; logs = logs; whole = whole; named = tt; keeps = keeps_same o.terms }

-- no atom has the term
none_named : (o : Open) (t : Tree) (number : Option ℕ) → number ≡ None → IsNumberOf (names_of o) t number → (a : ℕ) → ¬ IsInputNamed (state_in o) t a
none_named o t number is found a input =
    let missing : ¬ Contains (names_of o) t = subst (λ (n : Option ℕ). IsNumberOf (names_of o) t n) is found in
    missing (a, slice_get_within (names_of o) a t input.named, get_or_from_slice_get (names_of o) a t t input.named)

-- the atom that has the term is no input
no_input_named : (o : Open) (t : Tree) (a : ℕ) → IsAtomOf (names_of o) t a → ¬ IsInput o.join a → (b : ℕ) → ¬ IsInputNamed (state_in o) t b
no_input_named o t a atom none b input = none (subst (IsInput o.join) (atom.only b input.named) input.input)

some_number : (o : Open) (t : Tree) (number : Option ℕ) (a : ℕ) → number ≡ Some a → IsNumberOf (names_of o) t number → IsAtomOf (names_of o) t a
some_number o t number a is found = subst (λ (n : Option ℕ). IsNumberOf (names_of o) t n) is found

-- a join that stays is none that changed
same_open : (old new : Open) → new ≡ record old { join = new.join } → new.join ≡ old.join → new ≡ old
same_open old new rest same = rest ∙ ap (λ (j : Join). record old { join = j }) same

module _ (old : Open) (atom : Value) (number : Option ℕ) (ready : IsReady old) (found : IsNumberOf (names_of old) (tree_of_value atom) number) where
  pub unknown_assigned : (truth : Truth) → number ≡ None → IsStep old (Assign atom truth) old NoEffect
  unknown_assigned truth is = unchanged old (Assign atom truth) ready.whole (none_named old (tree_of_value atom) number is found, refl) (ready.silent, refl, refl)

  pub unknown_released : number ≡ None → IsStep old (Release atom) old NoEffect
  unknown_released is = unchanged old (Release atom) ready.whole (none_named old (tree_of_value atom) number is found, refl) (ready.silent, refl, refl)

  module _ (new : Open) (a : ℕ) (is : number ≡ Some a) (still : IsWhole new) where
    here : IsAtomOf (names_of old) (tree_of_value atom) a
    here = some_number old (tree_of_value atom) number a is found

    module _ (rest : new ≡ record old { join = new.join }) where
      pub is_assigned : (truth : Truth) → Assigns old.join a (value_of truth) new.join Done → IsStep old (Assign atom truth) new Assigned
      is_assigned truth h = record {
        answers = subst (λ (o : Open). Answers (state_in old) (Assign atom truth) assigned (state_in o)) (sym rest)
            ((a, record { named = here.there; input = h.0 }, h.1), refl, refl);
        logs = subst (λ (o : Open). Logs (state_in old) (Assign atom truth) assigned o.notes (state_in o)) (sym rest) (ready.silent, refl, refl);
        whole = still;
        named = tt;
        keeps = subst (λ (o : Open). Keeps old.terms o.terms) (sym rest) (keeps_same old.terms);
      }

      pub not_assigned : (truth : Truth) → Assigns old.join a (value_of truth) new.join nothing → IsStep old (Assign atom truth) new NoEffect
      not_assigned truth h =
          subst (λ (o : Open). IsStep old (Assign atom truth) o NoEffect) (sym (same_open old new rest h.1))
          (unchanged old (Assign atom truth) ready.whole (no_input_named old (tree_of_value atom) a here h.0, refl) (ready.silent, refl, refl))

    module _ (told : IsToldAlike old.solver new.solver) (rest : new ≡ record old { join = new.join; solver = new.solver }) where
      things_stay : new.solver.knows.numbering.things ≡ old.solver.knows.numbering.things
      things_stay = ap (λ (n : Numbering). n.things) told.numbering

      pub is_released : Releases old.join a new.join Done → IsStep old (Release atom) new Released
      is_released h = record {
        answers = subst (λ (o : Open). Answers (state_in old) (Release atom) released (state_in o)) (sym rest)
            ((a, record { named = here.there; input = h.0 }, h.1), refl, refl);
        logs = subst (λ (o : Open). Logs (state_in old) (Release atom) released o.notes (state_in o)) (sym rest) (ready.silent, things_stay, told.kept);
        whole = still;
        named = tt;
        keeps = subst (λ (o : Open). Keeps old.terms o.terms) (sym rest) (keeps_same old.terms);
      }

      not_released_state : new.join ≡ old.join → state_in new ≡ state_in old
      not_released_state same =
          ap state_in rest
          ∙ (λ i. record { texts = old.parts; names = names_of old; join = same i; things = things_stay i; kept = told.kept i })

      pub not_released : Releases old.join a new.join nothing → IsStep old (Release atom) new NoEffect
      not_released h = record {
        answers = (no_input_named old (tree_of_value atom) a here h.0, not_released_state h.1);
        logs = (ap (λ (o : Open). o.notes) rest ∙ ready.silent, things_stay, told.kept);
        whole = still;
        named = tt;
        keeps = subst (λ (o : Open). Keeps old.terms o.terms) (sym rest) (keeps_same old.terms);
      }
