-- The first state, and steps of an open session that change the texts alone.
use Rattle.std.proofs.Common.{◌≡◌, ℕ, List, [], ◌∷◌, length, map, arith, refl, sym, subst, Result, Ok, Err}
use Rattle.std.specs.Prelude.{IfOk}
use Rattle.ms_base.specs.declared.memory.OutOfMemory.{OutOfMemory}
use Rattle.ms_tree.specs.Tree.{Tree}
use Rattle.ms_join.specs.Modules.{Join, no_join}
use Rattle.ms_join.specs.Things.{Thing, IsThing, IsThingOf}
use Rattle.ms_join.specs.Things.Thing.{atom, body, tuple, aggregate}
use Rattle.ms_things.specs.Numbers.{AreThings}
use Rattle.ms_term.specs.Terms.{term_at}
use Rattle.ms_complete.proofs.Lists.{any_none}
use Rattle.ms_call.specs.declared.command.Command.{Command}
use Rattle.ms_core.specs.Texts.{Texts, no_texts}
use Rattle.ms_machine.specs.declared.reply.Reply.{Reply}
use Rattle.ms_lits.specs.declared.note.Note.{Note}
use Rattle.ms_machine.specs.Machine.{Logs, start}
use Rattle.ms_machine.specs.Replies.{said_by}
use Rattle.ms_value.proofs.Tables.{keeps_same}
use Rattle.ms_session.specs.declared.open_session.Open.{Open}
use Rattle.ms_search.specs.Runs.{AreAttached, empty_trail}
use Rattle.ms_solver.specs.States.{Serves, kept_of}
use Rattle.ms_watch.specs.Watches.{AreInStep, is_attached, state_in as state_of_key}
use Rattle.ms_session.specs.Fitting.{IsSound, Watcher, state_at}
use Rattle.ms_session.specs.Opened.{IsReady, IsStep, state_in}
use Rattle.ms_session.specs.Steps.{StepsTexts}

-- a step of the texts is one of the open session
pub texts_step : (o : Open) (new : Texts) (command : Command) (r : Result Reply OutOfMemory) → IsReady o → IfOk r (StepsTexts o.parts command new)
    → IfOk r (IsStep o command (record o { parts = new }))
texts_step o new command (Ok reply) ready h = record {
  answers = h.step o.terms o.base o.join o.solver.knows.numbering.things (kept_of o.solver.knows);
  logs = subst (λ (notes : List Note). Logs (state_in o) command (said_by o.terms reply) notes (state_in (record o { parts = new }))) (sym ready.silent) (h.logs o.terms o.base o.join o.solver.knows.numbering.things (kept_of o.solver.knows));
  whole = ready.whole;
  named = h.named (length o.terms);
  keeps = keeps_same o.terms;
}
texts_step o new command (Err e) ready h = tt

-- before the first command there are no things
no_thing : (t : Thing) → ¬ IsThing 0 [] t
no_thing (atom a) less = absurd (omega (arith, less))
no_thing (body b) some = any_none (λ rule. IsThingOf rule (body b)) some
no_thing (tuple t) some = any_none (λ rule. IsThingOf rule (tuple t)) some
no_thing (aggregate g) some = any_none (λ rule. IsThingOf rule (aggregate g)) some

no_things : (things : List Thing) → AreThings no_join things → things ≡ []
no_things [] are = refl
no_things (t ∷ things) are = absurd (no_thing t ((are.exactly t).0 (0, omega arith, refl)))

no_names : (names : List ℕ) → length names ≡ 0 → names ≡ []
no_names [] none = refl
no_names (name ∷ names) none = absurd (omega (arith, none))

module _ (table : List Tree) (texts : Texts) (base : List ℕ) (join : Join) (solver : Watcher) (b : base ≡ []) (j : join ≡ no_join) (serves : Serves solver.knows no_join) where
  pub whole_first : AreAttached (λ key. is_attached (state_of_key solver.search.propagation.keys key)) solver.knows.store
      → AreInStep solver.search.propagation solver.knows.store (empty_trail solver.search.room) → IsSound table base join solver
  whole_first attached in_step =
      subst (λ (x : List ℕ). IsSound table x join solver) (sym b)
      (subst (λ (x : Join). IsSound table [] x solver) (sym j) (record {
        named = λ k d within. absurd (omega (arith, within));
        counted = refl;
        few = omega arith;
        fit = record { serves = serves; attached = attached; in_step = in_step };
        names = no_names solver.knows.numbering.names serves.named;
      }))

  pub start_first : texts ≡ no_texts → kept_of solver.knows ≡ [] → state_at table texts base join solver ≡ start
  start_first t kept =
      let things : solver.knows.numbering.things ≡ [] = no_things solver.knows.numbering.things serves.of.are in
      λ i. record { texts = t i; names = map (term_at table) (b i); join = j i; things = things i; kept = kept i }
