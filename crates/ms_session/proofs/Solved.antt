-- A solve is a step of the machine with its part of the log.
use Rattle.std.proofs.Common.{◌≡◌, ◌∙◌, ℕ, ◌<◌, ◌++◌, List, [], ◌∷◌, length, map, All, refl, sym, ap, append-nil}
use Rattle.std.proofs.lemmas.List.{length-map}
use Rattle.std.proofs.lemmas.List.Elements.{filter_map-append}
use Rattle.ms_term.specs.Terms.{term_at}
use Rattle.ms_call.specs.declared.command.Assumption.{Assumption}
use Rattle.ms_call.specs.declared.command.Command.TheVariants.{Solve}
use Rattle.ms_join.specs.declared.assumption.AtomAsk.{AtomAsk}
use Rattle.ms_join.specs.Sets.{IsAtomSet}
use Rattle.ms_complete.specs.Numbering.{Numbering}
use Rattle.ms_lits.specs.declared.note.Note.{Note}
use Rattle.ms_lits.specs.declared.note.Note.TheVariants.{Finish}
use Rattle.ms_lawful.specs.Lines.{answer_of, answers_in}
use Rattle.ms_lawful.specs.Parts.{kept_by, kept_in, last_of, most_kept}
use Rattle.ms_search.specs.declared.ask.Run.{Run}
use Rattle.ms_search.specs.Runs.{AreAttached, empty_trail}
use Rattle.ms_solver.specs.Laws.{ValuesAreAssumed}
use Rattle.ms_solver.specs.Solves.{CanSolve, Solves as SolverSolves}
use Rattle.ms_solver.specs.States.{Serves, kept_of}
use Rattle.ms_solving.specs.Listing.{IsListing}
use Rattle.ms_solving.specs.Showing.{shows_atom}
use Rattle.ms_machine.specs.Machine.{IsAskOf, LogsSolve}
use Rattle.ms_machine.specs.Replies.{ending_text}
use Rattle.ms_machine.specs.declared.reply.Reply.TheVariants.{Solved}
use Rattle.ms_value.proofs.Tables.{keeps_same}
use Rattle.ms_watch.specs.Watches.{AreInStep, is_attached, state_in as state_of_key}
use Rattle.ms_session.specs.declared.open_session.Open.{Open}
use Rattle.ms_session.specs.Assuming.{IsKnown}
use Rattle.ms_session.specs.Fitting.{Watcher, state_at}
use Rattle.ms_session.specs.Opened.{IsReady, IsStep, names_of, state_in}
use Rattle.ms_session.proofs.Asked.{ask_within, over_base, solves}

-- the last line has no answer and keeps nothing
answers_end : (notes : List Note) (text : List ℕ) → answers_in (notes ++ Finish text ∷ []) ≡ answers_in notes
answers_end notes text = filter_map-append answer_of notes (Finish text ∷ []) ∙ append-nil (answers_in notes)

kept_end : (notes : List Note) (text : List ℕ) → kept_in (notes ++ Finish text ∷ []) ≡ kept_in notes
kept_end notes text = filter_map-append kept_by notes (Finish text ∷ []) ∙ append-nil (kept_in notes)

module _ (o : Open) (next : Watcher) (notes : List Note) (asked limit : ℕ) (assume : List Assumption) (ask : AtomAsk) (ready : IsReady o)
    (is : IsAskOf (state_in o) asked limit assume ask) (known : All (IsKnown (names_of o)) assume) (law : ValuesAreAssumed) where
  serves : Serves o.solver.knows o.join
  serves = ready.whole.fit.serves

  counted : length (names_of o) ≡ o.join.atoms
  counted = length-map o.base (term_at o.terms) ∙ ready.whole.counted

  -- the solver can solve what is asked
  pub can_solve : CanSolve o.solver.knows ask
  can_solve = record { join = o.join; serves = serves; within = ask_within (state_in o) asked limit assume ask is serves.join counted }

  module _ (run : Run) (h : SolverSolves o.join o.solver.knows ask run next.knows) where
    pub sets_over_base : All (IsAtomSet (length o.base)) run.answers
    sets_over_base = over_base (state_in o) asked limit assume ask is known law serves.join run h.lists (length o.base) ready.whole.counted

    module _ (shown : List (List ℕ)) (listed : IsListing (shows_atom o.parts) (names_of o) run.answers (map (map (term_at o.terms)) shown))
        (log : notes ≡ run.notes ++ Finish (ending_text run.ending (length run.answers) limit) ∷ []) where
      text : List ℕ
      text = ending_text run.ending (length run.answers) limit

      logs : LogsSolve (state_in o) asked limit assume run.ending (length run.answers) (map (map (term_at o.terms)) shown) notes (state_at o.terms o.parts o.base o.join next)
      unfolding text
      logs = record {
        ask = ask;
        is_ask = is;
        numbers = o.solver.knows.atoms;
        numbered = serves.atoms;
        start = h.log.start;
        demands = h.log.demands;
        part = record {
          ordered = h.log.demands.ordered;
          lines = h.log.lines;
          whole = log ∙ ap (λ (ns : List Note). ns ++ Finish text ∷ []) h.log.notes;
          lawful = h.log.lawful;
          ends = h.log.ends;
        };
        sets = run.answers;
        answers = ap answers_in log ∙ answers_end run.notes text ∙ ap answers_in h.log.notes ∙ h.log.answers;
        listed = listed;
        things = ap (λ (n : Numbering). n.things) h.numbering;
        kept = h.kept ∙ ap (λ ns. last_of most_kept (kept_of o.solver.knows) ++ ns) (sym (ap kept_in log ∙ kept_end run.notes text));
      }

      -- a solve is a step of the open session
      pub solve_step : AreAttached (λ key. is_attached (state_of_key next.search.propagation.keys key)) next.knows.store
          → AreInStep next.search.propagation next.knows.store (empty_trail next.search.room) → All (All (λ t. t < length o.terms)) shown
          → IsStep o (Solve asked limit assume) (record o { solver = next; notes = notes }) (Solved run.ending (length run.answers) limit shown)
      solve_step attached in_step named = record {
        answers = (
          solves (state_in o) asked limit assume ask is known law serves.join run h.lists (shows_atom o.parts) (map (map (term_at o.terms)) shown) listed,
          refl,
          refl,
          refl,
          refl,
        );
        logs = logs;
        whole = record {
          named = ready.whole.named;
          counted = ready.whole.counted;
          few = ready.whole.few;
          fit = record { serves = h.serves; attached = attached; in_step = in_step };
          names = ap (λ (n : Numbering). n.names) h.numbering ∙ ready.whole.names;
        };
        named = named;
        keeps = keeps_same o.terms;
      }
