-- The notes of the numbered things are lines of the machine's log.
use Rattle.std.proofs.Common.{◌≡◌, ◌∙◌, ◌++◌, ◌<◌, ℕ, List, [], ◌∷◌, All, length, map, drop, sym, ap, subst}
use Rattle.std.specs.List.{AllZip}
use Rattle.std.proofs.Math.Seq.{drop-append_seam}
use Rattle.ms_tree.specs.Tree.{Tree}
use Rattle.ms_term.specs.Terms.{term_at}
use Rattle.ms_lits.specs.declared.note.Note.{Note}
use Rattle.ms_join.specs.declared.ground_module.GroundModule.{GroundModule}
use Rattle.ms_join.specs.Composability.{IsComposable}
use Rattle.ms_join.specs.Modules.{Join, IsJoin, IsJoined, IsWellFormed}
use Rattle.ms_join.specs.Things.{Thing}
use Rattle.ms_join.specs.Things.Thing.{atom, body, tuple, aggregate}
use Rattle.ms_things.specs.Numbers.{AreThings}
use Rattle.ms_complete.specs.Numbering.{Numbering}
use Rattle.ms_complete.specs.Notes.{Tells as TellsBy}
use Rattle.ms_complete.proofs.Lists.{at_map}
use Rattle.ms_machine.specs.Logging.{Tells}
use Rattle.ms_search.specs.Runs.{AreAttached, empty_trail}
use Rattle.ms_solver.specs.Extending.{KeepsNumbers}
use Rattle.ms_solver.specs.States.{CanExtend, Joins, Serves, kept_of}
use Rattle.ms_watch.specs.Watches.{AreInStep, is_attached, state_in as state_of_key}
use Rattle.ms_session.specs.Declaring.{DeclaresNew}
use Rattle.ms_session.specs.Fitting.{Watcher}
use Rattle.ms_session.specs.Joining.{IsGrownOver}

module _ (n : Numbering) (table : List Tree) where
  told : (t : Thing) (note : Note) → TellsBy n table t note → Tells (map (term_at table) n.names) n.things t note
  told (atom a) note (name, named, is) = (term_at table name, at_map (term_at table) n.names a name named, is)
  told (body b) note (line, of, is) = (line, record { in_order = of.in_order; of_signs = of.says.each; whole = of.says.all }, is)
  told (tuple t) note h = absurd h
  told (aggregate g) note h = absurd h

  all_told : (things : List Thing) (notes : List Note) → AllZip (TellsBy n table) things notes → AllZip (Tells (map (term_at table) n.names) n.things) things notes
  all_told [] [] h = h
  all_told (t ∷ things) (note ∷ notes) h = (told t note h.0, all_told things notes h.1)
  all_told [] (note ∷ notes) h = absurd h
  all_told (t ∷ things) [] h = absurd h

module _ (base : List ℕ) (join : Join) (old : Watcher) (m : GroundModule) (grown : IsGrownOver join old base m) (formed : IsWellFormed join.atoms m) where
  -- the solver can take the module
  pub can_extend : CanExtend old.knows m
  can_extend = record { join = join; serves = grown.fit.serves; well_formed = formed }

  -- the names of the atoms are those of the base
  pub names_within : (size : ℕ) → All (λ t. t < size) base → All (λ t. t < size) (old.knows.numbering.names ++ m.names)
  names_within size named = subst (λ (names : List ℕ). All (λ t. t < size) names) grown.grown named

  module _ (table : List Tree) (joined : Join) (new : Watcher) (composable : IsComposable join m) (is : IsJoined join m joined) (is_join : IsJoin joined)
      (numbers : KeepsNumbers m old.knows.numbering new.knows.numbering)
      (serves : (j other : Join) → Serves old.knows j → Joins j m other → Serves new.knows other) where
    still : Serves new.knows joined
    still = serves join joined grown.fit.serves (record { well_formed = formed; composable = composable; joined = is; join = is_join })

    same_names : new.knows.numbering.names ≡ base
    same_names = numbers.names ∙ sym grown.grown

    -- what a solver that took the module declares
    pub declares : (notes : List Note) → kept_of new.knows ≡ kept_of old.knows
        → AreAttached (λ key. is_attached (state_of_key new.search.propagation.keys key)) new.knows.store
        → AreInStep new.search.propagation new.knows.store (empty_trail new.search.room)
        → AllZip (TellsBy new.knows.numbering table) (drop (length old.knows.numbering.things) new.knows.numbering.things) notes
        → DeclaresNew table base joined old new notes
    declares notes kept attached in_step tells = record {
      logs = record {
        more = numbers.more;
        longer = numbers.things;
        declares = subst (AreThings joined) numbers.things still.of.are;
        tells = subst (λ (names : List ℕ). AllZip (Tells (map (term_at table) names) new.knows.numbering.things) numbers.more notes) same_names
            (all_told new.knows.numbering table numbers.more notes
            (subst (λ (things : List Thing). AllZip (TellsBy new.knows.numbering table) things notes)
            (ap (drop (length old.knows.numbering.things)) numbers.things ∙ drop-append_seam old.knows.numbering.things numbers.more) tells));
      };
      names = same_names;
      fit = record { serves = still; attached = attached; in_step = in_step };
      kept = kept;
    }
