-- What stays sound where an input is assigned or released.
use Rattle.std.proofs.Common.{◌≡◌, ◌∙◌, ◌≤◌, ℕ, List, Bool, Option, sym, ap, subst}
use Rattle.ms_base.specs.Limits.{most_things}
use Rattle.ms_base.specs.declared.truth.Effect.{Effect}
use Rattle.ms_base.specs.declared.truth.Effect.TheVariants.{Done, NoEffect as nothing}
use Rattle.ms_tree.specs.Tree.{Tree}
use Rattle.ms_complete.specs.Numbering.{Numbering}
use Rattle.ms_join.specs.Modules.{Join, IsJoin}
use Rattle.ms_module.specs.Inputs.{Assigns, Releases}
use Rattle.ms_search.specs.Runs.{AreAttached, empty_trail}
use Rattle.ms_solver.specs.Laws.{AssignedIsServed}
use Rattle.ms_solver.specs.States.{CanRelease, Releases as SolverReleases, Serves}
use Rattle.ms_watch.specs.Watches.{AreInStep, is_attached, state_in as state_of_key}
use Rattle.ms_session.specs.Fitting.{IsSound, Watcher}

module _ (table : List Tree) (base : List ℕ) (join next : Join) (solver : Watcher) (a : ℕ) (sound : IsSound table base join solver) where
  pub assigned_sound : AssignedIsServed → IsJoin next → (value : Option Bool) (effect : Effect) → Assigns join a value next effect → IsSound table base next solver
  assigned_sound law is value Done h = record {
    named = sound.named;
    counted = sound.counted ∙ sym h.1.atoms;
    few = subst (λ (n : ℕ). n ≤ most_things) (sym h.1.atoms) sound.few;
    fit = record {
      serves = law solver.knows join next a value sound.fit.serves h.1 is;
      attached = sound.fit.attached;
      in_step = sound.fit.in_step;
    };
    names = sound.names;
  }
  assigned_sound law is value nothing h = subst (λ (j : Join). IsSound table base j solver) (sym h.1) sound

  pub nothing_released : Releases join a next nothing → IsSound table base next solver
  nothing_released h = subst (λ (j : Join). IsSound table base j solver) (sym h.1) sound

  -- the solver can release the input
  pub can_release : Releases join a next Done → CanRelease solver.knows a
  can_release h = record { join = join; serves = sound.fit.serves; input = h.0 }

  pub released_sound : IsJoin next → (new : Watcher) → Releases join a next Done
      → ((j released : Join) → Serves solver.knows j → SolverReleases j a released → Serves new.knows released)
      → new.knows.numbering ≡ solver.knows.numbering
      → AreAttached (λ key. is_attached (state_of_key new.search.propagation.keys key)) new.knows.store
      → AreInStep new.search.propagation new.knows.store (empty_trail new.search.room)
      → IsSound table base next new
  released_sound is new h serves numbering attached in_step = record {
    named = sound.named;
    counted = sound.counted ∙ sym h.1.atoms;
    few = subst (λ (n : ℕ). n ≤ most_things) (sym h.1.atoms) sound.few;
    fit = record {
      serves = serves join next sound.fit.serves (record { input = h.0; released = h.1; join = is });
      attached = attached;
      in_step = in_step;
    };
    names = ap (λ (n : Numbering). n.names) numbering ∙ sound.names;
  }
