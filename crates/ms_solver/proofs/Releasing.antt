-- A solver serves the join where an input was released, once the nogood that slept for it is woken.
use Rattle.std.proofs.Common.{◌≡◌, ◌∙◌, ℕ, [], ◌∷◌, Some, None, option_map, refl, sym, ap, subst, inl}
use Rattle.std.specs.Prelude.{slice_get}
use Rattle.std.specs.List.{All}
use Rattle.std.proofs.lemmas.List.Elements.{All-weaker}
use Rattle.ms_lits.specs.Literals.{Nogood}
use Rattle.ms_nogood.specs.Store.{IsAsleepAt, Store, Stored, Wakes, slot_at}
use Rattle.ms_join.specs.declared.ground_rule.Input.{Input}
use Rattle.ms_join.specs.Modules.{Join, IsInput}
use Rattle.ms_join.specs.Things.Thing.{atom}
use Rattle.ms_loops.specs.Laws.{InputsKeepConsequences}
use Rattle.ms_complete.specs.Rules.{holds}
use Rattle.ms_complete.proofs.Lists.{any_from, same_some}
use Rattle.ms_complete.proofs.Released.{are_of_released}
use Rattle.ms_unfound.proofs.InputLoops.{release_keeps_loops}
use Rattle.ms_problem.specs.Numbered.{AreNumbers}
use Rattle.ms_solver.specs.States.{HasSleeper, IsLasting, Knowledge, Releases, Serves, kept_of}
use Rattle.ms_solver.proofs.Stores.{kept_stays, order_stays, woken_keeps_kept, woken_keeps_lasting}

-- the nogood that makes the atom of this number false, asleep
abbrev pub sleeper : ℕ → Stored
sleeper number = record { lits = holds number ∷ []; kind = None }

same_number : (n k : ℕ) → Some (sleeper n) ≡ Some (sleeper k) → n ≡ k
same_number n k is =
    ap (λ (ls : Nogood). elim ls [ [] ↦ n | l ∷ rest ↦ l.var ]) (ap (λ (s : Stored). s.lits) (same_some (sleeper n) (sleeper k) is))

same_atom : (a b : ℕ) → Some (atom a) ≡ Some (atom b) → a ≡ b
same_atom a b is = cc

same_key : (a b : ℕ) → Some (Some a) ≡ Some (Some b) → a ≡ b
same_key a b is = cc

module _ (s : Knowledge) (j : Join) (serves : Serves s j) (a key : ℕ) (input : IsInput j a) (at : slice_get s.sleepers a ≡ Some (Some key)) where
  abbrev own : HasSleeper s.numbering.things s.store s.sleepers a
  own = serves.sleepers a input

  -- the key that is found is the one that sleeps
  pub sleeps_there : slot_at s.store key ≡ Some (sleeper own.number)
  sleeps_there = subst (λ (k : ℕ). slot_at s.store k ≡ Some (sleeper own.number)) (same_key own.key key (sym own.at ∙ at)) own.asleep

  pub is_asleep : IsAsleepAt s.store key
  is_asleep = ap (option_map (λ (t : Stored). t.kind)) sleeps_there

  module _ (keep : InputsKeepConsequences) (released : Join) (is : Releases j a released) (after : Store) (w : Wakes s.store after key) where
    lasting_stays : (nogood : Nogood) → IsLasting j s.numbering.things nogood → IsLasting released s.numbering.things nogood
    lasting_stays nogood l = record { within = l.within; consequence = keep j released a None s.numbering.things nogood (inl is.released) l.consequence }

    -- the sleepers of other inputs have other keys
    others_sleep : (b : ℕ) → IsInput released b → HasSleeper s.numbering.things after s.sleepers b
    others_sleep b (k, i, within, found, same) =
        let back = (is.released.inputs i).0 (k, within, found) in
        let h = serves.sleepers b (any_from (λ (i : Input). i.atom ≡ b) j.inputs i back.0 same) in
        let differ : h.key ≡ key → ⊥ = λ alike.
        let number : h.number ≡ own.number = same_number h.number own.number (sym h.asleep ∙ (ap (slot_at s.store) alike ∙ sleeps_there)) in
        back.1 (same ∙ same_atom b a (sym h.thing ∙ (ap (slice_get s.numbering.things) number ∙ own.thing))) in
        record { key = h.key; at = h.at; number = h.number; thing = h.thing; asleep = w.others h.key differ ∙ h.asleep }

    pub released_serves : Serves (record s { store = after }) released
    released_serves = record {
      join = is.join;
      of = are_of_released j released a key s.numbering.things s.store after serves.join input is.released serves.of
          (record { lit = holds own.number; says = (own.thing, refl); asleep = sleeps_there }) w;
      loops = release_keeps_loops j released a s.numbering.things s.loops serves.join input is.released serves.loops;
      lasting = woken_keeps_lasting s.store after key (sleeper own.number) sleeps_there refl w serves.lasting;
      order = order_stays s.store after serves.order (woken_keeps_kept s.store after key (sleeper own.number) sleeps_there refl w);
      kept = subst (All (IsLasting released s.numbering.things)) (sym (kept_stays s.store after serves.order (woken_keeps_kept s.store after key (sleeper own.number) sleeps_there refl w)))
          (All-weaker (IsLasting j s.numbering.things) (IsLasting released s.numbering.things) lasting_stays (kept_of s) serves.kept);
      sleepers = others_sleep;
      named = serves.named ∙ sym is.released.atoms;
      places = serves.places ∙ sym is.released.atoms;
      atoms = subst (λ (n : ℕ). AreNumbers s.numbering.things n s.atoms) (sym is.released.atoms) serves.atoms;
    }
