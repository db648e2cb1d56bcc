-- What serves the join of no modules, and how many nogoods are kept.
use Rattle.std.proofs.Common.{◌≡◌, ◌∙◌, ◌-◌, ℕ, true, List, [], Option, Some, None, take, length, get_or, option_map, refl, sym, ap, subst, arith}
use Rattle.std.specs.Prelude.{IfSome, ◌<◌, ◌≢◌, is_some, slice_get}
use Rattle.std.specs.List.{AllPairs}
use Rattle.std.proofs.lemmas.List.{take_all}
use Rattle.std.proofs.lemmas.List.Elements.{All-nil}
use Rattle.ms_nogood.specs.Store.{AreKept, Store, Stored, holds_kept, slot_at}
use Rattle.ms_join.specs.declared.ground_rule.GroundRule.{GroundRule}
use Rattle.ms_join.specs.declared.ground_rule.Input.{Input}
use Rattle.ms_join.specs.AnswerSets.{IsRuleOver}
use Rattle.ms_join.specs.Modules.{HasSets, IsInput, IsJoin, no_join}
use Rattle.ms_complete.specs.Numbering.{Numbering}
use Rattle.ms_complete.proofs.Assigned.{are_of_none}
use Rattle.ms_complete.proofs.Lists.{any_none, none_is_some}
use Rattle.ms_search.specs.Problems.{kept_nogoods, literals_at}
use Rattle.ms_search.proofs.Lists.{filter_map-length}
use Rattle.ms_unfound.specs.Parts.{Known}
use Rattle.ms_unfound.specs.Taking.{AreLoopsOf}
use Rattle.ms_solver.specs.States.{IsLasting, Knowledge, Serves}

no_pairs : {X : Type 0} (P : X → X → Type 0) → AllPairs P []
no_pairs P i k d less within = absurd (omega (arith, within))

start_join : IsJoin no_join
start_join = record {
  over = record { rules = All-nil (IsRuleOver 0); inputs = All-nil (λ (i : Input). i.atom < 0) };
  bodies = All-nil HasSets;
  once = no_pairs (λ (i k : Input). i.atom ≢ k.atom);
  outputs = All-nil (λ (rule : GroundRule). IfSome rule.head (λ h. ¬ IsInput no_join h));
}

abbrev nothing : Store
nothing = record { slots = []; kept = []; fresh = [] }

none_at : (a n : ℕ) → slice_get {X = ℕ} [] a ≡ Some n → ⊥
none_at a n at = none_is_some n at

start_serves : (loops : Known) → AreLoopsOf no_join [] loops → Serves (record { store = nothing; numbering = record { things = []; names = [] }; loops = loops; atoms = []; sleepers = [] }) no_join
start_serves loops are = record {
  join = start_join;
  of = are_of_none nothing (λ key. refl);
  loops = are;
  lasting = λ key stored found. absurd (none_is_some stored found);
  order = record {
    all_kept = λ i d less. absurd (omega (arith, less));
    every_one = λ key here. cc;
    once = λ i k d less. absurd (omega (arith, less));
  };
  kept = All-nil (IsLasting no_join []);
  sleepers = λ a input. absurd (any_none (λ (i : Input). i.atom ≡ a) input);
  named = refl;
  places = refl;
  atoms = record { counted = refl; each = λ a number at. absurd (none_at a number at) };
}

pub nothing_serves : (s : Knowledge) → s.store ≡ nothing → s.numbering ≡ record { things = []; names = [] } → AreLoopsOf no_join [] s.loops → s.atoms ≡ [] → s.sleepers ≡ [] → Serves s no_join
nothing_serves s store numbering loops atoms sleepers =
    subst (λ (x : Store). Serves (record { store = x; numbering = s.numbering; loops = s.loops; atoms = s.atoms; sleepers = s.sleepers }) no_join) (sym store)
    (subst (λ (x : Numbering). Serves (record { store = nothing; numbering = x; loops = s.loops; atoms = s.atoms; sleepers = s.sleepers }) no_join) (sym numbering)
    (subst (λ (x : List ℕ). Serves (record { store = nothing; numbering = record { things = []; names = [] }; loops = s.loops; atoms = x; sleepers = s.sleepers }) no_join) (sym atoms)
    (subst (λ (x : List (Option ℕ)). Serves (record { store = nothing; numbering = record { things = []; names = [] }; loops = s.loops; atoms = []; sleepers = x }) no_join) (sym sleepers)
    (start_serves s.loops loops))))

some_literals : (o : Option Stored) → holds_kept o ≡ true → is_some (option_map (λ (s : Stored). s.lits) o) ≡ true
some_literals None kept = kept
some_literals (Some s) kept = refl

-- each kept key has a nogood
pub kept_count : (store : Store) (keys : List ℕ) → AreKept store.slots store.kept → keys ≡ take (length store.kept - 0) store.kept → length keys ≡ length (kept_nogoods store)
kept_count store keys order is =
    let all : take (length store.kept - 0) store.kept ≡ store.kept = take_all (length store.kept - 0) store.kept (omega arith) in
    ap length (is ∙ all) ∙ sym (filter_map-length (literals_at store) store.kept (λ i d less. some_literals (slot_at store (get_or store.kept i d)) (order.all_kept i d less)))
