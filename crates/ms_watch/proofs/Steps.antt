-- What keeps watches in step, as contracts see it.
use Rattle.std.proofs.Common.{ℕ, ◌≡◌, ◌<◌, ◌≤◌, ◌+◌, ◌⊎◌, inl, inr, Bool, true, false, List, [], ◌∷◌, ◌++◌, Option, Some, None, length, get_or, take, set, sym, ◌∙◌, ap, subst, arith, refl}
use Rattle.std.specs.Prelude.{All, Contains, IsSome, is_some}
use Rattle.std.proofs.lemmas.List.Elements.{All-weaker}
use Rattle.std.proofs.lemmas.Bool.{cases_eq, cases_lt, cases_Bool, both_ways}
use Rattle.std.proofs.lemmas.List.{take_all, length-set, get_or-set_same, get_or-set_other}
use Rattle.ms_lits.specs.declared.lit.Lit.{Lit}
use Rattle.ms_lits.specs.declared.trail.Entry.{Entry}
use Rattle.ms_lits.specs.Literals.{Nogood, opposite_of}
use Rattle.ms_lits.specs.Assignment.{Assignment, HoldsIn, value_in, up_to}
use Rattle.ms_nogood.specs.Store.{Store, Stored, slot_at, nogood_at}
use Rattle.ms_nogood.specs.Watching.{HasSameLits}
use Rattle.ms_watch.specs.declared.lists.Watch.{Watch}
use Rattle.ms_watch.specs.declared.state.State.{State}
use Rattle.ms_watch.specs.declared.state.State.TheVariants.{Detached, Loose, Watched}
use Rattle.ms_watch.specs.Links.{Links, HaveLists, IsGrown, added, put}
use Rattle.ms_watch.specs.Watches.{Watching, pending, free, loose, list_of, state_in, is_attached, lits_at, HasKey, IsGuarded, AreKept, AreInStep, HasRoom, HaveLooked}
use Rattle.ms_watch.proofs.Linked.{have_none, have_grown, have_added, put_here, put_other}
use Rattle.ms_watch.proofs.Moved.{has_key, Contains-first, Contains-behind}
use Rattle.ms_watch.proofs.Fates.{lits_same}
use Rattle.ms_watch.specs.Kept.{kept_assigned, kept_descended, kept_grown, kept_stored, kept_back, kept_cleared, kept_none, kept_detached, guarded_mapped, with_lit, with_level}

pub step_back : (w new : Watching) (store : Store) (trail : Assignment) (level len : ℕ) → new.links ≡ w.links → new.keys ≡ w.keys → new.seen ≤ w.seen → new.seen ≤ len → (new.seen ≡ w.seen) ⊎ (new.seen ≡ len) → level ≤ trail.level → length (up_to level trail.entries) ≡ len → AreInStep w store trail → AreInStep new store (record { entries = up_to level trail.entries; level = level; room = trail.room })
step_back w new store trail level len links keys less within which low is step = record {
  lists = step.lists;
  have = subst (λ (l : Links). HaveLists l step.lists) (sym links) step.have;
  kept = subst (λ (l : Links). AreKept step.lists (length l.heads) new.keys new.seen store (record { entries = up_to level trail.entries; level = level; room = trail.room })) (sym links)
      (subst (λ (ks : List State). AreKept step.lists (length w.links.heads) ks new.seen store (record { entries = up_to level trail.entries; level = level; room = trail.room })) (sym keys)
      (kept_back step.lists (length w.links.heads) w.keys w.seen store trail level len new.seen step.kept low is less within which));
  none = step.none;
}

pub step_cleared : (w new : Watching) (store : Store) (trail : Assignment) → new.links ≡ w.links → new.keys ≡ w.keys → new.seen ≡ 0 → AreInStep w store trail → AreInStep new store (record { entries = []; level = 0; room = trail.room })
step_cleared w new store trail links keys seen step = record {
  lists = step.lists;
  have = subst (λ (l : Links). HaveLists l step.lists) (sym links) step.have;
  kept = subst (λ (l : Links). AreKept step.lists (length l.heads) new.keys new.seen store (record { entries = []; level = 0; room = trail.room })) (sym links)
      (subst (λ (ks : List State). AreKept step.lists (length w.links.heads) ks new.seen store (record { entries = []; level = 0; room = trail.room })) (sym keys)
      (subst (λ (n : ℕ). AreKept step.lists (length w.links.heads) w.keys n store (record { entries = []; level = 0; room = trail.room })) (sym seen)
      (kept_cleared step.lists (length w.links.heads) w.keys w.seen store trail step.kept)));
  none = step.none;
}

pub step_new : (w : Watching) (store : Store) (trail : Assignment) → w.links.heads ≡ [] → w.keys ≡ [] → w.seen ≡ 0 → trail.entries ≡ [] → AreInStep w store trail
step_new w store trail heads keys seen empty = record {
  lists = λ _. [];
  have = have_none w.links heads;
  kept = subst (λ (n : ℕ). AreKept (λ _. []) (length w.links.heads) w.keys n store trail) (sym seen)
      (kept_none (length w.links.heads) w.keys store trail (λ key. ap (λ (ks : List State). state_in ks key) keys) empty);
  none = refl;
}

pub step_detached : (w new : Watching) (store : Store) (trail : Assignment) (key : ℕ) → new.links ≡ w.links → new.seen ≡ w.seen → state_in new.keys key ≡ Detached → ((other : ℕ) → (other ≡ key → ⊥) → state_in new.keys other ≡ state_in w.keys other) → AreInStep w store trail → AreInStep new store trail
step_detached w new store trail key links seen gone others step = record {
  lists = step.lists;
  have = subst (λ (l : Links). HaveLists l step.lists) (sym links) step.have;
  kept = subst (λ (l : Links). AreKept step.lists (length l.heads) new.keys new.seen store trail) (sym links)
      (subst (λ (n : ℕ). AreKept step.lists (length w.links.heads) new.keys n store trail) (sym seen)
      (kept_detached step.lists (length w.links.heads) w.keys new.keys w.seen store trail key step.kept gone others));
  none = step.none;
}

-- a key more, whose watch is loose
kept_attached : (lists new : ℕ → List Watch) (count many : ℕ) (keys new_keys : List State) (seen : ℕ) (store : Store) (trail : Assignment) (key : ℕ) (lits : Nogood) → AreKept lists count keys seen store trail → count ≤ many → All (λ lit. list_of lit < many) lits → lits_at store key ≡ Some lits → state_in new_keys key ≡ Loose → ((other : ℕ) → (other ≡ key → ⊥) → state_in new_keys other ≡ state_in keys other) → ((list : ℕ) → 2 ≤ list → (new list ≡ lists list) ⊎ ((w : Watch) × (new list ≡ w ∷ lists list))) → ((list : ℕ) → 3 ≤ list → new list ≡ lists list) → HasKey (new loose) key → AreKept new many new_keys seen store trail
kept_attached lists new count many keys new_keys seen store trail key lits kept more covers found state others longer same has =
    let keep : (list : ℕ) (w : Watch) → 2 ≤ list → Contains (lists list) w → Contains (new list) w = λ list w le in_old. elim (longer list le) [
      | inl e ↦ subst (λ (ws : List Watch). Contains ws w) (sym e) in_old
      | inr e ↦ subst (λ (ws : List Watch). Contains ws w) (sym e.1) (Contains-behind e.0 (lists list) w in_old)
    ] in
    record {
      leveled = kept.leveled;
      looked = kept.looked;
      late = kept.late;
      stored = λ k attached. elim (cases_eq k key) [
        | inl at ↦ subst (λ (n : ℕ). IsSome (lits_at store n)) (sym at) (subst IsSome (sym found) refl)
        | inr other ↦ kept.stored k (sym (ap is_attached (others k other)) ∙ attached)
      ];
      covered = λ k ls attached is. elim (cases_eq k key) [
        | inl at ↦ subst (λ (l : Nogood). All (λ (lit : Lit). list_of lit < many) l) (lits_same lits ls (lits_at store key) found (ap (lits_at store) (sym at) ∙ is)) covers
        | inr other ↦ All-weaker (λ (lit : Lit). list_of lit < count) (λ (lit : Lit). list_of lit < many) (λ l lt. omega arith) ls (kept.covered k ls (sym (ap is_attached (others k other)) ∙ attached) is)
      ];
      blockers = λ list le. subst (All (λ (w : Watch). w.blocker.var < trail.room)) (sym (same list le)) (kept.blockers list le);
      guarded = λ k ls is. elim (cases_eq k key) [
        | inl at ↦ subst (λ (n : ℕ). IsGuarded new trail seen n ls (state_in new_keys n)) (sym at) (subst (IsGuarded new trail seen key ls) (sym state) has)
        | inr other ↦ subst (IsGuarded new trail seen k ls) (sym (others k other))
            (guarded_mapped lists new trail trail seen seen k ls (state_in keys k) (omega arith)
            (λ list le h. has_key (new list) k h.watch (keep list h.watch le h.contained) h.same)
            (λ l h. record { watch = h.watch; contained = keep (list_of l) h.watch (omega arith) h.contained; same = h.same; blocker = h.blocker })
            (λ l quiet. quiet) (kept.guarded k ls is))
      ];
    }

-- a key more, whose nogood will be looked at
pub step_attached : (w room : Watching) (links : Links) (new : Watching) (store : Store) (trail : Assignment) (key count : ℕ) (lits : Nogood) (watch : Watch) → HasRoom w room key → IsGrown room.links links count → loose < count → All (λ lit. list_of lit < count) lits → lits_at store key ≡ Some lits → is_attached (state_in w.keys key) ≡ false → watch.key ≡ key → new ≡ record { links = added (added links free watch) loose watch; keys = set room.keys key Loose; seen = room.seen } → AreInStep w store trail → AreInStep new store trail
step_attached w room links new store trail key count lits watch has grown least all found detached same is step =
    let one : ℕ → List Watch = put step.lists free (watch ∷ step.lists free) in
    let two : ℕ → List Watch = put one loose (watch ∷ one loose) in
    let keys : List State = set room.keys key Loose in
    let many : ℕ = length (added (added links free watch) loose watch).heads in
    let more : length w.links.heads ≤ many = omega (arith, ap (λ (l : Links). length l.heads) has.links, grown.longer, length-set links.heads free (length links.nodes + 1), length-set (added links free watch).heads loose (length (added links free watch).nodes + 1)) in
    let enough : count ≤ many = omega (arith, grown.enough, length-set links.heads free (length links.nodes + 1), length-set (added links free watch).heads loose (length (added links free watch).nodes + 1)) in
    let there : count ≤ length (added links free watch).heads = omega (arith, grown.enough, length-set links.heads free (length links.nodes + 1)) in
    let state : state_in keys key ≡ Loose = get_or-set_same room.keys key Loose Detached has.there in
    let others : (other : ℕ) → (other ≡ key → ⊥) → state_in keys other ≡ state_in w.keys other = λ other apart. get_or-set_other room.keys key other Loose Detached apart ∙ has.states other in
    let have : HaveLists (added (added links free watch) loose watch) two = have_added (added links free watch) one loose watch (have_added links step.lists free watch (have_grown room.links links count step.lists grown (subst (λ (l : Links). HaveLists l step.lists) (sym has.links) step.have)) (omega (arith, grown.enough))) (omega arith) in
    let kept : AreKept two many keys room.seen store trail = subst (λ (n : ℕ). AreKept two many keys n store trail) (sym has.seen)
    (kept_attached step.lists two (length w.links.heads) many w.keys keys w.seen store trail key lits step.kept more
    (λ k d lt. (let low = all k d lt in omega arith)) found state others
    (λ list le. elim (cases_eq list loose) [
      | inl at ↦ inr (watch, put_here one loose (watch ∷ one loose) list at ∙ ap (λ (ws : List Watch). watch ∷ ws) (put_other step.lists free (watch ∷ step.lists free) loose (λ e. absurd (omega arith)) ∙ ap step.lists (sym at)))
      | inr other ↦ inl (put_other one loose (watch ∷ one loose) list other ∙ put_other step.lists free (watch ∷ step.lists free) list (λ e. absurd (omega arith)))
    ])
    (λ list le. put_other one loose (watch ∷ one loose) list (λ e. absurd (omega arith)) ∙ put_other step.lists free (watch ∷ step.lists free) list (λ e. absurd (omega arith)))
    (has_key (two loose) key watch (subst (λ (ws : List Watch). Contains ws watch) (sym (put_here one loose (watch ∷ one loose) loose refl)) (Contains-first watch (one loose))) same)) in
    let made : AreInStep (record { links = added (added links free watch) loose watch; keys = keys; seen = room.seen }) store trail = record {
      lists = two;
      have = have;
      kept = kept;
      none = put_other one loose (watch ∷ one loose) pending (λ e. absurd (omega arith)) ∙ put_other step.lists free (watch ∷ step.lists free) pending (λ e. absurd (omega arith)) ∙ step.none;
    } in
    subst (λ (u : Watching). AreInStep u store trail) (sym is) made
