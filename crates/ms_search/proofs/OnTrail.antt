-- How the trail of a search stays in order: by a cut, a decision, a propagation, and a nogood more in the store.
use Rattle.std.proofs.Common.{ℕ, ◌≡◌, ◌<◌, ◌≤◌, ◌+◌, ◌-◌, ◌⊎◌, inl, inr, zero, suc, List, [], ◌∷◌, ◌++◌, Option, Some, None, false, length, get_or, take, refl, sym, ◌∙◌, ap, subst, arith}
use Rattle.std.specs.Prelude.{All, Contains}
use Rattle.std.proofs.lemmas.Bool.{cases_eq, cases_lt}
use Rattle.std.proofs.lemmas.List.{get_or-append-add, get_or-take, length-append, length-take-le, take-append-le, take_all}
use Rattle.std.proofs.lemmas.List.Elements.{All-contains}
use Rattle.std.proofs.Math.ListN.{get_or-append}
use Rattle.std.proofs.Math.Seq.{get_or-append_seam}
use Rattle.ms_lits.specs.declared.lit.Lit.{Lit}
use Rattle.ms_lits.specs.declared.trail.Entry.{Entry}
use Rattle.ms_lits.specs.Literals.{Nogood}
use Rattle.ms_lits.specs.Assignment.{Assignment, HoldsIn, IsAssignment, entry_made, entry_of, up_to, value_in}
use Rattle.ms_lits.proofs.Entries.{none_at}
use Rattle.ms_lits.proofs.Seen.{unassigned_entry}
use Rattle.ms_nogood.specs.Store.{Store, Stored, awake_in, nogood_at}
use Rattle.ms_nogood.specs.declared.kind.Kind.{Kind}
use Rattle.ms_nogood.specs.Looks.{IsCalmIn}
use Rattle.ms_nogood.specs.Propagation.{IsSettled, IsWithin, Propagates}
use Rattle.ms_nogood.proofs.Propagation.{awake_same, settled_from}
use Rattle.ms_refutation.specs.Sets.{AreReasoned}
use Rattle.ms_refutation.proofs.Found.{calm_from}
use Rattle.ms_refutation.proofs.Laws.{filter_twice, jump}
use Rattle.ms_analyze.specs.Cuts.{no_entry}
use Rattle.ms_analyze.proofs.Reasoned.{reasoned_front, reasoned_more, reasoned_push}
use Rattle.ms_lawful.specs.Problems.{Problem}
use Rattle.ms_search.specs.Jumps.{IsOpenTwice}
use Rattle.ms_search.specs.Points.{Gains, IsDecidedAt, IsDecision, IsOnTrail, TakesIn, cut_to, with_decision}
use Rattle.ms_search.proofs.Fronts.{IsFrontOf, front_at, front_length, front_taken, up_to_all, up_to_appended, up_to_front, up_to_has, up_to_low}

-- a decision, as it is seen after a cut
decision_cut : (start ds : List Lit) (before front : List Entry) (e x : Entry) (level : ℕ) → IsDecision start ds before e → e ≡ x → before ≡ front → e.level ≤ level → IsDecision start (take level ds) front x
decision_cut start ds before front e x level r same fronts low =
    let above = r.above in
    let inside : e.level - 1 < level = omega (arith, above, low) in
    subst (λ (y : Entry). IsDecision start (take level ds) front y) same
    (subst (λ (xs : List Entry). IsDecision start (take level ds) xs e) fronts (record {
      above = r.above;
      decided = get_or-take level ds (e.level - 1) e.lit inside ∙ r.decided;
      demanded = r.demanded;
    }))

pub trail_cut : (problem : Problem) (a : Assignment) (ds : List Lit) (store : Store) (level : ℕ) → level ≤ a.level → IsOnTrail problem a ds store → IsOnTrail problem (cut_to level a) (take level ds) store
trail_cut problem a ds store level down t =
    let s = t.assignment in
    let f = up_to_front a.entries level s.rising in
    let short = front_length a.entries (up_to level a.entries) f in
    let at : (i : ℕ) (d : Entry) → i < length (up_to level a.entries) → get_or a.entries i d ≡ get_or (up_to level a.entries) i d = front_at a.entries (up_to level a.entries) f in
    let depth = t.depth in
    let len : length (take level ds) ≡ level = length-take-le level ds (omega (arith, down, depth)) in
    record {
      assignment = record {
        within = λ i d lt. subst (λ (e : Entry). e.lit.var < a.room) (at i d lt) (s.within i d (omega (arith, lt, short)));
        once = λ i k d lt lt' same. s.once i k d (omega (arith, lt, short)) (omega (arith, lt', short))
            (ap (λ (e : Entry). e.lit.var) (at i d lt) ∙ same ∙ sym (ap (λ (e : Entry). e.lit.var) (at k d lt')));
        rising = λ i k d le lt.
            let rise = s.rising i k d le (omega (arith, lt, short)) in
            let low : (get_or a.entries i d).level ≡ (get_or (up_to level a.entries) i d).level = ap (λ (e : Entry). e.level) (at i d (omega (arith, le, lt))) in
            let high : (get_or a.entries k d).level ≡ (get_or (up_to level a.entries) k d).level = ap (λ (e : Entry). e.level) (at k d lt) in
            omega (arith, rise, low, high);
        present = λ i d lt. up_to_low a.entries level i d lt;
        few = let most = s.few in omega (arith, short, most);
        levels = let most = s.levels in omega (arith, down, most);
        fits = s.fits;
      };
      room = t.room;
      within = λ i d lt. subst (λ (e : Entry). e.lit.var < problem.things) (at i d lt) (t.within i d (omega (arith, lt, short)));
      reasoned = subst (AreReasoned store) (front_taken a.entries (up_to level a.entries) f (length (up_to level a.entries)) (omega arith) ∙ take_all (length (up_to level a.entries)) (up_to level a.entries) (omega arith))
          (reasoned_front store a.entries (length (up_to level a.entries)) t.reasoned);
      only = λ l i k d before lt at_i at_k none.
          t.only l i k d before (omega (arith, lt, short))
          (ap (λ (e : Entry). e.level) (at i d (omega (arith, before, lt))) ∙ at_i)
          (ap (λ (e : Entry). e.level) (at k d lt) ∙ at_k)
          (ap (λ (e : Entry). e.reason) (at k d lt) ∙ none);
      closed = jump store a.entries a.level level down t.closed;
      depth = len;
      decided = λ i d lt none.
          let low = up_to_low a.entries level i d lt in
          let same : (get_or a.entries i d).level ≡ (get_or (up_to level a.entries) i d).level = ap (λ (e : Entry). e.level) (at i d lt) in
          decision_cut problem.start ds (take i a.entries) (take i (up_to level a.entries)) (get_or a.entries i d) (get_or (up_to level a.entries) i d) level
          (t.decided i d (omega (arith, lt, short)) (ap (λ (e : Entry). e.reason) (at i d lt) ∙ none))
          (at i d lt)
          (front_taken a.entries (up_to level a.entries) f i (omega (arith, lt)))
          (omega (arith, low, same));
      placed = λ k d lt.
          let below : k < level = omega (arith, lt, len) in
          let p = t.placed k d (omega (arith, below, down, depth)) in
          let lev = p.level_is no_entry in
          let inside = up_to_has a.entries level p.place no_entry s.rising p.within (omega (arith, lev, below)) in
          record {
            place = p.place;
            within = inside;
            lit_is = λ e. ap (λ (x : Entry). x.lit) (sym (at p.place e inside)) ∙ p.lit_is e ∙ sym (get_or-take level ds k d below);
            level_is = λ e. ap (λ (x : Entry). x.level) (sym (at p.place e inside)) ∙ p.level_is e;
          };
    }

-- the decision of a level stands behind as many entries as there are levels below it
place_low : (problem : Problem) (a : Assignment) (ds : List Lit) (store : Store) → (t : IsOnTrail problem a ds store) → (k : ℕ) (d : Lit) (lt : k < length ds) → k ≤ (t.placed k d lt).place
place_low problem a ds store t zero d lt = omega arith
place_low problem a ds store t (suc k) d lt =
    let inside : k < length ds = omega (arith, lt) in
    let before = place_low problem a ds store t k d inside in
    let p = t.placed k d inside in
    let q = t.placed (suc k) d lt in
    let lev_p = p.level_is no_entry in
    let lev_q = q.level_is no_entry in
    elim (cases_lt p.place q.place) [
      | inl less ↦ omega (arith, before, less)
      | inr more ↦ (let rise = t.assignment.rising q.place p.place no_entry more p.within in absurd (omega (arith, rise, lev_p, lev_q)))
    ]

no_lit : Lit
no_lit = record { var = 0; truth = false }

-- there are at least as many entries as levels
pub levels_few : (problem : Problem) (a : Assignment) (ds : List Lit) (store : Store) → IsOnTrail problem a ds store → a.level ≤ length a.entries
levels_few problem a ds store t = elim (cases_lt 0 a.level) [
  | inl some ↦ (
      let depth = t.depth in
      let inside : a.level - 1 < length ds = omega (arith, some, depth) in
      let low = place_low problem a ds store t (a.level - 1) no_lit inside in
      let within = (t.placed (a.level - 1) no_lit inside).within in
      omega (arith, low, within, some))
  | inr none ↦ omega (arith, none)
]

-- what holds of each entry, with one entry more
each_pushed : (P : ℕ → Entry → Type 0) (es : List Entry) (e : Entry) → ((i : ℕ) (d : Entry) → i < length es → P i (get_or es i d)) → P (length es) e → (i : ℕ) (d : Entry) → i < length (es ++ e ∷ []) → P i (get_or (es ++ e ∷ []) i d)
each_pushed P es e each last i d lt = elim (cases_lt i (length es)) [
  | inl before ↦ subst (P i) (sym (get_or-append es (e ∷ []) d i before)) (each i d before)
  | inr late ↦ (
      let at : i ≡ length es = omega (arith, lt, late, length-append es (e ∷ [])) in
      subst (P i) (sym (ap (λ (k : ℕ). get_or (es ++ e ∷ []) k d) at ∙ get_or-append_seam es e [] d))
      (subst (λ (k : ℕ). P k e) (sym at) last))
]

module _ (problem : Problem) (a : Assignment) (ds : List Lit) (store : Store) (lit : Lit) (t : IsOnTrail problem a ds store) (within : lit.var < problem.things) (free : value_in a.entries lit.var ≡ None) where
  abbrev made : Entry
  made = entry_made lit (a.level + 1) None

  abbrev longer : List Entry
  longer = a.entries ++ entry_made lit (a.level + 1) None ∷ []

  old_at : (i : ℕ) (d : Entry) → i < length a.entries → get_or longer i d ≡ get_or a.entries i d
  old_at i d lt = get_or-append a.entries (made ∷ []) d i lt

  last_at : (i : ℕ) (d : Entry) → i < length longer → length a.entries ≤ i → get_or longer i d ≡ made
  last_at i d lt late =
      let at : i ≡ length a.entries = omega (arith, lt, late, length-append a.entries (made ∷ [])) in
      ap (λ (k : ℕ). get_or longer k d) at ∙ get_or-append_seam a.entries made [] d

  not_again : (i : ℕ) (d : Entry) → i < length a.entries → (get_or a.entries i d).lit.var ≡ lit.var → ⊥
  not_again i d lt same = none_at a.entries lit.var i d (unassigned_entry (entry_of a.entries lit.var) free) lt same

  once_pushed : (i k : ℕ) (d : Entry) → i < length longer → k < length longer → (get_or longer i d).lit.var ≡ (get_or longer k d).lit.var → i ≡ k
  once_pushed i k d i_in k_in same = elim (cases_lt i (length a.entries)) [
    | inl i_old ↦ elim (cases_lt k (length a.entries)) [
      | inl k_old ↦ t.assignment.once i k d i_old k_old (sym (ap (λ (e : Entry). e.lit.var) (old_at i d i_old)) ∙ same ∙ ap (λ (e : Entry). e.lit.var) (old_at k d k_old))
      | inr k_last ↦ absurd (not_again i d i_old (sym (ap (λ (e : Entry). e.lit.var) (old_at i d i_old)) ∙ same ∙ ap (λ (e : Entry). e.lit.var) (last_at k d k_in k_last)))
    ]
    | inr i_last ↦ elim (cases_lt k (length a.entries)) [
      | inl k_old ↦ absurd (not_again k d k_old (sym (ap (λ (e : Entry). e.lit.var) (old_at k d k_old)) ∙ sym same ∙ ap (λ (e : Entry). e.lit.var) (last_at i d i_in i_last)))
      | inr k_last ↦ omega (arith, i_in, k_in, i_last, k_last, length-append a.entries (made ∷ []))
    ]
  ]

  rising_pushed : (i k : ℕ) (d : Entry) → i ≤ k → k < length longer → (get_or longer i d).level ≤ (get_or longer k d).level
  rising_pushed i k d le k_in = elim (cases_lt k (length a.entries)) [
    | inl k_old ↦ (
        let rise = t.assignment.rising i k d le k_old in
        let low = ap (λ (e : Entry). e.level) (old_at i d (omega (arith, le, k_old))) in
        let high = ap (λ (e : Entry). e.level) (old_at k d k_old) in
        omega (arith, rise, low, high))
    | inr k_last ↦ (
        let high = ap (λ (e : Entry). e.level) (last_at k d k_in k_last) in
        elim (cases_lt i (length a.entries)) [
          | inl i_old ↦ (
              let most = t.assignment.present i d i_old in
              let low = ap (λ (e : Entry). e.level) (old_at i d i_old) in
              omega (arith, most, low, high))
          | inr i_last ↦ (let low = ap (λ (e : Entry). e.level) (last_at i d (omega (arith, le, k_in)) i_last) in omega (arith, low, high))
        ])
  ]

  only_pushed : (l i k : ℕ) (d : Entry) → i < k → k < length longer → (get_or longer i d).level ≡ l → (get_or longer k d).level ≡ l → (get_or longer k d).reason ≡ None → ⊥
  only_pushed l i k d before k_in at_i at_k none = elim (cases_lt k (length a.entries)) [
    | inl k_old ↦ (
        let i_same = old_at i d (omega (arith, before, k_old)) in
        let k_same = old_at k d k_old in
        t.only l i k d before k_old (sym (ap (λ (e : Entry). e.level) i_same) ∙ at_i) (sym (ap (λ (e : Entry). e.level) k_same) ∙ at_k) (sym (ap (λ (e : Entry). e.reason) k_same) ∙ none))
    | inr k_last ↦ (
        let i_old : i < length a.entries = omega (arith, before, k_in, length-append a.entries (made ∷ [])) in
        let most = t.assignment.present i d i_old in
        let low = ap (λ (e : Entry). e.level) (old_at i d i_old) in
        let high = ap (λ (e : Entry). e.level) (last_at k d k_in k_last) in
        omega (arith, most, low, high, at_i, at_k))
  ]

  decision_old : (i : ℕ) (d : Entry) → i < length a.entries → (get_or a.entries i d).reason ≡ None → IsDecision problem.start (ds ++ lit ∷ []) (take i longer) (get_or a.entries i d)
  decision_old i d lt none =
      let r = t.decided i d lt none in
      let above = r.above in
      let most = t.assignment.present i d lt in
      let depth = t.depth in
      let inside : (get_or a.entries i d).level - 1 < length ds = omega (arith, above, most, depth) in
      record {
        above = r.above;
        decided = get_or-append ds (lit ∷ []) (get_or a.entries i d).lit ((get_or a.entries i d).level - 1) inside ∙ r.decided;
        demanded = subst (λ (xs : List Entry). Contains problem.start (get_or a.entries i d).lit ⊎ All (HoldsIn xs) problem.start) (sym (take-append-le i a.entries (made ∷ []) (omega (arith, lt)))) r.demanded;
      }

  decision_last : Contains problem.start lit ⊎ All (HoldsIn a.entries) problem.start → IsDecision problem.start (ds ++ lit ∷ []) (take (length a.entries) longer) made
  decision_last demanded =
      let depth = t.depth in
      let at : a.level + 1 - 1 ≡ length ds = omega (arith, depth) in
      let front : a.entries ≡ take (length a.entries) longer = sym (take-append-le (length a.entries) a.entries (made ∷ []) (omega arith) ∙ take_all (length a.entries) a.entries (omega arith)) in
      record {
        above = omega arith;
        decided = ap (λ (k : ℕ). get_or (ds ++ lit ∷ []) k lit) at ∙ get_or-append_seam ds lit [] lit;
        demanded = subst (λ (xs : List Entry). Contains problem.start lit ⊎ All (HoldsIn xs) problem.start) front demanded;
      }

  placed_pushed : (k : ℕ) (d : Lit) → k < length (ds ++ lit ∷ []) → IsDecidedAt longer (suc k) (get_or (ds ++ lit ∷ []) k d)
  placed_pushed k d lt = elim (cases_lt k (length ds)) [
    | inl before ↦ (
        let p = t.placed k d before in
        record {
          place = p.place;
          within = let inside = p.within in omega (arith, inside, length-append a.entries (made ∷ []));
          lit_is = λ e. ap (λ (x : Entry). x.lit) (old_at p.place e p.within) ∙ p.lit_is e ∙ sym (get_or-append ds (lit ∷ []) d k before);
          level_is = λ e. ap (λ (x : Entry). x.level) (old_at p.place e p.within) ∙ p.level_is e;
        })
    | inr late ↦ (
        let at : k ≡ length ds = omega (arith, lt, late, length-append ds (lit ∷ [])) in
        let depth = t.depth in
        let inside : length a.entries < length longer = omega (arith, length-append a.entries (made ∷ [])) in
        let lev : a.level + 1 ≡ suc k = omega (arith, at, depth) in
        record {
          place = length a.entries;
          within = inside;
          lit_is = λ e. ap (λ (x : Entry). x.lit) (last_at (length a.entries) e inside (omega arith)) ∙ sym (ap (λ (n : ℕ). get_or (ds ++ lit ∷ []) n d) at ∙ get_or-append_seam ds lit [] d);
          level_is = λ e. ap (λ (x : Entry). x.level) (last_at (length a.entries) e inside (omega arith)) ∙ lev;
        })
  ]

  closed_pushed : IsSettled store a.entries → (lower : ℕ) → lower < a.level + 1 → IsSettled store (up_to lower longer)
  closed_pushed settled lower lt =
      let same : up_to lower longer ≡ up_to lower a.entries = up_to_appended a.entries (made ∷ []) lower (λ i d inside. let at : i ≡ 0 = omega (arith, inside) in subst (λ (k : ℕ). lower < (get_or (made ∷ []) k d).level) (sym at) lt) in
      subst (IsSettled store) (sym same) (elim (cases_lt lower a.level) [
        | inl below ↦ t.closed lower below
        | inr top ↦ (
            let at : lower ≡ a.level = omega (arith, lt, top) in
            let all : up_to lower a.entries ≡ a.entries = ap (λ (n : ℕ). up_to n a.entries) at ∙ up_to_all a.entries a.level t.assignment.present in
            subst (IsSettled store) (sym all) settled)
      ])

  pub trail_decided : IsSettled store a.entries → Contains problem.start lit ⊎ All (HoldsIn a.entries) problem.start → length a.entries < a.room → IsOnTrail problem (with_decision a lit) (ds ++ lit ∷ []) store
  trail_decided settled demanded fewer =
      let s = t.assignment in
      let room = t.room in
      let few = levels_few problem a ds store t in
      let len : length longer ≡ length a.entries + 1 = length-append a.entries (made ∷ []) in
      let depth = t.depth in
      record {
        assignment = record {
          within = each_pushed (λ (i : ℕ) (e : Entry). e.lit.var < a.room) a.entries made s.within (omega (arith, within, room));
          once = once_pushed;
          rising = rising_pushed;
          present = each_pushed (λ (i : ℕ) (e : Entry). e.level ≤ a.level + 1) a.entries made (λ i d lt. let most = s.present i d lt in omega (arith, most)) (omega arith);
          few = omega (arith, len, fewer);
          levels = omega (arith, few, fewer);
          fits = s.fits;
        };
        room = t.room;
        within = each_pushed (λ (i : ℕ) (e : Entry). e.lit.var < problem.things) a.entries made t.within within;
        reasoned = reasoned_push store a.entries made t.reasoned (inl refl);
        only = only_pushed;
        closed = closed_pushed settled;
        depth = omega (arith, depth, length-append ds (lit ∷ []));
        decided = each_pushed (λ (i : ℕ) (e : Entry). e.reason ≡ None → IsDecision problem.start (ds ++ lit ∷ []) (take i longer) e) a.entries made decision_old (λ none. decision_last demanded);
        placed = placed_pushed;
      }

some_reason : (o : Option ℕ) (key : ℕ) → o ≡ Some key → o ≡ None → ⊥
some_reason o key some none = cc

module _ (problem : Problem) (a b : Assignment) (ds : List Lit) (store : Store) (t : IsOnTrail problem a ds store) (s : IsAssignment b) (inside : IsWithin store problem.things) (p : Propagates store a b) where
  front : IsFrontOf b.entries a.entries
  front = record { rest = p.added; is = p.entries }

  seen_at : (i : ℕ) (d : Entry) → i < length a.entries → get_or b.entries i d ≡ get_or a.entries i d
  seen_at i d lt = front_at b.entries a.entries front i d lt

  -- an entry without a reason was there before
  was_there : (i : ℕ) (d : Entry) → i < length b.entries → (get_or b.entries i d).reason ≡ None → i < length a.entries
  was_there i d lt none = elim (cases_lt i (length a.entries)) [
    | inl before ↦ before
    | inr late ↦ (let forced = p.forced i d late lt in absurd (some_reason (get_or b.entries i d).reason forced.key forced.reason none))
  ]

  within_reached : (i : ℕ) (d : Entry) → i < length b.entries → (get_or b.entries i d).lit.var < problem.things
  within_reached i d lt = elim (cases_lt i (length a.entries)) [
    | inl before ↦ subst (λ (e : Entry). e.lit.var < problem.things) (sym (seen_at i d before)) (t.within i d before)
    | inr late ↦ (
        let forced = p.forced i d late lt in
        All-contains (λ (l : Lit). l.var < problem.things) forced.stored.lits _ (inside forced.key forced.stored forced.found) forced.unit.contained)
  ]

  only_reached : (l i k : ℕ) (d : Entry) → i < k → k < length b.entries → (get_or b.entries i d).level ≡ l → (get_or b.entries k d).level ≡ l → (get_or b.entries k d).reason ≡ None → ⊥
  only_reached l i k d before lt at_i at_k none =
      let old = was_there k d lt none in
      let i_same = seen_at i d (omega (arith, before, old)) in
      let k_same = seen_at k d old in
      t.only l i k d before old (sym (ap (λ (e : Entry). e.level) i_same) ∙ at_i) (sym (ap (λ (e : Entry). e.level) k_same) ∙ at_k) (sym (ap (λ (e : Entry). e.reason) k_same) ∙ none)

  added_level : (i : ℕ) (d : Entry) → i < length p.added → (get_or p.added i d).level ≡ a.level
  added_level i d lt =
      let here : get_or b.entries (length a.entries + i) d ≡ get_or p.added i d = ap (λ (xs : List Entry). get_or xs (length a.entries + i) d) p.entries ∙ get_or-append-add a.entries p.added i d in
      let forced = p.forced (length a.entries + i) d (omega arith) (omega (arith, lt, ap length p.entries, length-append a.entries p.added)) in
      ap (λ (e : Entry). e.level) (sym here) ∙ forced.at_level

  closed_reached : (lower : ℕ) → lower < b.level → IsSettled store (up_to lower b.entries)
  closed_reached lower lt =
      let level = p.level in
      let same : up_to lower b.entries ≡ up_to lower a.entries = ap (up_to lower) p.entries ∙ up_to_appended a.entries p.added lower (λ i d inside. let lev = added_level i d inside in omega (arith, lev, lt, level)) in
      subst (IsSettled store) (sym same) (t.closed lower (omega (arith, lt, level)))

  decided_reached : (i : ℕ) (d : Entry) → i < length b.entries → (get_or b.entries i d).reason ≡ None → IsDecision problem.start ds (take i b.entries) (get_or b.entries i d)
  decided_reached i d lt none =
      let old = was_there i d lt none in
      let same = seen_at i d old in
      subst (λ (xs : List Entry). IsDecision problem.start ds xs (get_or b.entries i d)) (sym (front_taken b.entries a.entries front i (omega (arith, old))))
      (subst (λ (e : Entry). IsDecision problem.start ds (take i a.entries) e) (sym same) (t.decided i d old (sym (ap (λ (e : Entry). e.reason) same) ∙ none)))

  placed_reached : (k : ℕ) (d : Lit) → k < length ds → IsDecidedAt b.entries (suc k) (get_or ds k d)
  placed_reached k d lt =
      let q = t.placed k d lt in
      record {
        place = q.place;
        within = let here = q.within in let more = front_length b.entries a.entries front in omega (arith, here, more);
        lit_is = λ e. ap (λ (x : Entry). x.lit) (seen_at q.place e q.within) ∙ q.lit_is e;
        level_is = λ e. ap (λ (x : Entry). x.level) (seen_at q.place e q.within) ∙ q.level_is e;
      }

  pub trail_propagated : IsOnTrail problem b ds store
  trail_propagated = record {
    assignment = s;
    room = let before = t.room in let same = p.room in omega (arith, before, same);
    within = within_reached;
    reasoned = reasoned_more store a b p t.reasoned;
    only = only_reached;
    closed = closed_reached;
    depth = t.depth ∙ sym p.level;
    decided = decided_reached;
    placed = placed_reached;
  }

module _ (old new : Store) (stored : Stored) (g : Gains old new stored) where
  -- each nogood that was there is there
  pub gains_found : (k : ℕ) (s : Stored) → nogood_at old k ≡ Some s → nogood_at new k ≡ Some s
  gains_found k s found = elim (cases_eq k g.key) [
    | inl same ↦ (let none : nogood_at old k ≡ None = ap (λ (n : ℕ). nogood_at old n) same ∙ ap awake_in g.was_free in cc)
    | inr other ↦ ap awake_in (g.others k other) ∙ found
  ]

  -- and each nogood was there, or is the new one
  pub gains_cases : (k : ℕ) (s : Stored) → nogood_at new k ≡ Some s → (nogood_at old k ≡ Some s) ⊎ (stored ≡ s)
  gains_cases k s found = elim (cases_eq k g.key) [
    | inl same ↦ inr (awake_same stored s (sym (ap (λ (n : ℕ). nogood_at new n) same ∙ ap awake_in g.added) ∙ found))
    | inr other ↦ inl (sym (ap awake_in (g.others k other)) ∙ found)
  ]

  pub settled_gained : (entries : List Entry) → IsCalmIn entries stored.lits → IsSettled old entries → IsSettled new entries
  settled_gained entries calm settled = settled_from new entries (λ k s found. elim (gains_cases k s found) [
    | inl was ↦ calm_from old entries settled k s was
    | inr same ↦ subst (λ (x : Stored). IsCalmIn entries x.lits) same calm
  ])

  reasoned_gained : (entries : List Entry) → AreReasoned old entries → AreReasoned new entries
  reasoned_gained entries each i d lt = elim (each i d lt) [
    | inl none ↦ inl none
    | inr forced ↦ inr (record {
      at_level = forced.at_level;
      key = forced.key;
      reason = forced.reason;
      stored = forced.stored;
      found = gains_found forced.key forced.stored forced.found;
      unit = forced.unit;
    })
  ]

  pub trail_gained : (problem : Problem) (a : Assignment) (ds : List Lit) → IsOnTrail problem a ds old → ((lower : ℕ) → lower < a.level → IsCalmIn (up_to lower a.entries) stored.lits) → IsOnTrail problem a ds new
  trail_gained problem a ds t calm = record {
    assignment = t.assignment;
    room = t.room;
    within = t.within;
    reasoned = reasoned_gained a.entries t.reasoned;
    only = t.only;
    closed = λ lower lt. settled_gained (up_to lower a.entries) (calm lower lt) (t.closed lower lt);
    depth = t.depth;
    decided = t.decided;
    placed = t.placed;
  }

untrue : (entries : List Entry) (lit : Lit) → value_in entries lit.var ≡ None → HoldsIn entries lit → ⊥
untrue entries lit free holds = cc

-- a nogood with two open literals is calm
pub calm_twice : (entries : List Entry) (nogood : Nogood) → IsOpenTwice entries nogood → IsCalmIn entries nogood
calm_twice entries nogood o = record {
  not_whole = λ whole. untrue entries o.first o.first_free (All-contains (HoldsIn entries) nogood o.first whole o.has_first);
  closed = λ lit others.
      let P : Lit → Type 0 = λ (other : Lit). (other ≡ lit) ⊎ HoldsIn entries other in
      elim (All-contains P nogood o.first others o.has_first) [
        | inl first ↦ elim (All-contains P nogood o.second others o.has_second) [
          | inl second ↦ absurd (o.differ (ap (λ (l : Lit). l.var) (first ∙ sym second)))
          | inr holds ↦ absurd (untrue entries o.second o.second_free holds)
        ]
        | inr holds ↦ absurd (untrue entries o.first o.first_free holds)
      ];
}

pub trail_taken : (problem : Problem) (a b : Assignment) (ds left : List Lit) (old new : Store) (lits : Nogood) (kind : Kind) → IsOnTrail problem a ds old → TakesIn a b ds left old new lits kind → IsOnTrail problem b left new
trail_taken problem a b ds left old new lits kind t x =
    let cut = trail_cut problem a ds old x.level x.below t in
    let gained = trail_gained old new (record { lits = lits; kind = Some kind }) x.gains problem (cut_to x.level a) (take x.level ds) cut
    (λ lower lt. calm_twice (up_to lower (up_to x.level a.entries)) lits
    (subst (λ (es : List Entry). IsOpenTwice es lits) (sym (filter_twice lower x.level a.entries (omega (arith, lt)))) (x.open_twice lower lt))) in
    subst (λ (y : Assignment). IsOnTrail problem y left new) (sym x.trail)
    (subst (λ (ls : List Lit). IsOnTrail problem (cut_to x.level a) ls new) (sym x.decisions) gained)
