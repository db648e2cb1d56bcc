-- Refutation of what is marked.
use Rattle.std.proofs.Common.{ℕ, ◌≡◌, ◌<◌, ◌≤◌, ◌⊎◌, inl, inr, zero, suc, List, [], ◌∷◌, ◌++◌, Option, Some, None, Bool, true, false, length, get_or, take, option_map, refl, sym, ◌∙◌, ap, subst, arith, All, ◌||◌}
use Rattle.std.specs.Prelude.{Contains, IsTrue, is_some}
use Rattle.std.proofs.lemmas.Bool.{cases_Bool, cases_lt, cond-true, cond-false}
use Rattle.std.proofs.lemmas.List.Elements.{All-contains, All-contains_itself, All-map, All-nil, All-push, All-weaker, Contains-append_left, Contains-get_or, Contains-push}
use Rattle.std.proofs.lemmas.List.{take_all}
use Rattle.ms_lits.specs.declared.lit.Lit.{Lit}
use Rattle.ms_lits.specs.declared.trail.Entry.{Entry}
use Rattle.ms_lits.specs.Literals.{IsClosed, IsDerived, IsRefuted, IsWhole, Nogood, opposite_of}
use Rattle.ms_lits.specs.Assignment.{HoldsIn, IsUnitIn, IsWholeIn, place_in}
use Rattle.ms_nogood.specs.Store.{Store, Stored, awake_in, nogood_at, slot_at}
use Rattle.ms_nogood.specs.Propagation.{IsStored}
use Rattle.ms_nogood.proofs.Propagation.{stored_among}
use Rattle.ms_refutation.proofs.Laws.{opposite_of-opposite_of}
use Rattle.ms_analyze.specs.Analysis.{AreFixed, IsNotTemporary, is_temporary}
use Rattle.ms_analyze.specs.Cuts.{IsCut, lit_at, lits_at, marked, no_entry}
use Rattle.ms_analyze.proofs.Marked.{Contains-first, Contains-behind, Contains-cases, marked_all, marked_has, marked_keeps}
use Rattle.ms_analyze.proofs.Trails.{front_entry, front_place, holds_entry, lit_placed}

pub All-last : (P : ℕ → Type 0) (xs : List ℕ) (x : ℕ) → All P (xs ++ x ∷ []) → P x
All-last P xs x all = All-contains P (xs ++ x ∷ []) x all (Contains-push xs x)

pub All-front : (P : ℕ → Type 0) (xs : List ℕ) (x : ℕ) → All P (xs ++ x ∷ []) → All P xs
All-front P xs x all = All-weaker (Contains xs) P (λ y among. All-contains P (xs ++ x ∷ []) y all (Contains-append_left xs (x ∷ []) y among)) xs (All-contains_itself xs)

-- what is among these or derived from nothing is in each closed set that has these
pub in_set : (Among : Nogood → Type 0) (set : Lit → Bool) (more : Nogood) (l : Lit) → IsWhole set more → IsClosed Among set → Contains more l ⊎ IsDerived Among [] l → IsTrue (set l)
in_set Among set more l whole closed either = elim either [
  | inl inside ↦ All-contains (λ (x : Lit). IsTrue (set x)) more l whole inside
  | inr derived ↦ derived set (All-nil (λ (x : Lit). IsTrue (set x))) closed
]

-- a start that is among more, or derived from nothing
pub refuted_by : (Among : Nogood → Type 0) (start more : Nogood) → IsRefuted Among start → All (λ (l : Lit). Contains more l ⊎ IsDerived Among [] l) start → IsRefuted Among more
refuted_by Among start more refuted from = λ set whole closed.
    refuted set (λ k d lt. in_set Among set more (get_or start k d) whole closed (from k d lt)) closed

pub refuted_more : (Among : Nogood → Type 0) (start more : Nogood) → IsRefuted Among start → All (Contains more) start → IsRefuted Among more
refuted_more Among start more refuted among = refuted_by Among start more refuted (λ k d lt. inl (among k d lt))

pub itself_refuted : (Among : Nogood → Type 0) (nogood : Nogood) → Among nogood → IsRefuted Among nogood
itself_refuted Among nogood among = λ set whole closed. inl (record { nogood = nogood; among = among; whole = whole })

pub lits_has : (entries : List Entry) (places : List ℕ) (p : ℕ) → Contains places p → Contains (lits_at entries places) (lit_at entries p)
lits_has entries [] p among = absurd (let h : among.0 < 0 = among.1 in omega (arith, h))
lits_has entries (q ∷ places) p among = elim (Contains-cases q places p among) [
  | inl here ↦ subst (λ (k : ℕ). Contains (lits_at entries (q ∷ places)) (lit_at entries k)) here (Contains-first (lit_at entries q) (lits_at entries places))
  | inr there ↦ Contains-behind (lit_at entries q) (lits_at entries places) (lit_at entries p) (lits_has entries places p there)
]

-- the literals of the first places are derived from nothing
abbrev pub Follow : (Nogood → Type 0) → List Entry → ℕ → Type 0
Follow Among entries fixed = (p : ℕ) → p < fixed → p < length entries → IsDerived Among [] (lit_at entries p)

module _ (Among : Nogood → Type 0) (entries : List Entry) (fixed : ℕ) (follow : Follow Among entries fixed) where
  -- a literal of the nogood that holds before the bound is among those that are marked, or derived from nothing
  pub holds_marked : (below : ℕ) (places : List ℕ) (nogood : Nogood) (lit : Lit) → below ≤ length entries → Contains nogood lit → HoldsIn (take below entries) lit → Contains (lits_at entries (marked entries fixed below places nogood)) lit ⊎ IsDerived Among [] lit
  holds_marked below places nogood lit on among holds =
      let e = holds_entry (take below entries) lit holds in
      let under = front_place below entries lit.var e.entry e.found in
      let same = lit_placed entries lit e.entry (front_entry below entries lit.var e.entry e.found) e.truth in
      elim (cases_lt (place_in entries lit.var) fixed) [
        | inl early ↦ inr (subst (λ (l : Lit). IsDerived Among [] l) same (follow (place_in entries lit.var) early (omega (arith, under, on))))
        | inr from ↦ inl (subst (Contains (lits_at entries (marked entries fixed below places nogood))) same
            (lits_has entries (marked entries fixed below places nogood) (place_in entries lit.var) (marked_has entries fixed below places nogood lit among from under)))
      ]

  -- the marks of a whole nogood
  pub start_refuted : (nogood : Nogood) → IsWholeIn entries nogood → Among nogood → IsRefuted Among (lits_at entries (marked entries fixed (length entries) [] nogood))
  start_refuted nogood whole among =
      refuted_by Among nogood (lits_at entries (marked entries fixed (length entries) [] nogood)) (itself_refuted Among nogood among)
      (λ k d lt. holds_marked (length entries) [] nogood (get_or nogood k d) (omega arith) (Contains-get_or nogood k d lt)
      (subst (λ (es : List Entry). HoldsIn es (get_or nogood k d)) (sym (take_all (length entries) entries (omega arith))) (whole k d lt)))

  -- the marks that are left, with those of the reason of the last one
  pub step_refuted : (places : List ℕ) (last : ℕ) (reason : Nogood) → last ≤ length entries → IsUnitIn (take last entries) reason (opposite_of (lit_at entries last)) → Among reason → IsRefuted Among (lits_at entries (places ++ last ∷ [])) → IsRefuted Among (lits_at entries (marked entries fixed last places reason))
  step_refuted places last reason on unit among refuted = λ set whole closed.
      let lit = lit_at entries last in
      let resolvent = lits_at entries (marked entries fixed last places reason) in
      let In : Lit → Type 0 = λ (l : Lit). IsTrue (set l) in
      let forced = closed reason among (opposite_of (lit_at entries last)) (record {
        contained = unit.contained;
        others = λ k d lt. elim (unit.others k d lt) [
          | inl same ↦ inl same
          | inr holds ↦ inr (in_set Among set (lits_at entries (marked entries fixed last places reason)) (get_or reason k d) whole closed (holds_marked last places reason (get_or reason k d) on (Contains-get_or reason k d lt) holds))
        ];
      }) in
      refuted set (All-map In (lit_at entries) (places ++ last ∷ [])
      (All-push (λ (p : ℕ). In (lit_at entries p)) places last
      (All-weaker (Contains places) (λ (p : ℕ). In (lit_at entries p))
      (λ p inside. All-contains In (lits_at entries (marked entries fixed last places reason)) (lit_at entries p) whole
      (lits_has entries (marked entries fixed last places reason) p (marked_keeps entries fixed last places reason p inside)))
      places (All-contains_itself places))
      (subst In (opposite_of-opposite_of (lit_at entries last)) forced))) closed

awake_is : (slot : Option Stored) (s : Stored) → awake_in slot ≡ Some s → slot ≡ Some s
awake_is None s is = cc
awake_is (Some t) s is = elim (cases_Bool (is_some t.kind)) [
  | inl awake ↦ sym (cond-true (is_some t.kind) (Some t) None awake) ∙ is
  | inr asleep ↦ (let none : None ≡ Some s = sym (cond-false (is_some t.kind) (Some t) None asleep) ∙ is in cc)
]

-- the key of a nogood of the store is stored
pub slot_found : (store : Store) (key : ℕ) (s : Stored) → nogood_at store key ≡ Some s → slot_at store key ≡ Some s
slot_found store key s found = awake_is (slot_at store key) s found

-- a nogood that isn't temporary is among those that aren't
pub lasting_among : (store : Store) (key : ℕ) (s : Stored) → nogood_at store key ≡ Some s → is_temporary (nogood_at store key) ≡ false → IsNotTemporary store s.lits
lasting_among store key s found lasts = record { key = key; stored = s; found = found; same = refl; lasting = sym (ap is_temporary found) ∙ lasts }

-- what isn't temporary is in the store
pub untemporary_stored : (store : Store) (nogood : Nogood) → IsNotTemporary store nogood → IsStored store nogood
untemporary_stored store nogood n = record { key = n.key; stored = n.stored; found = n.found; same = n.same }

-- and what is derived from it is derived from the store
pub derived_stored : (store : Store) (start : Nogood) (lit : Lit) → IsDerived (IsNotTemporary store) start lit → IsDerived (IsStored store) start lit
derived_stored store start lit derived = λ set whole closed. derived set whole (λ nogood among. closed nogood (untemporary_stored store nogood among))

fixed_follow : (store : Store) (entries : List Entry) (fixed : ℕ) → AreFixed store entries fixed → Follow (IsNotTemporary store) entries fixed
fixed_follow store entries fixed f p below within = f.derived p no_entry below within

fixed_stored : (store : Store) (entries : List Entry) (fixed : ℕ) → AreFixed store entries fixed → Follow (IsStored store) entries fixed
fixed_stored store entries fixed f p below within = derived_stored store [] (lit_at entries p) (f.derived p no_entry below within)

neither : (a b : Bool) → (a || b) ≡ false → (a ≡ false) × (b ≡ false)
neither true b is = cc
neither false b is = (refl, is)

-- the cut that a violated nogood begins with
pub cut_start : (store : Store) (entries : List Entry) (fixed : ℕ) → AreFixed store entries fixed → (key : ℕ) (s : Stored) (places : List ℕ) (temporary : Bool) → nogood_at store key ≡ Some s → IsWholeIn entries s.lits → places ≡ marked entries fixed (length entries) [] s.lits → temporary ≡ (false || is_temporary (nogood_at store key)) → IsCut store entries places temporary
cut_start store entries fixed f key s places temporary found whole is label =
    subst (λ (ps : List ℕ). IsCut store entries ps temporary) (sym is) (record {
      within = marked_all (λ (p : ℕ). p < length entries) entries fixed (length entries) [] s.lits (All-nil (λ (p : ℕ). p < length entries)) (λ p lt. lt);
      refuted = start_refuted (IsStored store) entries fixed (fixed_stored store entries fixed f) s.lits whole (stored_among store key s found);
      lasting = λ lasts. start_refuted (IsNotTemporary store) entries fixed (fixed_follow store entries fixed f) s.lits whole (lasting_among store key s found (sym label ∙ lasts));
    })

-- the cut with the reason of its last place in place of it
pub cut_step : (store : Store) (entries : List Entry) (fixed : ℕ) → AreFixed store entries fixed → (places new : List ℕ) (last key : ℕ) (s : Stored) (old temporary : Bool) → IsCut store entries (places ++ last ∷ []) old → nogood_at store key ≡ Some s → IsUnitIn (take last entries) s.lits (opposite_of (lit_at entries last)) → new ≡ marked entries fixed last places s.lits → temporary ≡ (old || is_temporary (nogood_at store key)) → IsCut store entries new temporary
cut_step store entries fixed f places new last key s old temporary cut found unit is label =
    let on : last < length entries = All-last (λ (p : ℕ). p < length entries) places last cut.within in
    subst (λ (ps : List ℕ). IsCut store entries ps temporary) (sym is) (record {
      within = marked_all (λ (p : ℕ). p < length entries) entries fixed last places s.lits (All-front (λ (p : ℕ). p < length entries) places last cut.within) (λ p lt. omega (arith, lt, on));
      refuted = step_refuted (IsStored store) entries fixed (fixed_stored store entries fixed f) places last s.lits (omega (arith, on)) unit (stored_among store key s found) cut.refuted;
      lasting = λ lasts.
          let both = neither old (is_temporary (nogood_at store key)) (sym label ∙ lasts) in
          step_refuted (IsNotTemporary store) entries fixed (fixed_follow store entries fixed f) places last s.lits (omega (arith, on)) unit (lasting_among store key s found both.1) (cut.lasting both.0);
    })
