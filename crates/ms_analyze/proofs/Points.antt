-- The first unique implication point: what is read off the last stage.
use Rattle.std.proofs.Common.{ℕ, ◌≡◌, ◌<◌, ◌≤◌, ◌-◌, ◌⊎◌, inl, inr, suc, List, [], ◌∷◌, ◌++◌, Some, None, Bool, false, length, get_or, option_map, refl, sym, ◌∙◌, ap, subst, arith, All, reverse}
use Rattle.std.specs.Prelude.{◌≢◌, AllPairs, Contains, IsTrue}
use Rattle.std.specs.Ordering.{nat_cmp}
use Rattle.std.specs.List.Sorted.{IsStrictlySortedBy}
use Rattle.std.proofs.lemmas.Bool.{cases_lt}
use Rattle.std.proofs.lemmas.List.{get_or_default, map-append, reverse-append}
use Rattle.std.proofs.lemmas.List.Elements.{All-cons, All-contains, All-head, All-map, All-nil, All-push, All-same, All-tail, All-weaker, Contains-get_or, Contains-append_left, Contains-push}
use Rattle.std.proofs.lemmas.List.Kept.{AllPairs-cons}
use Rattle.std.proofs.lemmas.List.Quantifiers.{all_pairs_push}
use Rattle.std.proofs.lemmas.Map.Keys.{below_from_sorted, sorted_tail}
use Rattle.std.proofs.lemmas.Option.{slice_get-get_or}
use Rattle.ms_lits.specs.declared.lit.Lit.{Lit}
use Rattle.ms_lits.specs.declared.trail.Entry.{Entry}
use Rattle.ms_lits.specs.Literals.{Nogood, IsRefuted}
use Rattle.ms_lits.specs.Assignment.{Assignment, HoldsIn, IsAssignment, IsWholeIn, up_to, value_in}
use Rattle.ms_nogood.specs.Store.{Store}
use Rattle.ms_nogood.specs.Propagation.{IsStored}
use Rattle.ms_analyze.specs.declared.Learned.{Learned}
use Rattle.ms_analyze.specs.Analysis.{HasTemporaryReason, IsAsserting, IsBelow, IsGreatestBelow, IsTemporaryAt, level_in, IsNotTemporary}
use Rattle.ms_analyze.specs.Cuts.{IsReadOff, entry_at, last_level, level_at, level_or_0, lit_at, lits_at, no_entry}
use Rattle.ms_analyze.proofs.Marked.{Contains-first, Contains-behind}
use Rattle.ms_analyze.proofs.Resolved.{All-front, lits_has, refuted_more}
use Rattle.ms_analyze.proofs.Stages.{IsStage, found_room}
use Rattle.ms_analyze.proofs.Trails.{entry_there, holds_entry, holds_there, kept_up_to, level_there, lost_up_to}

turned : (x : ℕ) (xs : List ℕ) → reverse (x ∷ xs) ≡ reverse xs ++ x ∷ []
turned x xs = reverse-append (x ∷ []) xs

All-reverse : (P : ℕ → Type 0) (xs : List ℕ) → All P xs → All P (reverse xs)
All-reverse P [] all = all
All-reverse P (x ∷ xs) all =
    All-same P (reverse (x ∷ xs)) (reverse xs ++ x ∷ []) (turned x xs)
    (All-push P (reverse xs) x (All-reverse P xs (All-tail P x xs all)) (All-head P x xs all))

all_turned : (xs : List ℕ) → All (Contains (reverse xs)) xs
all_turned [] = All-nil (Contains [])
all_turned (x ∷ xs) =
    subst (λ (ys : List ℕ). All (Contains ys) (x ∷ xs)) (sym (turned x xs))
    (All-cons (Contains (reverse xs ++ x ∷ [])) x xs (Contains-push (reverse xs) x)
    (All-weaker (Contains (reverse xs)) (Contains (reverse xs ++ x ∷ [])) (λ y among. Contains-append_left (reverse xs) (x ∷ []) y among) xs (all_turned xs)))

Contains-reverse : (xs : List ℕ) (p : ℕ) → Contains xs p → Contains (reverse xs) p
Contains-reverse xs p among = All-contains (Contains (reverse xs)) xs p (all_turned xs) among

lits_read : (P : Lit → Type 0) (entries : List Entry) (places : List ℕ) → All (λ (p : ℕ). P (lit_at entries p)) places → All P (lits_at entries (reverse places))
lits_read P entries places all = All-map P (lit_at entries) (reverse places) (All-reverse (λ (p : ℕ). P (lit_at entries p)) places all)

-- the first of ascending places is below the others
head_below : (x : ℕ) (xs : List ℕ) → IsStrictlySortedBy nat_cmp (x ∷ xs) → All (λ (y : ℕ). x < y) xs
head_below x xs sorted = λ k d lt. below_from_sorted (x ∷ xs) 0 (suc k) d sorted (omega arith) (omega arith)

-- the last of ascending places is at least as great as each
up_to_last : (xs : List ℕ) (d : ℕ) → IsStrictlySortedBy nat_cmp xs → All (λ (x : ℕ). x ≤ get_or xs (length xs - 1) d) xs
up_to_last xs d sorted = λ k e lt. elim (cases_lt k (length xs - 1)) [
  | inl before ↦ (let below = below_from_sorted xs k (length xs - 1) d sorted before (omega arith) in let same : get_or xs k e ≡ get_or xs k d = get_or_default xs k e d lt in omega (arith, below, same))
  | inr behind ↦ (let at : k ≡ length xs - 1 = omega arith in let same : get_or xs k e ≡ get_or xs (length xs - 1) d = get_or_default xs k e d lt ∙ ap (λ (n : ℕ). get_or xs n d) at in omega (arith, same))
]

last_is : (entries : List Entry) (places : List ℕ) → 0 < length places → last_level entries places ≡ level_at entries (get_or places (length places - 1) 0)
last_is entries places some = ap (level_or_0 entries) (slice_get-get_or places (length places - 1) 0 (omega (arith, some)))

module _ (a : Assignment) (t : IsAssignment a) where
  -- literals of different places are of different variables
  apart : (p q : ℕ) → p < length a.entries → q < length a.entries → p < q → (lit_at a.entries q).var ≡ (lit_at a.entries p).var → ⊥
  apart p q on_p on_q below same = let k = t.once q p no_entry on_q on_p same in absurd (omega (arith, k, below))

  others_different : (places : List ℕ) → IsStrictlySortedBy nat_cmp places → All (λ (p : ℕ). p < length a.entries) places → AllPairs (λ (l : Lit) (m : Lit). l.var ≢ m.var) (lits_at a.entries (reverse places))
  others_different [] sorted within = λ i j d before lt. absurd (omega arith)
  others_different (x ∷ xs) sorted within =
      let on = All-head (λ (p : ℕ). p < length a.entries) x xs within in
      let rest = All-tail (λ (p : ℕ). p < length a.entries) x xs within in
      let splits : lits_at a.entries (reverse (x ∷ xs)) ≡ lits_at a.entries (reverse xs) ++ lit_at a.entries x ∷ [] = ap (lits_at a.entries) (turned x xs) ∙ map-append (lit_at a.entries) (reverse xs) (x ∷ []) in
      subst (λ (ls : List Lit). AllPairs (λ (l : Lit) (m : Lit). l.var ≢ m.var) ls) (sym splits)
      (all_pairs_push (λ (l : Lit) (m : Lit). l.var ≢ m.var) (lits_at a.entries (reverse xs)) (lit_at a.entries x)
      (others_different xs (sorted_tail nat_cmp x xs sorted) rest)
      (lits_read (λ (l : Lit). l.var ≢ (lit_at a.entries x).var) a.entries xs
      (λ k d lt. apart x (get_or xs k d) on (rest k d lt) (head_below x xs sorted k d lt))))

  all_different : (places : List ℕ) (last : ℕ) → IsStrictlySortedBy nat_cmp places → All (λ (p : ℕ). p < length a.entries) places → last < length a.entries → All (λ (p : ℕ). p < last) places → AllPairs (λ (l : Lit) (m : Lit). l.var ≢ m.var) (lit_at a.entries last ∷ lits_at a.entries (reverse places))
  all_different places last sorted within on below =
      AllPairs-cons (λ (l : Lit) (m : Lit). l.var ≢ m.var) (lit_at a.entries last) (lits_at a.entries (reverse places))
      (lits_read (λ (l : Lit). (lit_at a.entries last).var ≢ l.var) a.entries places
      (λ k d lt. apart (get_or places k d) last (within k d lt) on (below k d lt)))
      (others_different places sorted within)

  all_whole : (places : List ℕ) (last : ℕ) → All (λ (p : ℕ). p < length a.entries) places → last < length a.entries → IsWholeIn a.entries (lit_at a.entries last ∷ lits_at a.entries (reverse places))
  all_whole places last within on =
      All-cons (HoldsIn a.entries) (lit_at a.entries last) (lits_at a.entries (reverse places)) (holds_there a t last on)
      (lits_read (HoldsIn a.entries) a.entries places (λ k d lt. holds_there a t (get_or places k d) (within k d lt)))

  -- no other place has a greater level than the last one
  levels_most : (places : List ℕ) → IsStrictlySortedBy nat_cmp places → All (λ (p : ℕ). p < length a.entries) places → All (λ (p : ℕ). level_at a.entries p ≤ last_level a.entries places) places
  levels_most places sorted within = λ k d lt.
      let is = last_is a.entries places (omega (arith, lt)) in
      let on = within (length places - 1) 0 (omega (arith, lt)) in
      let rise = t.rising (get_or places k d) (get_or places (length places - 1) 0) no_entry (up_to_last places 0 sorted k d lt) on in
      omega (arith, rise, is)

  last_lower : (places : List ℕ) → 1 ≤ a.level → All (λ (p : ℕ). level_at a.entries p < a.level) places → last_level a.entries places < a.level
  last_lower [] one lower = omega (arith, one)
  last_lower (x ∷ xs) one lower =
      let is = last_is a.entries (x ∷ xs) (omega arith) in
      let low = lower (length xs) 0 (omega arith) in
      omega (arith, is, low)

  kept_there : (back p : ℕ) → p < length a.entries → level_at a.entries p ≤ back → HoldsIn (up_to back a.entries) (lit_at a.entries p)
  kept_there back p on low = ap (option_map (λ (e : Entry). e.lit.truth)) (kept_up_to back a.entries (lit_at a.entries p).var (entry_at a.entries p) (entry_there a t p no_entry on) low)

  lost_there : (back last : ℕ) → last < length a.entries → back < level_at a.entries last → value_in (up_to back a.entries) (lit_at a.entries last).var ≡ None
  lost_there back last on high =
      ap (option_map (λ (e : Entry). e.lit.truth)) (lost_up_to back a.entries (lit_at a.entries last).var
      (λ i lt same.
      let at : i ≡ last = t.once i last no_entry lt on same in
      subst (λ (k : ℕ). back < level_at a.entries k) (sym at) high))

some_number : (m n : ℕ) → Some m ≡ Some n → m ≡ n
some_number m n is = cc

none_last : (entries : List Entry) (places : List ℕ) → length places ≡ 0 → last_level entries places ≡ 0
none_last entries [] none = refl
none_last entries (p ∷ places) none = absurd (omega (arith, none))

-- The last stage, where no other place is of the present level, and what is read off it.
pub record IsLastStage (store : Store) (a : Assignment) (violated : ℕ) (places : List ℕ) (last : ℕ) (temporary : Bool) : Type 0 where
  pub assignment : IsAssignment a
  pub level : 1 ≤ a.level
  pub stage : IsStage store a violated places last temporary
  pub alone : All (λ (p : ℕ). level_at a.entries p < a.level) places

pub last_stage : (store : Store) (a : Assignment) (violated : ℕ) (places : List ℕ) (last : ℕ) (temporary : Bool) → IsAssignment a → 1 ≤ a.level → IsStage store a violated places last temporary → All (λ (p : ℕ). level_at a.entries p < a.level) places → IsLastStage store a violated places last temporary
last_stage store a violated places last temporary assignment level stage alone = record { assignment = assignment; level = level; stage = stage; alone = alone }

module _ (store : Store) (a : Assignment) (violated : ℕ) (places : List ℕ) (last : ℕ) (temporary : Bool) (s : IsLastStage store a violated places last temporary) where
  within : All (λ (p : ℕ). p < length a.entries) places
  within = All-front (λ (p : ℕ). p < length a.entries) places last s.stage.cut.within

  under : last_level a.entries places < a.level
  under = last_lower a s.assignment places s.level s.alone

  present : level_in a.entries (lit_at a.entries last) ≡ Some a.level
  present = level_there a s.assignment last s.stage.within ∙ ap Some s.stage.present

  low : All (λ (p : ℕ). level_at a.entries p ≤ last_level a.entries places) places
  low = levels_most a s.assignment places s.stage.ordered within

  point_asserts : IsAsserting a (lit_at a.entries last ∷ lits_at a.entries (reverse places)) (last_level a.entries places)
  point_asserts =
      let lit = lit_at a.entries last in
      let others = lits_at a.entries (reverse places) in
      let Kept : Lit → Type 0 = λ (other : Lit). (other ≡ lit_at a.entries last) ⊎ HoldsIn (up_to (last_level a.entries places) a.entries) other in
      record {
        lit = lit;
        others = others;
        is = refl;
        present = present;
        lower = lits_read (IsBelow a.entries a.level) a.entries places
            (λ k d lt. record { lower = level_at a.entries (get_or places k d); of_level = level_there a s.assignment (get_or places k d) (within k d lt); below = s.alone k d lt });
        unit = record {
          contained = Contains-first lit others;
          unassigned = lost_there a s.assignment (last_level a.entries places) last s.stage.within (subst (λ (n : ℕ). last_level a.entries places < n) (sym s.stage.present) under);
          others = All-cons Kept lit others (inl refl)
              (lits_read Kept a.entries places (λ k d lt. inr (kept_there a s.assignment (last_level a.entries places) (get_or places k d) (within k d lt) (low k d lt))));
        };
      }

  abbrev Least : Lit → Type 0
  Least lit = (level : ℕ) → level_in a.entries lit ≡ Some level → level < a.level → level ≤ last_level a.entries places

  point_least : All Least (lit_at a.entries last ∷ lits_at a.entries (reverse places))
  point_least =
      All-cons Least (lit_at a.entries last) (lits_at a.entries (reverse places))
      (λ level is lower. let same : a.level ≡ level = some_number a.level level (sym present ∙ is) in absurd (omega (arith, same, lower)))
      (lits_read Least a.entries places (λ k d lt level is lower.
      let same : level_at a.entries (get_or places k d) ≡ level = some_number _ level (sym (level_there a s.assignment (get_or places k d) (within k d lt)) ∙ is) in
      let most = low k d lt in
      omega (arith, same, most)))

  point_back : IsGreatestBelow a (lit_at a.entries last ∷ lits_at a.entries (reverse places)) (last_level a.entries places)
  point_back = record {
    below = under;
    greatest = λ lit level among is lower. All-contains Least (lit_at a.entries last ∷ lits_at a.entries (reverse places)) lit point_least among level is lower;
    reached = elim (cases_lt 0 (length places)) [
      | inl some ↦
          let p = get_or places (length places - 1) 0 in
          let inside : length places - 1 < length places = omega (arith, some) in
          inr (record {
            lit = lit_at a.entries p;
            among = Contains-behind (lit_at a.entries last) (lits_at a.entries (reverse places)) (lit_at a.entries p)
                (lits_has a.entries (reverse places) p (Contains-reverse places p (Contains-get_or places (length places - 1) 0 inside)));
            of_level = level_there a s.assignment p (within (length places - 1) 0 inside) ∙ ap Some (sym (last_is a.entries places some));
          })
      | inr none ↦ inl (none_last a.entries places (omega (arith, none)))
    ];
  }

  point_refuted : (nogoods : Nogood → Type 0) → IsRefuted nogoods (lits_at a.entries (places ++ last ∷ [])) → IsRefuted nogoods (lit_at a.entries last ∷ lits_at a.entries (reverse places))
  point_refuted nogoods refuted =
      let Among : ℕ → Type 0 = λ (p : ℕ). Contains (lit_at a.entries last ∷ lits_at a.entries (reverse places)) (lit_at a.entries p) in
      refuted_more nogoods (lits_at a.entries (places ++ last ∷ [])) (lit_at a.entries last ∷ lits_at a.entries (reverse places)) refuted
      (All-map (Contains (lit_at a.entries last ∷ lits_at a.entries (reverse places))) (lit_at a.entries) (places ++ last ∷ [])
      (All-push Among places last
      (All-weaker (Contains (reverse places)) Among
      (λ p among. Contains-behind (lit_at a.entries last) (lits_at a.entries (reverse places)) (lit_at a.entries p) (lits_has a.entries (reverse places) p among))
      places (all_turned places))
      (Contains-first (lit_at a.entries last) (lits_at a.entries (reverse places)))))

  module _ (learned : Learned) (r : IsReadOff a.entries places last temporary learned) where
    pub learned_whole : IsWholeIn a.entries learned.lits
    learned_whole = subst (IsWholeIn a.entries) (sym r.lits) (all_whole a s.assignment places last within s.stage.within)

    pub learned_room : All (λ (l : Lit). l.var < a.room) learned.lits
    learned_room = λ k d lt. let e = holds_entry a.entries (get_or learned.lits k d) (learned_whole k d lt) in found_room a _ e.entry s.assignment e.found

    pub learned_different : AllPairs (λ (l : Lit) (m : Lit). l.var ≢ m.var) learned.lits
    learned_different = subst (λ (ls : List Lit). AllPairs (λ (l : Lit) (m : Lit). l.var ≢ m.var) ls) (sym r.lits) (all_different a s.assignment places last s.stage.ordered within s.stage.within s.stage.below)

    pub learned_asserts : IsAsserting a learned.lits learned.back
    learned_asserts = subst (λ (ls : List Lit). IsAsserting a ls learned.back) (sym r.lits) (subst (IsAsserting a (lit_at a.entries last ∷ lits_at a.entries (reverse places))) (sym r.back) point_asserts)

    pub learned_back : IsGreatestBelow a learned.lits learned.back
    learned_back = subst (λ (ls : List Lit). IsGreatestBelow a ls learned.back) (sym r.lits) (subst (IsGreatestBelow a (lit_at a.entries last ∷ lits_at a.entries (reverse places))) (sym r.back) point_back)

    pub learned_refuted : IsRefuted (IsStored store) learned.lits
    learned_refuted = subst (IsRefuted (IsStored store)) (sym r.lits) (point_refuted (IsStored store) s.stage.cut.refuted)

    pub learned_lasts : learned.temporary ≡ false → IsRefuted (IsNotTemporary store) learned.lits
    learned_lasts lasts = subst (IsRefuted (IsNotTemporary store)) (sym r.lits) (point_refuted (IsNotTemporary store) (s.stage.cut.lasting (sym r.temporary ∙ lasts)))

    pub learned_temporary : IsTrue learned.temporary → IsTemporaryAt store violated ⊎ HasTemporaryReason store a.entries
    learned_temporary is = s.stage.origin (subst (λ (b : Bool). IsTrue b) r.temporary is)
