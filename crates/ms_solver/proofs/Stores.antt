-- Stores that keep what they have.
use Rattle.std.proofs.Common.{◌≡◌, ◌∙◌, ◌⊎◌, ℕ, Bool, true, List, [], ◌∷◌, ◌++◌, Option, Some, None, get_or, option_map, refl, sym, ap, subst, inl, inr}
use Rattle.std.specs.Prelude.{is_some}
use Rattle.std.specs.List.{Contains, filter_map}
use Rattle.std.proofs.lemmas.Bool.{cases_eq}
use Rattle.std.proofs.lemmas.List.Elements.{Contains-append_left, Contains-push}
use Rattle.ms_lits.specs.Literals.{Nogood}
use Rattle.ms_nogood.specs.Store.{Adds, AreKept, Store, Stored, Wakes, awake_in, holds_kept, is_kept, kept_after, slot_at}
use Rattle.ms_nogood.specs.declared.kind.Kind.{Kind}
use Rattle.ms_nogood.specs.declared.kind.Kind.TheVariants.{Base}
use Rattle.ms_nogood.specs.Watching.{HasSameLits}
use Rattle.ms_complete.specs.Bases.{HasExactly, KeepsKeys, base_of}
use Rattle.ms_complete.proofs.Lists.{none_is_some, same_some}
use Rattle.ms_search.specs.Problems.{AreLasting, kept_nogoods, literals_at}
use Rattle.ms_search.specs.Runs.{AreAttached}
use Rattle.ms_search.proofs.Begins.{awake_slot}
use Rattle.ms_search.proofs.Lists.{filter_map-alike}
use Rattle.ms_solver.specs.Extending.{AddsAsleep, KeepsSlots}

-- The keys of kept nogoods have what they had, and there are no others.
pub record KeepsKept (old new : Store) : Type 0 where
  pub stays : (key : ℕ) → holds_kept (slot_at old key) ≡ true → slot_at new key ≡ slot_at old key
  pub was : (key : ℕ) → holds_kept (slot_at new key) ≡ true → slot_at new key ≡ slot_at old key
  pub kept : new.kept ≡ old.kept

module _ (old new : Store) (order : AreKept old.slots old.kept) (k : KeepsKept old new) where
  pub order_stays : AreKept new.slots new.kept
  order_stays = subst (AreKept new.slots) (sym k.kept) (record {
    all_kept = λ i d lt. ap holds_kept (k.stays (get_or old.kept i d) (order.all_kept i d lt)) ∙ order.all_kept i d lt;
    every_one = λ key here. order.every_one key (ap holds_kept (sym (k.was key here)) ∙ here);
    once = order.once;
  })

  pub kept_stays : kept_nogoods new ≡ kept_nogoods old
  kept_stays =
      ap (filter_map (literals_at new)) k.kept
      ∙ filter_map-alike (literals_at new) (literals_at old) old.kept (λ i d lt. ap (option_map (λ (s : Stored). s.lits)) (k.stays (get_or old.kept i d) (order.all_kept i d lt)))

-- what holds something kept has something
some_kept : (o : Option Stored) → holds_kept o ≡ true → (s : Stored) × (o ≡ Some s)
some_kept None is = cc
some_kept (Some s) is = (s, refl)

some_there : (o : Option Stored) → is_some o ≡ true → (s : Stored) × (o ≡ Some s)
some_there None is = cc
some_there (Some s) is = (s, refl)

not_kept : (o : Option Stored) (s : Stored) → o ≡ Some s → (s.kind ≡ Some Base) ⊎ (s.kind ≡ None) → holds_kept o ≡ true → ⊥
not_kept o s is kind kept = elim kind [
  | inl base ↦ (let same : holds_kept o ≡ is_kept (Some Base) = ap holds_kept is ∙ ap is_kept base in cc)
  | inr none ↦ (let same : holds_kept o ≡ is_kept None = ap holds_kept is ∙ ap is_kept none in cc)
]

not_awake : (s t : Stored) → s.kind ≡ None → awake_in (Some s) ≡ Some t → ⊥
not_awake s t none is = by_kind s.kind refl
  where
    by_kind : (kind : Option Kind) → s.kind ≡ kind → ⊥
    by_kind None same = cc
    by_kind (Some kind) same = cc

module _ (old new : Store) (k : KeepsSlots old new) where
  pub slots_keep_kept : KeepsKept old new
  slots_keep_kept = record {
    stays = λ key here. let s = some_kept (slot_at old key) here in k.keeps key s.0 s.1 ∙ sym s.1;
    was = λ key here. let s = some_kept (slot_at new key) here in elim (k.each key s.0 s.1) [
      | inl before ↦ s.1 ∙ sym before
      | inr kind ↦ absurd (not_kept (slot_at new key) s.0 s.1 kind here)
    ];
    kept = k.kept;
  }

  pub slots_keep_lasting : AreLasting old → AreLasting new
  slots_keep_lasting lasting key stored found =
      let slot = awake_slot (slot_at new key) stored found in
      elim (k.each key stored slot) [
        | inl before ↦ lasting key stored (ap awake_in (before ∙ sym slot) ∙ found)
        | inr kind ↦ elim kind [
          | inl base ↦ inl base
          | inr none ↦ absurd (not_awake stored stored none (ap awake_in (sym slot) ∙ found))
        ]
      ]

  pub slots_keep_attached : (attached : ℕ → Bool) → AreAttached attached old → AreAttached attached new
  slots_keep_attached attached a = record {
    known = λ key is. let s = some_there (slot_at old key) (a.known key is) in ap is_some (k.keeps key s.0 s.1);
    fresh = λ key is. let s = some_there (slot_at new key) is in elim (k.given key s.0 s.1) [
      | inl before ↦ elim (a.fresh key (ap is_some before)) [
        | inl already ↦ inl already
        | inr has ↦ inr (k.fresh key has)
      ]
      | inr has ↦ inr has
    ];
  }

  pub slots_keep_lits : (key : ℕ) → is_some (slot_at old key) ≡ true → HasSameLits old new key
  slots_keep_lits key is = let s = some_there (slot_at old key) is in ap (option_map (λ (t : Stored). t.lits)) (k.keeps key s.0 s.1 ∙ sym s.1)

-- nogoods of the program, and then some that are asleep
pub slots_from : (old mid new : Store) → KeepsKeys old mid → AddsAsleep mid new → KeepsSlots old new
slots_from old mid new first second = record {
  keeps = λ key stored at. second.keeps key stored (first.keeps key stored at);
  each = λ key stored at. elim (second.each key stored at) [
    | inl before ↦ elim (first.each key stored before) [
      | inl older ↦ inl older
      | inr base ↦ inr (inl base)
    ]
    | inr none ↦ inr (inr none)
  ];
  given = λ key stored at. elim (second.given key stored at) [
    | inl before ↦ elim (first.given key stored before) [
      | inl older ↦ inl older
      | inr has ↦ inr (second.fresh key has)
    ]
    | inr has ↦ inr has
  ];
  fresh = λ key has. second.fresh key (first.fresh key has);
  kept = second.kept ∙ first.kept;
}

base_awake : Some Base ≡ None → ⊥
base_awake none = cc

-- what is asleep is none of the program
pub exactly_still : (old new : Store) (Is : Nogood → Type 0) → AddsAsleep old new → HasExactly old Is → HasExactly new Is
exactly_still old new Is adds has nogood = (
  λ at. elim (adds.each at.0 (base_of nogood) at.1) [
    | inl before ↦ (has nogood).0 (at.0, before)
    | inr none ↦ absurd (base_awake none)
  ],
  λ is. let at = (has nogood).1 is in (at.0, adds.keeps at.0 (base_of nogood) at.1),
)

pub sleeps_none : (store : Store) → AddsAsleep store store
sleeps_none store = record {
  keeps = λ key stored at. at;
  each = λ key stored at. inl at;
  given = λ key stored at. inl at;
  fresh = λ key has. has;
  kept = refl;
}

-- one more that is asleep
pub sleeps_more : (old mid new : Store) (stored : Stored) (key : ℕ) → AddsAsleep old mid → stored.kind ≡ None → Adds mid new stored key → AddsAsleep old new
sleeps_more old mid new s key first asleep adds = record {
  keeps = λ k stored at. still k stored (first.keeps k stored at);
  each = λ k stored at. elim (cases_eq k key) [
    | inl same ↦ inr (ap (λ (t : Stored). t.kind) (same_some stored s (sym at ∙ (ap (slot_at new) same ∙ adds.added))) ∙ asleep)
    | inr differ ↦ first.each k stored (sym (adds.others k differ) ∙ at)
  ];
  given = λ k stored at. elim (cases_eq k key) [
    | inl same ↦ inr (subst (λ (ks : List ℕ). Contains ks k) (sym adds.fresh) (subst (Contains (mid.fresh ++ key ∷ [])) (sym same) (Contains-push mid.fresh key)))
    | inr differ ↦ elim (first.given k stored (sym (adds.others k differ) ∙ at)) [
      | inl older ↦ inl older
      | inr has ↦ inr (fresh_still k has)
    ]
  ];
  fresh = λ k has. fresh_still k (first.fresh k has);
  kept = kept_same ∙ first.kept;
}
  where
    still : (k : ℕ) (stored : Stored) → slot_at mid k ≡ Some stored → slot_at new k ≡ Some stored
    still k stored at = elim (cases_eq k key) [
      | inl same ↦ absurd (none_is_some stored (sym (ap (slot_at mid) same ∙ adds.was_free) ∙ at))
      | inr differ ↦ adds.others k differ ∙ at
    ]

    fresh_still : (k : ℕ) → Contains mid.fresh k → Contains new.fresh k
    fresh_still k has = subst (λ (ks : List ℕ). Contains ks k) (sym adds.fresh) (Contains-append_left mid.fresh (key ∷ []) k has)

    kept_same : new.kept ≡ mid.kept
    kept_same = adds.kept ∙ ap (λ (kind : Option Kind). kept_after mid.kept kind key) asleep

-- ---- one is woken

module _ (old new : Store) (key : ℕ) (s : Stored) (there : slot_at old key ≡ Some s) (asleep : s.kind ≡ None) (w : Wakes old new key) where
  woken_is : slot_at new key ≡ Some (record { lits = s.lits; kind = Some Base })
  woken_is = w.woken ∙ ap (option_map (λ (t : Stored). record { lits = t.lits; kind = Some Base })) there

  pub woken_keeps_kept : KeepsKept old new
  woken_keeps_kept = record {
    stays = λ k here. elim (cases_eq k key) [
      | inl same ↦ absurd (not_kept (slot_at old k) s (ap (slot_at old) same ∙ there) (inr asleep) here)
      | inr differ ↦ w.others k differ
    ];
    was = λ k here. elim (cases_eq k key) [
      | inl same ↦ absurd (not_kept (slot_at new k) (record { lits = s.lits; kind = Some Base }) (ap (slot_at new) same ∙ woken_is) (inl refl) here)
      | inr differ ↦ w.others k differ
    ];
    kept = w.kept;
  }

  pub woken_keeps_lasting : AreLasting old → AreLasting new
  woken_keeps_lasting lasting k stored found = elim (cases_eq k key) [
    | inl same ↦ inl (ap (λ (t : Stored). t.kind) (same_some stored (record { lits = s.lits; kind = Some Base }) (sym (awake_slot (slot_at new k) stored found) ∙ (ap (slot_at new) same ∙ woken_is))))
    | inr differ ↦ lasting k stored (ap awake_in (sym (w.others k differ)) ∙ found)
  ]

  pub woken_keeps_lits : (k : ℕ) → HasSameLits old new k
  woken_keeps_lits k = elim (cases_eq k key) [
    | inl same ↦ ap (λ (n : ℕ). option_map (λ (t : Stored). t.lits) (slot_at new n)) same ∙ (ap (option_map (λ (t : Stored). t.lits)) (woken_is ∙ sym (ap (option_map (λ (t : Stored). record { lits = t.lits; kind = Some Base })) there))
        ∙ (lits_woken (slot_at old key) ∙ ap (λ (n : ℕ). option_map (λ (t : Stored). t.lits) (slot_at old n)) (sym same)))
    | inr differ ↦ ap (option_map (λ (t : Stored). t.lits)) (w.others k differ)
  ]
    where
      lits_woken : (o : Option Stored) → option_map (λ (t : Stored). t.lits) (option_map (λ (t : Stored). record { lits = t.lits; kind = Some Base }) o) ≡ option_map (λ (t : Stored). t.lits) o
      lits_woken None = refl
      lits_woken (Some t) = refl

  some_still : (k : ℕ) → is_some (slot_at new k) ≡ is_some (slot_at old k)
  some_still k = elim (cases_eq k key) [
    | inl same ↦ ap (λ (n : ℕ). is_some (slot_at new n)) same ∙ (ap is_some woken_is ∙ (sym (ap is_some there) ∙ ap (λ (n : ℕ). is_some (slot_at old n)) (sym same)))
    | inr differ ↦ ap is_some (w.others k differ)
  ]

  pub woken_keeps_attached : (attached : ℕ → Bool) → AreAttached attached old → AreAttached attached new
  woken_keeps_attached attached a = record {
    known = λ k is. some_still k ∙ a.known k is;
    fresh = λ k is. elim (a.fresh k (sym (some_still k) ∙ is)) [
      | inl already ↦ inl already
      | inr has ↦ inr (subst (λ (ks : List ℕ). Contains ks k) (sym w.fresh) has)
    ];
  }
