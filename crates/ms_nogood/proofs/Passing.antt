-- The keys among which those are that the end of a solve drops.
use Rattle.std.proofs.Common.{ℕ, ◌≡◌, ◌<◌, ◌+◌, ◌≤◌, ◌⊎◌, inl, inr, List, [], ◌∷◌, ◌++◌, length, Option, Some, None, Bool, true, false, get_or, set, option_map, sym, subst, ◌∙◌, ap, refl, arith}
use Rattle.std.specs.Prelude.{Contains}
use Rattle.std.proofs.lemmas.Bool.{both_ways, cases_Bool, cases_eq, cases_lt, cond-false, cond-true}
use Rattle.std.proofs.lemmas.List.{length-append, get_or_past, get_or-set_other, get_or-set_same}
use Rattle.std.proofs.Math.ListN.{get_or-append}
use Rattle.std.proofs.Math.Seq.{get_or-append_seam}
use Rattle.std.proofs.lemmas.List.Elements.{Contains-append_left, Contains-push, Contains-push_cases}
use Rattle.ms_nogood.specs.Store.{AreKept, CoverEnding, IsStore, Stored, ends, ends_by_kind, holds_kept, is_kept, lasting}
use Rattle.ms_nogood.specs.declared.kind.Kind.{Kind}
use Rattle.ms_nogood.specs.declared.kind.Kind.TheVariants.{Base, Kept, Temporary, Reason}

-- one key more
pub cover_more : (old new : List (Option Stored)) (keys : List ℕ) (key : ℕ) → CoverEnding old keys → ((other : ℕ) → (other ≡ key → ⊥) → get_or new other None ≡ get_or old other None) → CoverEnding new (keys ++ key ∷ [])
cover_more old new keys key covered others = λ other here. elim (cases_eq other key) [
  | inl same ↦ subst (Contains (keys ++ key ∷ [])) (sym same) (Contains-push keys key)
  | inr apart ↦ Contains-append_left keys (key ∷ []) other (covered other (ap ends (sym (others other apart)) ∙ here))
]

-- one nogood more or less that the end of a solve doesn't drop
pub cover_same : (old new : List (Option Stored)) (keys : List ℕ) (key : ℕ) → CoverEnding old keys → ((other : ℕ) → (other ≡ key → ⊥) → get_or new other None ≡ get_or old other None) → ends (get_or new key None) ≡ false → CoverEnding new keys
cover_same old new keys key covered others lasts = λ other here. elim (cases_eq other key) [
  | inl same ↦ absurd (both_ways (ends (get_or new key None)) lasts (ap (λ k. ends (get_or new k None)) (sym same) ∙ here))
  | inr apart ↦ covered other (ap ends (sym (others other apart)) ∙ here)
]

-- one key less, whose nogood isn't dropped
pub cover_less : (slots : List (Option Stored)) (keys left : List ℕ) (key : ℕ) → CoverEnding slots keys → keys ≡ left ++ key ∷ [] → ends (get_or slots key None) ≡ false → CoverEnding slots left
cover_less slots keys left key covered splits lasts = λ other here.
    let among = covered other here in
    elim (Contains-push_cases left key other (subst (λ (xs : List ℕ). Contains xs other) splits among)) [
      | inl inside ↦ inside
      | inr same ↦ absurd (both_ways (ends (get_or slots key None)) lasts (ap (λ k. ends (get_or slots k None)) same ∙ here))
    ]

pub lasting_same : (slot : Option Stored) → ends slot ≡ false → lasting slot ≡ slot
lasting_same None lasts = refl
lasting_same (Some s) lasts = cond-false (ends_by_kind s.kind) None (Some s) lasts

pub lasting_none : (slot : Option Stored) → ends slot ≡ true → lasting slot ≡ None
lasting_none None is = refl
lasting_none (Some s) is = cond-true (ends_by_kind s.kind) None (Some s) is

-- where no key is left to look at
pub all_last : (old new : List (Option Stored)) (key : ℕ) → CoverEnding new [] → (get_or new key None ≡ get_or old key None) ⊎ (get_or new key None ≡ lasting (get_or old key None)) → get_or new key None ≡ lasting (get_or old key None)
all_last old new key covered each = elim each [
  | inl same ↦ elim (cases_Bool (ends (get_or new key None))) [
    | inl is ↦ (let at = covered key is in absurd (omega (arith, at.1)))
    | inr lasts ↦ same ∙ sym (lasting_same (get_or old key None) (ap ends (sym same) ∙ lasts))
  ]
  | inr is ↦ is
]

unkept_kind : (kind : Option Kind) → ends_by_kind kind ≡ true → is_kept kind ≡ false
unkept_kind None is = refl
unkept_kind (Some Base) is = refl
unkept_kind (Some Kept) is = cc
unkept_kind (Some Temporary) is = refl
unkept_kind (Some Reason) is = refl

ends_unkept : (slot : Option Stored) → ends slot ≡ true → holds_kept slot ≡ false
ends_unkept None is = refl
ends_unkept (Some s) is = unkept_kind s.kind is

-- a change where nothing kept was or is
pub order_same : (old new : List (Option Stored)) (kept : List ℕ) (key : ℕ) → AreKept old kept → ((other : ℕ) → (other ≡ key → ⊥) → get_or new other None ≡ get_or old other None) → holds_kept (get_or old key None) ≡ false → holds_kept (get_or new key None) ≡ false → AreKept new kept
order_same old new kept key order others before after = record {
  all_kept = λ i d lt. elim (cases_eq (get_or kept i d) key) [
    | inl same ↦ absurd (both_ways (holds_kept (get_or old key None)) before (ap (λ k. holds_kept (get_or old k None)) (sym same) ∙ order.all_kept i d lt))
    | inr apart ↦ ap holds_kept (others (get_or kept i d) apart) ∙ order.all_kept i d lt
  ];
  every_one = λ k here. elim (cases_eq k key) [
    | inl same ↦ absurd (both_ways (holds_kept (get_or new key None)) after (ap (λ x. holds_kept (get_or new x None)) (sym same) ∙ here))
    | inr apart ↦ order.every_one k (ap holds_kept (sym (others k apart)) ∙ here)
  ];
  once = order.once;
}

-- a change where nothing kept was or is, and nothing that the end of a solve drops is left
pub store_same : (old new : List (Option Stored)) (kept passing : List ℕ) (key capacity room : ℕ) → IsStore old kept passing capacity → ((other : ℕ) → (other ≡ key → ⊥) → get_or new other None ≡ get_or old other None) → holds_kept (get_or old key None) ≡ false → holds_kept (get_or new key None) ≡ false → ends (get_or new key None) ≡ false → ((other : ℕ) → room ≤ other → get_or new other None ≡ None) → IsStore new kept passing room
store_same old new kept passing key capacity room s others before after lasts ended = record {
  ended = ended;
  order = order_same old new kept key s.order others before after;
  covered = cover_same old new passing key s.covered others lasts;
}

-- the last key is taken, and its nogood dropped
pub store_dropped : (old new : List (Option Stored)) (kept keys left : List ℕ) (key capacity room : ℕ) → IsStore old kept keys capacity → keys ≡ left ++ key ∷ [] → ((other : ℕ) → (other ≡ key → ⊥) → get_or new other None ≡ get_or old other None) → ends (get_or old key None) ≡ true → get_or new key None ≡ None → room ≡ capacity → IsStore new kept left room
store_dropped old new kept keys left key capacity room s splits others is gone same =
    let lasts : ends (get_or new key None) ≡ false = ap ends gone in
    record {
      ended = λ other high. elim (cases_eq other key) [
        | inl at ↦ ap (λ k. get_or new k None) at ∙ gone
        | inr apart ↦ others other apart ∙ s.ended other (omega arith)
      ];
      order = order_same old new kept key s.order others (ends_unkept (get_or old key None) is) (ap holds_kept gone);
      covered = cover_less new keys left key (cover_same old new keys key s.covered others lasts) splits lasts;
    }

-- the last key is taken, and its nogood stays
pub store_left : (slots : List (Option Stored)) (kept keys left : List ℕ) (key capacity : ℕ) → IsStore slots kept keys capacity → keys ≡ left ++ key ∷ [] → ends (get_or slots key None) ≡ false → IsStore slots kept left capacity
store_left slots kept keys left key capacity s splits lasts = record {
  ended = s.ended;
  order = s.order;
  covered = cover_less slots keys left key s.covered splits lasts;
}

ends_lasting : (slot : Option Stored) → ends (lasting slot) ≡ false
ends_lasting slot = elim (cases_Bool (ends slot)) [
  | inl is ↦ ap ends (lasting_none slot is)
  | inr isnt ↦ ap ends (lasting_same slot isnt) ∙ isnt
]

-- what was dropped or not so far, with one more
pub each_dropped : (begun old new : List (Option Stored)) (key : ℕ) → ((k : ℕ) → (get_or old k None ≡ get_or begun k None) ⊎ (get_or old k None ≡ lasting (get_or begun k None))) → ((other : ℕ) → (other ≡ key → ⊥) → get_or new other None ≡ get_or old other None) → ends (get_or old key None) ≡ true → get_or new key None ≡ None → (k : ℕ) → (get_or new k None ≡ get_or begun k None) ⊎ (get_or new k None ≡ lasting (get_or begun k None))
each_dropped begun old new key each others is gone k = elim (cases_eq k key) [
  | inl same ↦ (
      let here : get_or new k None ≡ None = ap (λ x. get_or new x None) same ∙ gone in
      let was : ends (get_or old k None) ≡ true = ap (λ x. ends (get_or old x None)) same ∙ is in
      elim (each k) [
        | inl stays ↦ inr (here ∙ sym (lasting_none (get_or begun k None) (ap ends (sym stays) ∙ was)))
        | inr lasts ↦ absurd (both_ways (ends (lasting (get_or begun k None))) (ends_lasting (get_or begun k None)) (ap ends (sym lasts) ∙ was))
      ])
  | inr apart ↦ elim (each k) [
    | inl stays ↦ inl (others k apart ∙ stays)
    | inr lasts ↦ inr (others k apart ∙ lasts)
  ]
]

-- one kept nogood more
pub order_more : (old new : List (Option Stored)) (kept : List ℕ) (key : ℕ) → AreKept old kept → get_or old key None ≡ None → ((other : ℕ) → (other ≡ key → ⊥) → get_or new other None ≡ get_or old other None) → holds_kept (get_or new key None) ≡ true → AreKept new (kept ++ key ∷ [])
order_more old new kept key order free others is =
    let len : length (kept ++ key ∷ []) ≡ length kept + 1 = length-append kept (key ∷ []) in
    let early : (i d : ℕ) → i < length kept → get_or (kept ++ key ∷ []) i d ≡ get_or kept i d = λ i d lt. get_or-append kept (key ∷ []) d i lt in
    let last : (i d : ℕ) → i ≡ length kept → get_or (kept ++ key ∷ []) i d ≡ key = λ i d at. ap (λ k. get_or (kept ++ key ∷ []) k d) at ∙ get_or-append_seam kept key [] d in
    let apart : (i d : ℕ) → i < length kept → get_or kept i d ≡ key → ⊥ = λ i d lt same.
    both_ways (holds_kept (get_or old key None)) (ap holds_kept free) (ap (λ k. holds_kept (get_or old k None)) (sym same) ∙ order.all_kept i d lt) in
    record {
      all_kept = λ i d lt. elim (cases_lt i (length kept)) [
        | inl before ↦ ap (λ k. holds_kept (get_or new k None)) (early i d before) ∙ ap holds_kept (others (get_or kept i d) (apart i d before)) ∙ order.all_kept i d before
        | inr late ↦ ap (λ k. holds_kept (get_or new k None)) (last i d (omega arith)) ∙ is
      ];
      every_one = λ k here. elim (cases_eq k key) [
        | inl same ↦ subst (Contains (kept ++ key ∷ [])) (sym same) (Contains-push kept key)
        | inr other ↦ Contains-append_left kept (key ∷ []) k (order.every_one k (ap holds_kept (sym (others k other)) ∙ here))
      ];
      once = λ i k d i_in k_in alike. elim (cases_lt i (length kept)) [
        | inl i_before ↦ elim (cases_lt k (length kept)) [
          | inl k_before ↦ order.once i k d i_before k_before (sym (early i d i_before) ∙ alike ∙ early k d k_before)
          | inr late ↦ absurd (apart i d i_before (sym (early i d i_before) ∙ alike ∙ last k d (omega arith)))
        ]
        | inr i_late ↦ elim (cases_lt k (length kept)) [
          | inl k_before ↦ absurd (apart k d k_before (sym (early k d k_before) ∙ sym alike ∙ last i d (omega arith)))
          | inr late ↦ omega arith
        ]
      ];
    }

-- one nogood more under a free key leaves free what is above the capacity
pub ended_more : (old new : List (Option Stored)) (key capacity room : ℕ) → ((other : ℕ) → capacity ≤ other → get_or old other None ≡ None) → ((other : ℕ) → (other ≡ key → ⊥) → get_or new other None ≡ get_or old other None) → capacity ≤ room → key < room → (other : ℕ) → room ≤ other → get_or new other None ≡ None
ended_more old new key capacity room ended others grows within other high =
    others other (λ same. absurd (omega (arith, same))) ∙ ended other (omega arith)

asleep_kind : (slot : Option Stored) → option_map (λ (s : Stored). s.kind) slot ≡ Some None → holds_kept slot ≡ false
asleep_kind None is = refl
asleep_kind (Some s) is = let none : s.kind ≡ None = cc in ap is_kept none

some_none : (slot : Option Stored) → option_map (λ (s : Stored). s.kind) slot ≡ Some None → slot ≡ None → ⊥
some_none None is none = cc
some_none (Some s) is none = cc

asleep_stored : (slots : List (Option Stored)) (key : ℕ) → option_map (λ (s : Stored). s.kind) (get_or slots key None) ≡ Some None → key < length slots
asleep_stored slots key is = elim (cases_lt key (length slots)) [
  | inl below ↦ below
  | inr past ↦ absurd (some_none (get_or slots key None) is (get_or_past slots key None past))
]

-- the nogood of a key is woken
pub store_woken : (slots : List (Option Stored)) (kept passing : List ℕ) (key capacity : ℕ) (s : Stored) → IsStore slots kept passing capacity → option_map (λ (x : Stored). x.kind) (get_or slots key None) ≡ Some None → s.kind ≡ Some Base → IsStore (set slots key (Some s)) kept passing capacity
store_woken slots kept passing key capacity s store asleep is =
    let inside = asleep_stored slots key asleep in
    let here : get_or (set slots key (Some s)) key None ≡ Some s = get_or-set_same slots key (Some s) None inside in
    let others : (other : ℕ) → (other ≡ key → ⊥) → get_or (set slots key (Some s)) other None ≡ get_or slots other None = λ other apart. get_or-set_other slots key other (Some s) None apart in
    store_same slots (set slots key (Some s)) kept passing key capacity capacity store others
    (asleep_kind (get_or slots key None) asleep)
    (ap holds_kept here ∙ ap is_kept is)
    (ap ends here ∙ ap ends_by_kind is)
    (λ other high. elim (cases_eq other key) [
      | inl same ↦ (let none : get_or slots key None ≡ None = ap (λ k. get_or slots k None) (sym same) ∙ store.ended other high in absurd (some_none (get_or slots key None) asleep none))
      | inr apart ↦ others other apart ∙ store.ended other high
    ])
