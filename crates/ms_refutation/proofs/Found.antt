-- What follows from a trail, and what is found on settled entries.
use Rattle.std.proofs.Common.{ℕ, ◌≡◌, ◌∙◌, ◌<◌, ◌⊎◌, Bool, false, true, List, [], Option, Some, None, All, inl, inr, zero, suc, length, get_or, take, sym, subst, ap, arith, refl}
use Rattle.std.specs.Prelude.{Contains, IsTrue}
use Rattle.std.proofs.lemmas.Bool.{both_ways, cases_Bool, cases_eq, cases_lt}
use Rattle.std.proofs.lemmas.List.{get_or-take, length-take-le}
use Rattle.std.proofs.lemmas.List.Elements.{All-contains, All-from_recursion, All-map, All-weaker, recursion_from_All}
use Rattle.ms_lits.specs.declared.lit.Lit.{Lit}
use Rattle.ms_lits.specs.declared.trail.Entry.{Entry}
use Rattle.ms_lits.specs.Literals.{HasWhole, IsClosed, IsContained, IsDerived, IsNew, IsRefuted, IsWhole, Nogood, opposite_of}
use Rattle.ms_lits.specs.Assignment.{HoldsIn, IsWholeIn}
use Rattle.ms_nogood.specs.Store.{Adds, Store, Stored, awake_in, nogood_at}
use Rattle.ms_nogood.specs.Looks.{IsCalmIn}
use Rattle.ms_nogood.specs.Theories.{HasOpen}
use Rattle.ms_nogood.specs.Propagation.{IsSettled, IsStored, held_in, lits_of}
use Rattle.ms_nogood.proofs.Propagation.{awake_same, held_from, held_in_set, holds_from, settled_from, stored_among}
use Rattle.ms_refutation.specs.Sets.{AreDecided, AreReasoned, ContainsOne}
use Rattle.ms_refutation.proofs.Laws.{among_or_whole, opposite_of-opposite_of}

-- a closed set that has the decisions has each entry
entries_in : (store : Store) (entries : List Entry) (start : List Lit) (set : Lit → Bool) → AreReasoned store entries → AreDecided start entries → IsWhole set start → IsClosed (IsStored store) set → (n i : ℕ) (d : Entry) → i < n → i < length entries → IsTrue (set (get_or entries i d).lit)
entries_in store entries start set reasoned decided whole closed zero i d below lt = absurd (omega arith)
entries_in store entries start set reasoned decided whole closed (suc n) i d below lt =
    let before = entries_in store entries start set reasoned decided whole closed n in
    elim (cases_lt i n) [
      | inl early ↦ before i d early lt
      | inr late ↦ elim (reasoned i d lt) [
        | inl none ↦ All-contains (λ (l : Lit). IsTrue (set l)) start (get_or entries i d).lit whole (decided i d lt none)
        | inr forced ↦ (
            let front : IsWhole set (lits_of (take i entries)) = All-map (λ (l : Lit). IsTrue (set l)) (λ (e : Entry). e.lit) (take i entries)
            (λ k e within.
            let len : length (take i entries) ≡ i = length-take-le i entries (omega arith) in
            let small : k < i = omega arith in
            subst (λ (x : Entry). IsTrue (set x.lit)) (sym (get_or-take i entries k e small)) (before k e (omega arith) (omega arith))) in
            subst (λ (l : Lit). IsTrue (set l)) (opposite_of-opposite_of (get_or entries i d).lit)
            (closed forced.stored.lits (stored_among store forced.key forced.stored forced.found) (opposite_of (get_or entries i d).lit) (record {
              contained = forced.unit.contained;
              others = λ k l within. elim (forced.unit.others k l within) [
                | inl same ↦ inl same
                | inr holds ↦ inr (held_in_set set (take i entries) (get_or forced.stored.lits k l) holds front)
              ];
            })))
      ]
    ]

pub entries_derived : (store : Store) (entries : List Entry) (start : List Lit) → AreReasoned store entries → AreDecided start entries → All (IsDerived (IsStored store) start) (lits_of entries)
entries_derived store entries start reasoned decided =
    All-map (IsDerived (IsStored store) start) (λ (e : Entry). e.lit) entries
    (λ i d lt set whole closed. entries_in store entries start set reasoned decided whole closed (length entries) i d lt lt)

held_or : (entries : List Entry) (lit other : Lit) → (other ≡ lit) ⊎ HoldsIn entries other → (other ≡ lit) ⊎ IsTrue (held_in entries other)
held_or entries lit other either = elim either [ inl same ↦ inl same | inr holds ↦ inr (held_from entries other holds) ]

held_all : (entries : List Entry) (lits : Nogood) (lit : Lit) → All (λ (other : Lit). (other ≡ lit) ⊎ HoldsIn entries other) lits → All (λ (x : Lit). (x ≡ lit) ⊎ IsTrue (held_in entries x)) lits
held_all entries lits lit others = All-weaker (λ (other : Lit). (other ≡ lit) ⊎ HoldsIn entries other) (λ (x : Lit). (x ≡ lit) ⊎ IsTrue (held_in entries x)) (held_or entries lit) lits others

pub found_contains_none : (store : Store) (entries : List Entry) (nogood small : Nogood) → IsSettled store entries → IsWholeIn entries nogood ⊎ HasOpen entries nogood → IsStored store small → IsContained nogood small → ⊥
found_contains_none store entries nogood small settled found among contained = elim found [
  | inl whole ↦ settled.none_whole (record {
    nogood = small;
    among = among;
    whole = λ k d lt. held_from entries (get_or small k d) (All-contains (HoldsIn entries) nogood (get_or small k d) whole (contained k d lt));
  })
  | inr one ↦ (
      let each = λ (k : ℕ) (d : Lit) (lt : k < length small). held_or entries one.lit (get_or small k d) (All-contains (λ (other : Lit). (other ≡ one.lit) ⊎ HoldsIn entries other) nogood (get_or small k d) one.unit.others (contained k d lt)) in
      elim (among_or_whole (held_in entries) one.lit small (recursion_from_All (λ (other : Lit). (other ≡ one.lit) ⊎ IsTrue (held_in entries other)) small each)) [
        | inl inside ↦ (
            let held = holds_from entries (opposite_of one.lit) (settled.closed small among one.lit (record { contained = inside; others = each })) in
            let free = one.unit.unassigned in
            cc)
        | inr whole ↦ settled.none_whole (record { nogood = small; among = among; whole = All-from_recursion (λ (other : Lit). IsTrue (held_in entries other)) small whole })
      ])
]

pub refuted_more : (Fewer More : Nogood → Type 0) (start : List Lit) → ((nogood : Nogood) → Fewer nogood → More nogood) → IsRefuted Fewer start → IsRefuted More start
refuted_more Fewer More start into refuted = λ set whole closed. elim (refuted set whole (λ nogood among. closed nogood (into nogood among))) [
  | inl has ↦ inl (record { nogood = has.nogood; among = into has.nogood has.among; whole = has.whole })
  | inr both ↦ inr both
]

-- a closed set without a whole nogood is closed under nogoods that contain some of these
pub closed_more : (Small Large : Nogood → Type 0) (set : Lit → Bool) → ((other : Nogood) → Large other → ContainsOne Small other) → IsClosed Small set → (HasWhole Small set → ⊥) → IsClosed Large set
closed_more Small Large set each closed none other among lit forces =
    let c = each other among in
    let all = λ (k : ℕ) (d : Lit) (lt : k < length c.small). All-contains (λ (x : Lit). (x ≡ lit) ⊎ IsTrue (set x)) other (get_or c.small k d) forces.others (c.contained k d lt) in
    elim (among_or_whole set lit c.small (recursion_from_All (λ (x : Lit). (x ≡ lit) ⊎ IsTrue (set x)) c.small all)) [
      | inl inside ↦ closed c.small c.among lit (record { contained = inside; others = all })
      | inr whole ↦ absurd (none (record { nogood = c.small; among = c.among; whole = All-from_recursion (λ (x : Lit). IsTrue (set x)) c.small whole }))
    ]

pub none_more : (Small Large : Nogood → Type 0) (set : Lit → Bool) → ((other : Nogood) → Large other → ContainsOne Small other) → (HasWhole Small set → ⊥) → HasWhole Large set → ⊥
none_more Small Large set each none has =
    let c = each has.nogood has.among in
    none (record { nogood = c.small; among = c.among; whole = λ k d lt. All-contains (λ (x : Lit). IsTrue (set x)) has.nogood (get_or c.small k d) has.whole (c.contained k d lt) })

pub new_more : (Small Large : Nogood → Type 0) (nogood : Nogood) → ((other : Nogood) → Large other → ContainsOne Small other) → IsNew Small nogood → IsNew Large nogood
new_more Small Large nogood each fresh = record {
  lit = fresh.lit;
  contained = fresh.contained;
  set = fresh.set;
  others = fresh.others;
  closed = closed_more Small Large fresh.set each fresh.closed fresh.none_whole;
  none_whole = none_more Small Large fresh.set each fresh.none_whole;
  one_sign = fresh.one_sign;
  lacks = fresh.lacks;
}

-- a settled store is one whose nogoods are calm
pub calm_from : (store : Store) (entries : List Entry) → IsSettled store entries → (key : ℕ) (s : Stored) → nogood_at store key ≡ Some s → IsCalmIn entries s.lits
calm_from store entries settled key s found = record {
  not_whole = λ whole. settled.none_whole (record { nogood = s.lits; among = stored_among store key s found; whole = All-weaker (HoldsIn entries) (λ (l : Lit). IsTrue (held_in entries l)) (held_from entries) s.lits whole });
  closed = λ lit others.
      elim (among_or_whole (held_in entries) lit s.lits (recursion_from_All (λ (x : Lit). (x ≡ lit) ⊎ IsTrue (held_in entries x)) s.lits (held_all entries s.lits lit others))) [
        | inl inside ↦ holds_from entries (opposite_of lit) (settled.closed s.lits (stored_among store key s found) lit (record { contained = inside; others = held_all entries s.lits lit others }))
        | inr whole ↦ absurd (settled.none_whole (record { nogood = s.lits; among = stored_among store key s found; whole = All-from_recursion (λ (x : Lit). IsTrue (held_in entries x)) s.lits whole }))
      ];
}

pub calm_added : (old new : Store) (stored : Stored) (key : ℕ) (entries : List Entry) → Adds old new stored key → IsCalmIn entries stored.lits → IsSettled old entries → IsSettled new entries
calm_added old new stored key entries adds calm settled = settled_from new entries (λ k s found. elim (cases_eq k key) [
  | inl same ↦ (
      let here : awake_in (Some stored) ≡ Some s = sym (ap (λ (n : ℕ). nogood_at new n) same ∙ ap awake_in adds.added) ∙ found in
      subst (λ (x : Stored). IsCalmIn entries x.lits) (awake_same stored s here) calm)
  | inr other ↦ calm_from old entries settled k s (sym (ap awake_in (adds.others k other)) ∙ found)
])
