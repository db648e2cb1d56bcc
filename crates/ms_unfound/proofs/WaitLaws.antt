-- A support that was looked at needs nothing more, or waits, also after later marks. Where nothing is left to be looked at,
-- no support asks for its head.
use Rattle.std.proofs.Common.{◌≡◌, ◌∙◌, ◌⊎◌, ◌+◌, ◌<◌, ◌≤◌, ℕ, suc, add-one, Bool, true, false, not, List, [], ◌∷◌, ◌++◌, Option, Some, None, ◌&&◌, length, length-append, drop, drop-cons, get_or, set, refl, sym, ap, subst, inl, inr, arith}
use Rattle.std.specs.Prelude.{IsTrue, MatchOption, slice_get}
use Rattle.std.specs.List.{All, Contains, list_all}
use Rattle.std.specs.Vec.{with_item}
use Rattle.std.proofs.Math.ListN.{drop_of_length-le}
use Rattle.std.proofs.lemmas.Bool.{and_from, and_parts, cases_eq, false≢true, not_from_false}
use Rattle.std.proofs.lemmas.List.{get_or-set_other, get_or-set_same, length-replicate, length-set}
use Rattle.std.proofs.lemmas.List.Elements.{All-contains, All-nil, All-push, Contains-append_left, Contains-push, Contains-push_cases}
use Rattle.std.proofs.lemmas.Option.{slice_get-get_or, slice_get_within}
use Rattle.ms_base.proofs.Lists.{All-front, All-last, Contains-cases}
use Rattle.ms_complete.proofs.Lists.{member_cases, member_none, none_is_some, same_some, some_at}
use Rattle.ms_lits.specs.declared.trail.Entry.{Entry}
use Rattle.ms_lits.specs.Assignment.{value_in}
use Rattle.ms_join.specs.Sets.{has_all}
use Rattle.ms_unfound.specs.declared.marking.Marking.{Marking}
use Rattle.ms_unfound.specs.declared.part.Part.{Part}
use Rattle.ms_unfound.specs.declared.part.Support.{Support}
use Rattle.ms_unfound.specs.Marks.{IsMarking, IsStill, asks, flag_at, may_hold, unmarked_count}
use Rattle.ms_unfound.specs.Parts.{IsPart, IsSupport}
use Rattle.ms_unfound.specs.Waiting.{AreCared, AreMarkedFrom, Fits, GoesOn, Grows, IsCared, IsCaredAt, IsFresh, IsListed, IsUnderWay, IsUnmarkedAt, work_left}
use Rattle.ms_unfound.specs.Watched.{places_at}
use Rattle.ms_unfound.proofs.MarkLaws.{asked_lacks, marking_fewer, marking_more, marking_start}
use Rattle.ms_unfound.proofs.WatchLaws.{keep_on}

set_or_not : (b : Bool) → (b ≡ true) ⊎ (b ≡ false)
set_or_not true = inl refl
set_or_not false = inr refl

-- ---- one moment and a later one

pub grows_same : (m : Marking) → Grows m m
grows_same m = record { marks = λ i marked. marked; lists = λ var i has. has; todo = λ i has. has; fresh = λ i marked. inl marked }

pub grows_on : (a b c : Marking) → Grows a b → Grows b c → Grows a c
grows_on a b c first second = record {
  marks = λ i marked. second.marks i (first.marks i marked);
  lists = keep_on a.waiting.items b.waiting.items c.waiting.items first.lists second.lists;
  todo = λ i has. second.todo i (first.todo i has);
  fresh = λ i marked. elim (second.fresh i marked) [
    | inl before ↦ elim (first.fresh i before) [ inl early ↦ inl early | inr todo ↦ inr (second.todo i todo) ]
    | inr todo ↦ inr todo
  ];
}

open_still : (old new : Marking) (i : ℕ) → Grows old new → (flag_at old.marked i ≡ false) ⊎ Contains old.todo i → (flag_at new.marked i ≡ false) ⊎ Contains new.todo i
open_still old new i grows (inr todo) = inr (grows.todo i todo)
open_still old new i grows (inl unmarked) = elim (set_or_not (flag_at new.marked i)) [
  | inl marked ↦ elim (grows.fresh i marked) [ inl before ↦ absurd (false≢true (sym unmarked ∙ before)) | inr todo ↦ inr todo ]
  | inr none ↦ inl none
]

pub cared_still : (entries : List Entry) (old new : Marking) (place : ℕ) (s : Support) → Grows old new → IsCared entries old place s → IsCared entries new place s
cared_still entries old new place s grows (inl is_false) = inl is_false
cared_still entries old new place s grows (inr (inl marked)) = inr (inl (grows.marks s.head marked))
cared_still entries old new place s grows (inr (inr w)) = inr (inr (record {
  inner = w.inner;
  among = w.among;
  listed = grows.lists w.inner place w.listed;
  awaits = open_still old new w.inner grows w.awaits;
}))

pub cared_at_still : (entries : List Entry) (supports : List Support) (old new : Marking) (place : ℕ) → Grows old new → IsCaredAt entries supports old place → IsCaredAt entries supports new place
cared_at_still entries supports old new place grows cared s at = cared_still entries old new place s grows (cared s at)

-- ---- a look at one support

pub goes_on_same : (entries : List Entry) (part : Part) (m : Marking) → IsUnderWay entries part m → GoesOn entries part m m
goes_on_same entries part m way = record { under_way = way; grows = grows_same m; less = omega arith }

pub cared_none : (entries : List Entry) (supports : List Support) (m : Marking) (place : ℕ) → slice_get supports place ≡ None → IsCaredAt entries supports m place
cared_none entries supports m place none s at = absurd (none_is_some s (sym none ∙ at))

module _ (room : ℕ) (part : Part) (is : IsPart room part) (entries : List Entry) (place : ℕ) (s : Support) (at : slice_get part.supports place ≡ Some s) where
  pub support_in : IsSupport room part s
  support_in = All-contains (IsSupport room part) part.supports s is.supports (some_at part.supports place s at)

  pub cared_as : (m : Marking) → IsCared entries m place s → IsCaredAt entries part.supports m place
  cared_as m cared other at_other = subst (IsCared entries m place) (same_some s other (sym at ∙ at_other)) cared

  module _ (m : Marking) (way : IsUnderWay entries part m) where
    pub inner_fits : All (λ i. i < length m.waiting.items) s.inner
    inner_fits = subst (λ n. All (λ i. i < n) s.inner) (sym way.fits.waiting) support_in.inner

    pub head_fits : s.head < length m.marked
    head_fits = subst (λ n. s.head < n) (sym way.fits.marked) support_in.head

    pub looked_fits : place < length m.looked
    looked_fits = subst (λ n. place < n) (sym way.fits.looked) (slice_get_within part.supports place s at)

    -- it waits
    module _ (new : Marking) (inner : ℕ) (listed : IsListed m place inner new) where
      pub waits_goes_on : GoesOn entries part m new
      waits_goes_on = record {
        under_way = record {
          fits = record {
            marked = ap length listed.marked ∙ way.fits.marked;
            waiting = listed.waiting ∙ way.fits.waiting;
            looked = listed.looked ∙ way.fits.looked;
            todo = subst (All (λ i. i < length part.atoms)) (sym listed.todo) way.fits.todo;
          };
          marks = subst (λ (fs : List Bool). IsMarking entries part.supports (flag_at fs)) (sym listed.marked) way.marks;
        };
        grows = record {
          marks = λ i marked. subst (λ (fs : List Bool). IsTrue (flag_at fs i)) (sym listed.marked) marked;
          lists = listed.lists;
          todo = λ i has. subst (λ (xs : List ℕ). Contains xs i) (sym listed.todo) has;
          fresh = λ i marked. inl (subst (λ (fs : List Bool). IsTrue (flag_at fs i)) listed.marked marked);
        };
        less = omega (arith, ap unmarked_count listed.marked, ap length listed.todo);
      }

      pub waits_cared : Contains s.inner inner → flag_at m.marked inner ≡ false → IsCaredAt entries part.supports new place
      waits_cared among unmarked = cared_as new (inr (inr (record {
        inner = inner;
        among = among;
        listed = listed.has;
        awaits = inl (subst (λ (fs : List Bool). flag_at fs inner ≡ false) (sym listed.marked) unmarked);
      })))

    -- its head is marked
    module _ (may : may_hold (value_in entries s.body) ≡ true) (lacks : flag_at m.marked s.head ≡ false) (all : IsTrue (has_all (flag_at m.marked) s.inner)) where
      abbrev after : Marking
      after = record m { marked = set m.marked s.head true; todo = m.todo ++ s.head ∷ [] }

      asked : asks entries (flag_at m.marked) s ≡ true
      asked = and_from (may_hold (value_in entries s.body)) (not (flag_at m.marked s.head) && has_all (flag_at m.marked) s.inner) may
          (and_from (not (flag_at m.marked s.head)) (has_all (flag_at m.marked) s.inner) (not_from_false (flag_at m.marked s.head) lacks) all)

      marked_cases : (i : ℕ) → IsTrue (flag_at (set m.marked s.head true) i) → IsTrue (flag_at m.marked i) ⊎ Contains (m.todo ++ s.head ∷ []) i
      marked_cases i marked = elim (cases_eq i s.head) [
        | inl same ↦ inr (subst (Contains (m.todo ++ s.head ∷ [])) (sym same) (Contains-push m.todo s.head))
        | inr differs ↦ inl (sym (get_or-set_other m.marked s.head i true false differs) ∙ marked)
      ]

      still_marked : (i : ℕ) → IsTrue (flag_at m.marked i) → IsTrue (flag_at (set m.marked s.head true) i)
      still_marked i marked = elim (cases_eq i s.head) [
        | inl same ↦ subst (λ (k : ℕ). IsTrue (flag_at (set m.marked s.head true) k)) (sym same) (get_or-set_same m.marked s.head true false head_fits)
        | inr differs ↦ get_or-set_other m.marked s.head i true false differs ∙ marked
      ]

      pub marks_goes_on : GoesOn entries part m after
      marks_goes_on = record {
        under_way = record {
          fits = record {
            marked = length-set m.marked s.head true ∙ way.fits.marked;
            waiting = way.fits.waiting;
            looked = way.fits.looked;
            todo = All-push (λ i. i < length part.atoms) m.todo s.head way.fits.todo support_in.head;
          };
          marks = marking_more entries part.supports place s at m.marked asked way.marks;
        };
        grows = record {
          marks = still_marked;
          lists = λ var i has. has;
          todo = λ i has. Contains-append_left m.todo (s.head ∷ []) i has;
          fresh = marked_cases;
        };
        less = omega (arith, marking_fewer entries part.supports place s at m.marked asked head_fits, length-append m.todo (s.head ∷ []));
      }

      pub marks_cared : IsCaredAt entries part.supports after place
      marks_cared = cared_as after (inr (inl (get_or-set_same m.marked s.head true false head_fits)))

-- ---- what waits for one mark

-- the support in a place is cared for, or in the list
abbrev pub IsCaredBut : List Entry → List Support → Marking → List ℕ → ℕ → Type 0
IsCaredBut entries supports m list place = (s : Support) → slice_get supports place ≡ Some s → IsCared entries m place s ⊎ Contains list place

abbrev pub AreCaredBut : List Entry → List Support → Marking → List ℕ → Type 0
AreCaredBut entries supports m list = (place : ℕ) → IsCaredBut entries supports m list place

module _ (m : Marking) (rest : List ℕ) (place : ℕ) (popped : m.todo ≡ rest ++ place ∷ []) (others : List ℕ) where
  abbrev pub taken : Marking
  taken = record m { waiting = with_item m.waiting place others; todo = rest }

  open_left : (i : ℕ) → (i ≡ place → ⊥) → (flag_at m.marked i ≡ false) ⊎ Contains m.todo i → (flag_at m.marked i ≡ false) ⊎ Contains rest i
  open_left i differs (inl unmarked) = inl unmarked
  open_left i differs (inr todo) = elim (Contains-push_cases rest place i (subst (λ (xs : List ℕ). Contains xs i) popped todo)) [
    | inl left ↦ inr left
    | inr same ↦ absurd (differs (sym same))
  ]

  cared_or_listed : (entries : List Entry) (k : ℕ) (s : Support) → IsCared entries m k s → IsCared entries taken k s ⊎ Contains (places_at m.waiting.items place) k
  cared_or_listed entries k s (inl is_false) = inl (inl is_false)
  cared_or_listed entries k s (inr (inl marked)) = inl (inr (inl marked))
  cared_or_listed entries k s (inr (inr w)) = elim (cases_eq w.inner place) [
    | inl same ↦ inr (subst (λ (i : ℕ). Contains (places_at m.waiting.items i) k) same w.listed)
    | inr differs ↦ inl (inr (inr (record {
      inner = w.inner;
      among = w.among;
      listed = subst (λ (xs : List ℕ). Contains xs k) (sym (get_or-set_other m.waiting.items place w.inner others [] differs)) w.listed;
      awaits = open_left w.inner differs w.awaits;
    })))
  ]

  pub taken_cared : (entries : List Entry) (supports : List Support) → AreCared entries supports m → AreCaredBut entries supports taken (places_at m.waiting.items place)
  taken_cared entries supports cared k s at = cared_or_listed entries k s (cared k s at)

  pub taken_fits : (part : Part) → Fits part m → Fits part taken
  taken_fits part fits = record {
    marked = fits.marked;
    waiting = length-set m.waiting.items place others ∙ fits.waiting;
    looked = fits.looked;
    todo = All-front (λ i. i < length part.atoms) rest (place ∷ []) (subst (All (λ i. i < length part.atoms)) popped fits.todo);
  }

  pub taken_place : (part : Part) → Fits part m → place < length m.waiting.items
  taken_place part fits = subst (λ n. place < n) (sym fits.waiting) (All-last (λ i. i < length part.atoms) rest place (subst (All (λ i. i < length part.atoms)) popped fits.todo))

  pub taken_less : work_left taken < work_left m
  taken_less = omega (arith, ap length popped, length-append rest (place ∷ []))

pub none_popped : (xs : List ℕ) → ¬ (0 < length xs) → xs ≡ []
none_popped [] none = refl
none_popped (x ∷ xs) none = absurd (none (omega arith))

-- one of the list after the other
next_left : (list : List ℕ) (i k : ℕ) → i < length list → k ≡ get_or list i k → drop i list ≡ k ∷ drop (i + 1) list
next_left list i k within is = subst (λ n. drop i list ≡ k ∷ drop n list) (sym (add-one i)) (drop-cons list i k within ∙ ap (λ (x : ℕ). x ∷ drop (suc i) list) (sym is))

pub cared_next : (entries : List Entry) (supports : List Support) (old new : Marking) (list : List ℕ) (i k : ℕ) → i < length list → k ≡ get_or list i k → Grows old new → IsCaredAt entries supports new k
    → AreCaredBut entries supports old (drop i list) → AreCaredBut entries supports new (drop (i + 1) list)
cared_next entries supports old new list i k within is grows here before place s at = elim (before place s at) [
  | inl cared ↦ inl (cared_still entries old new place s grows cared)
  | inr listed ↦ elim (Contains-cases k (drop (i + 1) list) place (subst (λ (xs : List ℕ). Contains xs place) (next_left list i k within is) listed)) [
    | inl same ↦ inl (subst (IsCaredAt entries supports new) same here s at)
    | inr later ↦ inr later
  ]
]

pub cared_all : (entries : List Entry) (supports : List Support) (m : Marking) (list : List ℕ) (i : ℕ) → length list ≤ i → AreCaredBut entries supports m (drop i list) → AreCared entries supports m
cared_all entries supports m list i long cared place s at = elim (cared place s at) [
  | inl is ↦ is
  | inr listed ↦ absurd (member_none place (subst (λ (xs : List ℕ). Contains xs place) (drop_of_length-le list long) listed))
]

-- ---- the places of a list, by their marks

all_at : (f : ℕ → Bool) (xs : List ℕ) (x : ℕ) → Contains xs x → IsTrue (list_all f xs) → IsTrue (f x)
all_at f [] x has all = absurd (member_none x has)
all_at f (y ∷ ys) x has all =
    let both = and_parts (f y) (list_all f ys) all in
    elim (member_cases y x ys has) [ inl is ↦ subst (λ (z : ℕ). IsTrue (f z)) is both.0 | inr later ↦ all_at f ys x later both.1 ]

all_by : (f : ℕ → Bool) (xs : List ℕ) → ((k : ℕ) → k < length xs → IsTrue (f (get_or xs k 0))) → IsTrue (list_all f xs)
all_by f [] each = refl
all_by f (x ∷ xs) each = and_from (f x) (list_all f xs) (each 0 (omega arith)) (all_by f xs (λ k within. each (suc k) (omega (arith, within))))

pub all_marked : (flags : List Bool) (places : List ℕ) → AreMarkedFrom flags places 0 → IsTrue (has_all (flag_at flags) places)
all_marked flags places are = all_by (flag_at flags) places (λ k within. are k (omega arith) within)

pub awaited_from : (flags : List Bool) (places : List ℕ) (found : Option ℕ) → MatchOption found (AreMarkedFrom flags places 0) (IsUnmarkedAt flags places) → MatchOption found (IsTrue (has_all (flag_at flags) places)) (IsUnmarkedAt flags places)
awaited_from flags places None are = all_marked flags places are
awaited_from flags places (Some at) is = is

-- ---- the beginning and the end

pub fresh_under_way : (entries : List Entry) (part : Part) (m : Marking) → IsFresh (length part.atoms) (length part.supports) m → IsUnderWay entries part m
fresh_under_way entries part m fresh = record {
  fits = record {
    marked = ap length fresh.marked ∙ length-replicate (length part.atoms) false;
    waiting = fresh.waiting;
    looked = fresh.looked;
    todo = subst (All (λ i. i < length part.atoms)) (sym fresh.todo) (All-nil (λ i. i < length part.atoms));
  };
  marks = marking_start entries part.supports m.marked (length part.atoms) fresh.marked;
}

not_asked : (entries : List Entry) (m : Marking) (place : ℕ) (s : Support) → m.todo ≡ [] → IsCared entries m place s → asks entries (flag_at m.marked) s ≡ false
not_asked entries m place s none cared = elim (set_or_not (asks entries (flag_at m.marked) s)) [
  | inr still ↦ still
  | inl asked ↦
      let first = and_parts (may_hold (value_in entries s.body)) (not (flag_at m.marked s.head) && has_all (flag_at m.marked) s.inner) asked in
      let second = and_parts (not (flag_at m.marked s.head)) (has_all (flag_at m.marked) s.inner) first.1 in
      absurd (elim cared [
        | inl is_false ↦ false≢true (sym is_false ∙ first.0)
        | inr (inl marked) ↦ false≢true (sym (asked_lacks entries (flag_at m.marked) s asked) ∙ marked)
        | inr (inr w) ↦ elim w.awaits [
          | inl unmarked ↦ false≢true (sym unmarked ∙ all_at (flag_at m.marked) s.inner w.inner w.among second.1)
          | inr todo ↦ member_none w.inner (subst (λ (xs : List ℕ). Contains xs w.inner) none todo)
        ]
      ])
]

pub still_when : (entries : List Entry) (supports : List Support) (m : Marking) → m.todo ≡ [] → AreCared entries supports m → IsStill entries supports (flag_at m.marked)
still_when entries supports m none cared k d within = not_asked entries m k (get_or supports k d) none (cared k (get_or supports k d) (slice_get-get_or supports k d within))
