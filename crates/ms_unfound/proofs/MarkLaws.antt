-- A mark of what a support asks for stays within each set that no support asks for its head.
use Rattle.std.proofs.Common.{◌≡◌, ◌<◌, ℕ, Bool, true, false, not, cond, IsTrue, List, [], ◌∷◌, All, length, get_or, set, replicate, zero, suc, ◌&&◌, refl, sym, subst, ◌∙◌, ap, ⊎_elim, arith}
use Rattle.std.specs.Prelude.{Some, slice_get}
use Rattle.std.specs.List.{list_all}
use Rattle.std.proofs.lemmas.Bool.{and_parts, and_from, cases_eq, false≢true, true_from_ne_false, not_from_false}
use Rattle.std.proofs.lemmas.List.{get_or-set_other}
use Rattle.std.proofs.lemmas.List.Elements.{All-contains, All-head, All-tail}
use Rattle.std.proofs.lemmas.List.Sums.{sum_by-set}
use Rattle.ms_lits.specs.declared.trail.Entry.{Entry}
use Rattle.ms_lits.specs.Assignment.{value_in}
use Rattle.ms_complete.proofs.Lists.{some_at}
use Rattle.ms_join.specs.Sets.{has_all}
use Rattle.ms_unfound.specs.declared.part.Support.{Support}
use Rattle.ms_unfound.specs.Marks.{IsMarking, asks, flag_at, may_hold, unmarked_count}

-- a set that has each element that another has
pub all_more : (f g : ℕ → Bool) (xs : List ℕ) → All (λ a. IsTrue (f a) → IsTrue (g a)) xs → IsTrue (list_all f xs) → IsTrue (list_all g xs)
all_more f g [] more holds = refl
all_more f g (x ∷ xs) more holds =
    let both = and_parts (f x) (list_all f xs) holds in
    and_from (g x) (list_all g xs)
    (All-head (λ a. IsTrue (f a) → IsTrue (g a)) x xs more both.0)
    (all_more f g xs (All-tail (λ a. IsTrue (f a) → IsTrue (g a)) x xs more) both.1)

pub all_larger : (p q : ℕ → Bool) → ((a : ℕ) → IsTrue (p a) → IsTrue (q a)) → (xs : List ℕ) → IsTrue (list_all p xs) → IsTrue (list_all q xs)
all_larger p q larger xs holds = all_more p q xs (λ k d within. larger (get_or xs k d)) holds

was_false : (b : Bool) → IsTrue (not b) → b ≡ false
was_false true holds = absurd (false≢true holds)
was_false false holds = refl

-- what a support asks for is in each set that isn't asked and has what the asked one has
pub asked_within : (entries : List Entry) (set other : ℕ → Bool) (s : Support) → ((i : ℕ) → IsTrue (set i) → IsTrue (other i)) → asks entries set s ≡ true → asks entries other s ≡ false → IsTrue (other s.head)
asked_within entries set other s within asked still = true_from_ne_false (other s.head) (λ lacks.
    let may : Bool = may_hold (value_in entries s.body) in
    let first = and_parts may (not (set s.head) && has_all set s.inner) asked in
    let second = and_parts (not (set s.head)) (has_all set s.inner) first.1 in
    false≢true (sym still ∙ and_from may (not (other s.head) && has_all other s.inner) first.0
    (and_from (not (other s.head)) (has_all other s.inner) (not_from_false (other s.head) lacks) (all_larger set other within s.inner second.1))))

-- what asks lacks its head
pub asked_lacks : (entries : List Entry) (set : ℕ → Bool) (s : Support) → asks entries set s ≡ true → set s.head ≡ false
asked_lacks entries set s asked =
    let first = and_parts (may_hold (value_in entries s.body)) (not (set s.head) && has_all set s.inner) asked in
    was_false (set s.head) (and_parts (not (set s.head)) (has_all set s.inner) first.1).0

-- what is marked of a set that has the head is in it
mark_within : (other : ℕ → Bool) (flags : List Bool) (a : ℕ) → ((b : ℕ) → IsTrue (flag_at flags b) → IsTrue (other b)) → IsTrue (other a) → (b : ℕ) → IsTrue (flag_at (set flags a true) b) → IsTrue (other b)
mark_within other flags a below has b marked =
    ⊎_elim (λ (same : b ≡ a). subst (λ x. IsTrue (other x)) (sym same) has)
    (λ (differs : b ≡ a → ⊥). below b (sym (get_or-set_other flags a b true false differs) ∙ marked))
    (cases_eq b a)

unmarked_count-mark : (flags : List Bool) (a : ℕ) → a < length flags → flag_at flags a ≡ false → unmarked_count (set flags a true) < unmarked_count flags
unmarked_count-mark flags a in_range lacks =
    let weight : Bool → ℕ = λ x. cond (not x) 1 0 in
    omega (arith, sum_by-set weight flags a true false in_range, ap weight lacks)

-- a mark alone, whichever support asks for it
module _ (entries : List Entry) (supports : List Support) (i : ℕ) (s : Support) (at : slice_get supports i ≡ Some s) (now : List Bool) (asked : asks entries (flag_at now) s ≡ true) where
  pub marking_more : IsMarking entries supports (flag_at now) → IsMarking entries supports (flag_at (set now s.head true))
  marking_more marking other still =
      let within = marking other still in
      mark_within other now s.head within (asked_within entries (flag_at now) other s within asked (All-contains (λ (t : Support). asks entries other t ≡ false) supports s still (some_at supports i s at)))

  pub marking_fewer : s.head < length now → unmarked_count (set now s.head true) < unmarked_count now
  marking_fewer in_range = unmarked_count-mark now s.head in_range (asked_lacks entries (flag_at now) s asked)

-- where nothing is marked yet
unset : (n i : ℕ) → flag_at (replicate n false) i ≡ false
unset zero i = refl
unset (suc n) zero = refl
unset (suc n) (suc i) = unset n i

pub marking_start : (entries : List Entry) (supports : List Support) (flags : List Bool) (n : ℕ) → flags ≡ replicate n false → IsMarking entries supports (flag_at flags)
marking_start entries supports flags n none other still i marked =
    absurd (false≢true (sym (ap (λ (fs : List Bool). flag_at fs i) none ∙ unset n i) ∙ marked))
