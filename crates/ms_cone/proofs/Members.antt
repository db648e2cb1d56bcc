-- The places of members, and the numbers of their components.
use Rattle.std.proofs.Common.{◌≡◌, ◌<◌, ℕ, List, Option, Some, None, nat_eq, nat_lt, length, get_or, slice_get, refl, sym, ap, ◌∙◌, arith, Contains, inl, inr}
use Rattle.std.specs.List.{position, position_or_len, IsDistinct}
use Rattle.std.specs.Option.{option_map}
use Rattle.std.proofs.lemmas.Bool.{cases_lt, cond-true, eqb-false, ne_eqb, lt-ltb}
use Rattle.std.proofs.lemmas.Bool.Decides.{Decides-eqb}
use Rattle.std.proofs.lemmas.List.Sums.{position_or_len_is}
use Rattle.std.proofs.lemmas.Map.Keys.{apart_from_distinct}
use Rattle.std.proofs.lemmas.List.Quantifiers.{position-Some}
use Rattle.std.proofs.lemmas.Option.{none-some, same_Some, slice_get_within, get_or_from_slice_get, slice_get-get_or}
use Rattle.ms_cone.specs.Cones.{Numbered, IsNumbered, number_of}

-- a member's place, and its component's number there
pub record IsMember (cone : Numbered) (a n : ℕ) : Type 0 where
  pub place : ℕ
  pub within : place < length cone.members
  pub member : slice_get cone.members place ≡ Some a
  pub number : get_or cone.numbers place 0 ≡ n

member_at : (cone : Numbered) (a n : ℕ) (place : Option ℕ) → position (nat_eq a) cone.members ≡ place → option_map (λ i. get_or cone.numbers i 0) place ≡ Some n → IsMember cone a n
member_at cone a n None at is = absurd (none-some n is)
member_at cone a n (Some place) at is =
    let here = position-Some (nat_eq a) cone.members place a at in
    record {
      place = place;
      within = here.0;
      member = slice_get-get_or cone.members place a here.0 ∙ ap Some (sym ((Decides-eqb a (get_or cone.members place a)).0 here.1));
      number = same_Some (get_or cone.numbers place 0) n is;
    }

pub member_of : (cone : Numbered) (a n : ℕ) → number_of cone a ≡ Some n → IsMember cone a n
member_of cone a n is = member_at cone a n (position (nat_eq a) cone.members) refl is

-- between a place that has the atom and the list that contains it
pub contains_at : (atoms : List ℕ) (i a : ℕ) → slice_get atoms i ≡ Some a → Contains atoms a
contains_at atoms i a at = (i, slice_get_within atoms i a at, get_or_from_slice_get atoms i a a at)

pub at_contains : (atoms : List ℕ) (a : ℕ) (here : Contains atoms a) → slice_get atoms here.0 ≡ Some a
at_contains atoms a here = slice_get-get_or atoms here.0 a here.1 ∙ ap Some here.2

-- an atom stands in one place
pub same_place : (atoms : List ℕ) (i k a : ℕ) → IsDistinct nat_eq atoms → slice_get atoms i ≡ Some a → slice_get atoms k ≡ Some a → i ≡ k
same_place atoms i k a once at_i at_k =
    let within_i = slice_get_within atoms i a at_i in
    let within_k = slice_get_within atoms k a at_k in
    let is_i = get_or_from_slice_get atoms i a a at_i in
    let is_k = get_or_from_slice_get atoms k a a at_k in
    elim (cases_lt i k) [
      | inl less ↦ absurd (eqb-false (get_or atoms i a) (get_or atoms k a) (apart_from_distinct nat_eq atoms i k a once less within_k) (is_i ∙ sym is_k))
      | inr more ↦ elim (cases_lt k i) [
        | inl less ↦ absurd (eqb-false (get_or atoms k a) (get_or atoms i a) (apart_from_distinct nat_eq atoms k i a once less within_i) (is_k ∙ sym is_i))
        | inr both ↦ omega (arith, more, both)
      ]
    ]

pub place_of : (atoms : List ℕ) (i a : ℕ) → IsDistinct nat_eq atoms → slice_get atoms i ≡ Some a → position (nat_eq a) atoms ≡ Some i
place_of atoms i a once at =
    let within = slice_get_within atoms i a at in
    let is = get_or_from_slice_get atoms i a a at in
    let first : position_or_len (nat_eq a) atoms ≡ i =
    position_or_len_is (nat_eq a) atoms i a (omega (arith, within))
    (λ k before. ne_eqb a (get_or atoms k a) (λ same. eqb-false (get_or atoms k a) (get_or atoms i a) (apart_from_distinct nat_eq atoms k i a once before within) (sym same ∙ sym is)))
    (λ inside. (Decides-eqb a (get_or atoms i a)).1 (sym is)) in
    rw first (cond-true (nat_lt i (length atoms)) (Some i) None (lt-ltb i (length atoms) within))

-- the number of the member in a place
pub number_at : (cone : Numbered) (place a : ℕ) → IsNumbered cone → slice_get cone.members place ≡ Some a → number_of cone a ≡ Some (get_or cone.numbers place 0)
number_at cone place a numbered at = ap (option_map (λ i. get_or cone.numbers i 0)) (place_of cone.members place a numbered.once at)
