-- The step to the next set: the atoms at the end are taken out, and the one before them goes in.
use Rattle.std.proofs.Common.{◌≡◌, ◌≢◌, ◌+◌, ◌-◌, ◌^◌, ◌<◌, ◌≤◌, ℕ, List, [], ◌∷◌, ◌++◌, Some, All, length, take, subst, ap, ◌∙◌, arith}
use Rattle.std.specs.List.{slice_get}
use Rattle.std.specs.List.Sorted.{IsStrictlyIncreasing}
use Rattle.std.proofs.lemmas.Grind.{pow_more}
use Rattle.std.proofs.lemmas.List.Elements.{All-push, All-weaker}
use Rattle.std.proofs.lemmas.List.Sums.{sum_by_push}
use Rattle.ms_join.specs.AnswerSets.{IsAtomSet}
use Rattle.ms_answers.specs.Subsets.{place_of}
use Rattle.ms_answers.proofs.Rising.{below_last, below_unless_last, front_and_last, IsStrictlyIncreasing-front, IsStrictlyIncreasing-push}

-- Of the set at the place, the atoms from `end` on were all there, and are taken out.
pub record IsCarrying (n place end : ℕ) (members : List ℕ) : Type 0 where
  pub rising : IsStrictlyIncreasing members
  pub below : All (λ a. a < end) members
  pub place_left : place_of n members + 2 ^ (n - end) ≡ place + 1

pub IsCarrying-none : (n : ℕ) (set : List ℕ) → IsAtomSet n set → IsCarrying n (place_of n set) n set
IsCarrying-none n set h = record {
  rising = h.rising;
  below = h.within;
  place_left = (let none : n - n ≡ 0 = omega arith in ap (λ k. place_of n set + 2 ^ k) none);
}

pub place_of_push : (n : ℕ) (set : List ℕ) (a : ℕ) → place_of n (set ++ a ∷ []) ≡ place_of n set + 2 ^ (n - (a + 1))
place_of_push n set a = sum_by_push (λ b. 2 ^ (n - (b + 1))) set a

pub IsCarrying-pop : (n place end : ℕ) (members left : List ℕ) → 0 < end → end ≤ n → IsCarrying n place end members → slice_get members (length members - 1) ≡ Some (end - 1) → left ≡ take (length members - 1) members → IsCarrying n place (end - 1) left
IsCarrying-pop n place end members left some within carrying is_last is_left =
    let front = take (length members - 1) members in
    let split : members ≡ front ++ (end - 1) ∷ [] = front_and_last members (end - 1) is_last in
    let digits : place_of n members ≡ place_of n front + 2 ^ (n - (end - 1 + 1)) = ap (place_of n) split ∙ place_of_push n front (end - 1) in
    let same : n - (end - 1 + 1) ≡ n - end = omega arith in
    let above : n - (end - 1) ≡ n - end + 1 = omega arith in
    let here : IsCarrying n place (end - 1) front = record {
      rising = IsStrictlyIncreasing-front members (length members - 1) (omega arith) carrying.rising;
      below = below_last members (end - 1) carrying.rising is_last;
      place_left = omega (arith, ap (λ k. 2 ^ k) same, ap (λ k. 2 ^ k) above, pow_more 2 (n - end), digits, carrying.place_left);
    } in
    rw is_left here

-- the next set
pub record IsNext (n place : ℕ) (next : List ℕ) : Type 0 where
  pub within : IsAtomSet n next
  pub place_next : place_of n next ≡ place + 1

pub IsNext-push : (n place end : ℕ) (members next : List ℕ) → 0 < end → end ≤ n → IsCarrying n place end members → slice_get members (length members - 1) ≢ Some (end - 1) → next ≡ members ++ (end - 1) ∷ [] → IsNext n place next
IsNext-push n place end members next some within carrying differs is_next =
    let a = end - 1 in
    let same : end ≡ a + 1 = omega arith in
    let below : All (λ b. b < a) members = below_unless_last members a carrying.rising (subst (λ e. All (λ b. b < e) members) same carrying.below) differs in
    let here : IsNext n place (members ++ a ∷ []) = record {
      within = record {
        rising = IsStrictlyIncreasing-push members a carrying.rising below;
        within = All-push (λ b. b < n) members a (All-weaker (λ b. b < a) (λ b. b < n) (λ b h. omega arith) members below) (omega arith);
      };
      place_next = omega (arith, place_of_push n members a, ap (λ e. 2 ^ (n - e)) same, carrying.place_left);
    } in
    rw is_next here

-- where no atom is left, all were there
pub IsCarrying-all : (n place end : ℕ) (members : List ℕ) → end ≤ 0 → IsCarrying n place end members → 2 ^ n ≡ place + 1
IsCarrying-all n place end [] last carrying =
    let all : n - end ≡ n = omega arith in
    omega (arith, carrying.place_left, ap (λ k. 2 ^ k) all)
IsCarrying-all n place end (a ∷ members) last carrying = absurd (omega (arith, carrying.below 0 a (omega arith)))
