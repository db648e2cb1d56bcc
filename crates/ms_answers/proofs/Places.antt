-- Each set of the atoms below n has a place of its own, below 2 ^ n.
use Rattle.std.proofs.Common.{◌≡◌, ◌+◌, ◌-◌, ◌^◌, ◌<◌, ◌≤◌, ℕ, suc, List, [], ◌∷◌, All, AllPairs, refl, sym, subst, ap, ⊎_elim, arith}
use Rattle.std.specs.Bool.{⊤}
use Rattle.std.proofs.lemmas.Bool.{cases_order, cases_lt}
use Rattle.std.proofs.lemmas.Grind.{pow_more}
use Rattle.std.proofs.lemmas.List.Kept.{AllPairs-from_increasing}
use Rattle.std.proofs.lemmas.List.Sums.{sum_by-cons}
use Rattle.std.proofs.lemmas.Nat.{pow_pos, pow_below}
use Rattle.ms_join.specs.AnswerSets.{IsAtomSet}
use Rattle.ms_answers.specs.Subsets.{place_of}

-- numbers that rise from `start` on, below n
abbrev RisesFrom : ℕ → ℕ → List ℕ → Type 0
RisesFrom n start [] = ⊤
RisesFrom n start (a ∷ set) = (start ≤ a) × (a < n) × RisesFrom n (a + 1) set

rises_from : (n start : ℕ) (set : List ℕ) → AllPairs (λ a b. a < b) set → All (λ a. a < n) set → All (λ a. start ≤ a) set → RisesFrom n start set
rises_from n start [] pairs below above = tt
rises_from n start (a ∷ set) pairs below above = (
  above 0 a (omega arith),
  below 0 a (omega arith),
  rises_from n (a + 1) set (λ i j d ordered short. pairs (suc i) (suc j) d (omega arith) (omega arith)) (λ k d short. below (suc k) d (omega arith)) (λ k d short. omega (arith, pairs 0 (suc k) d (omega arith) (omega arith))),
)

RisesFrom-set : (n : ℕ) (set : List ℕ) → IsAtomSet n set → RisesFrom n 0 set
RisesFrom-set n set h =
    rises_from n 0 set (AllPairs-from_increasing set h.rising) h.within (λ k d short. omega arith)

-- the digits from an atom on have twice the room of those after it
room_more : (n a : ℕ) → a < n → 2 ^ (n - a) ≡ 2 ^ (n - (a + 1)) + 2 ^ (n - (a + 1))
room_more n a within =
    let above : n - a ≡ n - (a + 1) + 1 = omega arith in
    omega (arith, ap (λ k. 2 ^ k) above, pow_more 2 (n - (a + 1)))

room_le : (n a b : ℕ) → a ≤ b → 2 ^ (n - b) ≤ 2 ^ (n - a)
room_le n a b ordered =
    ⊎_elim (λ (less : n - b < n - a). omega (arith, pow_below (n - b) (n - a) less))
    (λ (le : n - a ≤ n - b).
    let same : n - a ≡ n - b = omega arith in
    omega (arith, ap (λ k. 2 ^ k) same))
    (cases_lt (n - b) (n - a))

place_of_cons : (n a : ℕ) (set : List ℕ) → place_of n (a ∷ set) ≡ 2 ^ (n - (a + 1)) + place_of n set
place_of_cons n a set = sum_by-cons (λ b. 2 ^ (n - (b + 1))) a set

place_below_from : (n start : ℕ) (set : List ℕ) → RisesFrom n start set → place_of n set < 2 ^ (n - start)
place_below_from n start [] rises = pow_pos (n - start)
place_below_from n start (a ∷ set) rises =
    omega (arith, place_of_cons n a set, place_below_from n (a + 1) set rises.2, room_more n a rises.1, room_le n start a rises.0)

-- a set that begins with a smaller atom has a greater place
place_above : (n a b : ℕ) (set other : List ℕ) → a < b → b < n → RisesFrom n (b + 1) other → place_of n (b ∷ other) < place_of n (a ∷ set)
place_above n a b set other ordered within rises =
    omega (arith, place_of_cons n a set, place_of_cons n b other, place_below_from n (b + 1) other rises, room_more n b within, room_le n (a + 1) b (omega arith))

place_positive : (n a : ℕ) (set : List ℕ) → 0 < place_of n (a ∷ set)
place_positive n a set = omega (arith, place_of_cons n a set, pow_pos (n - (a + 1)))

same_from_places : (n start : ℕ) (set other : List ℕ) → RisesFrom n start set → RisesFrom n start other → place_of n set ≡ place_of n other → set ≡ other
same_from_places n start [] [] h k same = refl
same_from_places n start [] (b ∷ other) h k same = absurd (omega (arith, place_positive n b other, same))
same_from_places n start (a ∷ set) [] h k same = absurd (omega (arith, place_positive n a set, same))
same_from_places n start (a ∷ set) (b ∷ other) h k same =
    ⊎_elim (λ (equal : a ≡ b).
    let rises : RisesFrom n (a + 1) other = subst (λ c. RisesFrom n (c + 1) other) (sym equal) k.2 in
    let digits : place_of n set ≡ place_of n other = omega (arith, place_of_cons n a set, place_of_cons n b other, same, ap (λ c. 2 ^ (n - (c + 1))) equal) in
    let rest : set ≡ other = same_from_places n (a + 1) set other h.2 rises digits in
    cc)
    (λ differs. ⊎_elim (λ (less : a < b). absurd (omega (arith, place_above n a b set other less k.1 k.2, same)))
    (λ (more : b < a). absurd (omega (arith, place_above n b a other set more h.1 h.2, same))) differs)
    (cases_order a b)

pub place_below : (n : ℕ) (set : List ℕ) → IsAtomSet n set → place_of n set < 2 ^ n
place_below n set h =
    let all : n - 0 ≡ n = omega arith in
    omega (arith, place_below_from n 0 set (RisesFrom-set n set h), ap (λ k. 2 ^ k) all)

pub same_from_place : (n : ℕ) (set other : List ℕ) → IsAtomSet n set → IsAtomSet n other → place_of n set ≡ place_of n other → set ≡ other
same_from_place n set other h k same =
    same_from_places n 0 set other (RisesFrom-set n set h) (RisesFrom-set n other k) same
