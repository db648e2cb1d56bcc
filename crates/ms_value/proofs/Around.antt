-- What is left of a walk, where one more range is chosen for or given up.
use Rattle.std.proofs.Common.{◌≡◌, ℕ, suc, ◌+◌, ◌<◌, ◌≤◌, ℤ, pos, ◌+ℤ◌, List, [], ◌∷◌, ◌++◌, map, length, drop, refl, sym, ap, ◌∙◌, arith, append_assoc, append-nil}
use Rattle.ms_core.specs.declared.rule.Range.{Range}
use Rattle.ms_copies.specs.Evaluating.{Chosen}
use Rattle.ms_copies.specs.InOrder.{integers}
use Rattle.ms_value.specs.Walking.{choices_with, around, turns_with, turns_around}

-- the integers are chosen for the first ranges, with as many upper ends
pub record Fits (ranges : List Range) (ns : Chosen) (highs : List ℤ) : Type 0 where
  pub ends : length ns ≡ length highs
  pub within : length ns ≤ length ranges

-- there is a range more
pub record HasRoom (ranges : List Range) (ns : Chosen) (highs : List ℤ) : Type 0 where
  pub ends : length ns ≡ length highs
  pub within : length ns < length ranges

next_room : (range : Range) (ranges : List Range) (n : ℤ) (ns : Chosen) (h : ℤ) (highs : List ℤ) → HasRoom (range ∷ ranges) (n ∷ ns) (h ∷ highs) → HasRoom ranges ns highs
next_room range ranges n ns h highs r = record {
  ends = let e : length (n ∷ ns) ≡ length (h ∷ highs) = r.ends in omega arith;
  within = let w : length (n ∷ ns) < length (range ∷ ranges) = r.within in omega arith;
}

next_fits : (range : Range) (ranges : List Range) (n : ℤ) (ns : Chosen) (h : ℤ) (highs : List ℤ) → Fits (range ∷ ranges) (n ∷ ns) (h ∷ highs) → Fits ranges ns highs
next_fits range ranges n ns h highs r = record {
  ends = let e : length (n ∷ ns) ≡ length (h ∷ highs) = r.ends in omega arith;
  within = let w : length (n ∷ ns) ≤ length (range ∷ ranges) = r.within in omega arith;
}

pub around_push : (ranges : List Range) (before ns : Chosen) (highs : List ℤ) (n h : ℤ) (below : List Chosen) → HasRoom ranges ns highs
    → around ranges before (ns ++ n ∷ []) (highs ++ h ∷ []) below ≡ around ranges before ns highs (map (λ c. n ∷ c) below ++ choices_with (drop (suc (length ns)) ranges) (before ++ ns) (integers (n +ℤ pos 1) h))
unfolding around
around_push [] before ns highs n h below r = absurd (let w : length ns < 0 = r.within in omega arith)
around_push (range ∷ ranges) before [] [] n h below r =
    ap (λ b. map (λ c. n ∷ c) below ++ choices_with ranges b (integers (n +ℤ pos 1) h)) (sym (append-nil before))
around_push (range ∷ ranges) before [] (g ∷ highs) n h below r = absurd (let e : 0 ≡ length (g ∷ highs) = r.ends in omega arith)
around_push (range ∷ ranges) before (m ∷ ns) [] n h below r = absurd (let e : length (m ∷ ns) ≡ 0 = r.ends in omega arith)
around_push (range ∷ ranges) before (m ∷ ns) (g ∷ highs) n h below r =
    let rest = choices_with ranges before (integers (m +ℤ pos 1) g) in
    ap (λ cs. map (λ c. m ∷ c) cs ++ rest) (around_push ranges (before ++ m ∷ []) ns highs n h below (next_room range ranges m ns g highs r))
    ∙ ap (λ b. map (λ c. m ∷ c) (around ranges (before ++ m ∷ []) ns highs (map (λ c. n ∷ c) below ++ choices_with (drop (suc (length ns)) ranges) b (integers (n +ℤ pos 1) h))) ++ rest) (append_assoc before (m ∷ []) ns)

pub around_first : (ranges : List Range) (before ns : Chosen) (highs : List ℤ) (below : List Chosen) → Fits ranges ns highs
    → around ranges before ns highs ([] ∷ below) ≡ ns ∷ around ranges before ns highs below
unfolding around
around_first ranges before [] highs below r = refl
around_first [] before (m ∷ ns) highs below r = absurd (let w : length (m ∷ ns) ≤ 0 = r.within in omega arith)
around_first (range ∷ ranges) before (m ∷ ns) [] below r = absurd (let e : length (m ∷ ns) ≡ 0 = r.ends in omega arith)
around_first (range ∷ ranges) before (m ∷ ns) (g ∷ highs) below r =
    ap (λ cs. map (λ c. m ∷ c) cs ++ choices_with ranges before (integers (m +ℤ pos 1) g)) (around_first ranges (before ++ m ∷ []) ns highs below (next_fits range ranges m ns g highs r))

pub turns_push : (ranges : List Range) (before ns : Chosen) (highs : List ℤ) (n h : ℤ) (below : ℕ) → HasRoom ranges ns highs
    → turns_around ranges before (ns ++ n ∷ []) (highs ++ h ∷ []) below ≡ turns_around ranges before ns highs (below + (1 + turns_with (drop (suc (length ns)) ranges) (before ++ ns) (integers (n +ℤ pos 1) h)))
unfolding turns_around
turns_push [] before ns highs n h below r = absurd (let w : length ns < 0 = r.within in omega arith)
turns_push (range ∷ ranges) before [] [] n h below r =
    ap (λ b. below + (1 + turns_with ranges b (integers (n +ℤ pos 1) h))) (sym (append-nil before))
turns_push (range ∷ ranges) before [] (g ∷ highs) n h below r = absurd (let e : 0 ≡ length (g ∷ highs) = r.ends in omega arith)
turns_push (range ∷ ranges) before (m ∷ ns) [] n h below r = absurd (let e : length (m ∷ ns) ≡ 0 = r.ends in omega arith)
turns_push (range ∷ ranges) before (m ∷ ns) (g ∷ highs) n h below r =
    let rest = 1 + turns_with ranges before (integers (m +ℤ pos 1) g) in
    ap (λ k. k + rest) (turns_push ranges (before ++ m ∷ []) ns highs n h below (next_room range ranges m ns g highs r))
    ∙ ap (λ b. turns_around ranges (before ++ m ∷ []) ns highs (below + (1 + turns_with (drop (suc (length ns)) ranges) b (integers (n +ℤ pos 1) h))) + rest) (append_assoc before (m ∷ []) ns)

pub turns_less : (ranges : List Range) (before ns : Chosen) (highs : List ℤ) (a b : ℕ) → Fits ranges ns highs → a < b
    → turns_around ranges before ns highs a < turns_around ranges before ns highs b
unfolding turns_around
turns_less ranges before [] highs a b r less = less
turns_less [] before (m ∷ ns) highs a b r less = absurd (let w : length (m ∷ ns) ≤ 0 = r.within in omega arith)
turns_less (range ∷ ranges) before (m ∷ ns) [] a b r less = absurd (let e : length (m ∷ ns) ≡ 0 = r.ends in omega arith)
turns_less (range ∷ ranges) before (m ∷ ns) (g ∷ highs) a b r less =
    omega (arith, turns_less ranges (before ++ m ∷ []) ns highs a b (next_fits range ranges m ns g highs r) less)
