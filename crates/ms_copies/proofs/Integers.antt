-- The integers from one to another.
use Rattle.std.proofs.Common.{◌≡◌, ℕ, zero, suc, ℤ, pos, negsuc, ◌+ℤ◌, ◌-ℤ◌, ◌≤ℤ◌, ◌<ℤ◌, inl, inr, List, [], ◌∷◌, refl, sym, ap, subst, arith}
use Rattle.std.specs.Prelude.{Contains}
use Rattle.std.proofs.lemmas.Int.{ints, by_lt_z}
use Rattle.std.proofs.lemmas.List.Elements.{Contains-append_cases, Contains-append_right}
use Rattle.ms_base.proofs.Lists.{Contains-first}
use Rattle.ms_copies.specs.InOrder.{integers_from, how_many, integers}

none_by : (d low high : ℤ) → high -ℤ low ≡ d → high <ℤ low → integers_from low (how_many d) ≡ []
unfolding integers_from
none_by (pos k) low high e h = absurd (omega (arith, ints))
none_by (negsuc k) low high e h = refl

more_by : (d low high : ℤ) → high -ℤ low ≡ d → low ≤ℤ high → integers_from low (how_many d) ≡ low ∷ integers_from (low +ℤ pos 1) (how_many (high -ℤ (low +ℤ pos 1)))
unfolding integers_from
more_by (negsuc k) low high e h = absurd (omega (arith, ints))
more_by (pos zero) low high e h =
    let next : high -ℤ (low +ℤ pos 1) ≡ negsuc 0 = omega (arith, ints) in
    ap (λ d. low ∷ integers_from (low +ℤ pos 1) (how_many d)) (sym next)
more_by (pos (suc k)) low high e h =
    let next : high -ℤ (low +ℤ pos 1) ≡ pos k = omega (arith, ints) in
    ap (λ d. low ∷ integers_from (low +ℤ pos 1) (how_many d)) (sym next)

-- none, where the second is less
pub integers_none : (low high : ℤ) → high <ℤ low → integers low high ≡ []
integers_none low high h = none_by (high -ℤ low) low high refl h

-- else the first, and those from the next one on
pub integers_more : (low high : ℤ) → low ≤ℤ high → integers low high ≡ low ∷ integers (low +ℤ pos 1) high
integers_more low high h = more_by (high -ℤ low) low high refl h

pub the_one : {X : Type 0} (x y : X) → Contains (x ∷ []) y → x ≡ y
the_one x y (zero, inside, is) = is
the_one x y (suc k, inside, is) = absurd (omega arith)

from_bounds : (n : ℤ) (k : ℕ) (m : ℤ) → Contains (integers_from n k) m → (n ≤ℤ m) × (m <ℤ (n +ℤ pos k))
unfolding integers_from
from_bounds n zero m (i, inside, is) = absurd (omega arith)
from_bounds n (suc k) m h = elim (Contains-append_cases (n ∷ []) (integers_from (n +ℤ pos 1) k) m h) [
  | inl here ↦ let same : n ≡ m = the_one n m here in (omega (arith, ints), omega (arith, ints))
  | inr there ↦ let b = from_bounds (n +ℤ pos 1) k m there in
      let low : (n +ℤ pos 1) ≤ℤ m = b.0 in let high : m <ℤ ((n +ℤ pos 1) +ℤ pos k) = b.1 in
      (omega (arith, ints), omega (arith, ints))
]

to_bounds : (n : ℤ) (k : ℕ) (m : ℤ) → n ≤ℤ m → m <ℤ (n +ℤ pos k) → Contains (integers_from n k) m
unfolding integers_from
to_bounds n zero m low high = absurd (omega (arith, ints))
to_bounds n (suc k) m low high = by_lt_z n m
    (λ (h : n <ℤ m). let next : (n +ℤ pos 1) ≤ℤ m = omega (arith, ints) in let last : m <ℤ ((n +ℤ pos 1) +ℤ pos k) = omega (arith, ints) in
    Contains-append_right (n ∷ []) (integers_from (n +ℤ pos 1) k) m (to_bounds (n +ℤ pos 1) k m next last))
    (λ (h : m ≤ℤ n). let same : n ≡ m = omega (arith, ints) in subst (λ (i : ℤ). Contains (n ∷ integers_from (n +ℤ pos 1) k) i) same (Contains-first n (integers_from (n +ℤ pos 1) k)))

bounds_by : (d low high m : ℤ) → high -ℤ low ≡ d → Contains (integers_from low (how_many d)) m → (low ≤ℤ m) × (m ≤ℤ high)
unfolding integers_from
bounds_by (negsuc k) low high m e (i, inside, is) = absurd (omega arith)
bounds_by (pos k) low high m e h = let b = from_bounds low (suc k) m h in let above : m <ℤ (low +ℤ pos (suc k)) = b.1 in (b.0, omega (arith, ints))

among_by : (d low high m : ℤ) → high -ℤ low ≡ d → low ≤ℤ m → m ≤ℤ high → Contains (integers_from low (how_many d)) m
among_by (negsuc k) low high m e a b = absurd (omega (arith, ints))
among_by (pos k) low high m e a b = to_bounds low (suc k) m a (omega (arith, ints))

pub integers_bounds : (low high m : ℤ) → Contains (integers low high) m → (low ≤ℤ m) × (m ≤ℤ high)
integers_bounds low high m h = bounds_by (high -ℤ low) low high m refl h

pub integers_among : (low high m : ℤ) → low ≤ℤ m → m ≤ℤ high → Contains (integers low high) m
integers_among low high m a b = among_by (high -ℤ low) low high m refl a b
