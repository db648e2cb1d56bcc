-- Integers that are looked up.
use Rattle.std.proofs.Common.{◌≡◌, ℕ, ℤ, ◌<◌, ◌≤◌, List, length, Option, Some, None, refl, sym, Bor}
use Rattle.std.specs.Prelude.{MatchOption, HoldsAt, option_copied, slice_get}
use Rattle.std.proofs.lemmas.Option.{slice_get_past, slice_get_read}

pub looked_up : (r : Option (Bor ℤ)) (xs : List ℤ) (i : ℕ) → MatchOption r (length xs ≤ i) (λ x. (i < length xs) × HoldsAt (λ y. x.now ≡ y) xs i) → option_copied r ≡ slice_get xs i
looked_up None xs i h = sym (slice_get_past xs i h)
looked_up (Some x) xs i h = sym (slice_get_read xs (length xs) i x.now refl h.0 (h.1 x.now))
