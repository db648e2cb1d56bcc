-- A word by its letters.
use Rattle.std.proofs.Common.{◌≡◌, ℕ, List, [], ◌∷◌, length, get_or, refl, arith}

pub seven_letters : (a b c d e f g : ℕ) (word : List ℕ) → length word ≡ 7 → get_or word 0 0 ≡ a → get_or word 1 0 ≡ b → get_or word 2 0 ≡ c → get_or word 3 0 ≡ d → get_or word 4 0 ≡ e → get_or word 5 0 ≡ f → get_or word 6 0 ≡ g
    → word ≡ a ∷ b ∷ c ∷ d ∷ e ∷ f ∷ g ∷ []
seven_letters a b c d e f g (x0 ∷ x1 ∷ x2 ∷ x3 ∷ x4 ∷ x5 ∷ x6 ∷ []) l e0 e1 e2 e3 e4 e5 e6 = rw (e0, e1, e2, e3, e4, e5, e6) refl
seven_letters a b c d e f g _ l e0 e1 e2 e3 e4 e5 e6 = absurd (omega arith)

pub eight_letters : (a b c d e f g h : ℕ) (word : List ℕ) → length word ≡ 8 → get_or word 0 0 ≡ a → get_or word 1 0 ≡ b → get_or word 2 0 ≡ c → get_or word 3 0 ≡ d → get_or word 4 0 ≡ e → get_or word 5 0 ≡ f → get_or word 6 0 ≡ g → get_or word 7 0 ≡ h
    → word ≡ a ∷ b ∷ c ∷ d ∷ e ∷ f ∷ g ∷ h ∷ []
eight_letters a b c d e f g h (x ∷ xs) l e0 e1 e2 e3 e4 e5 e6 e7 = let n : length xs ≡ 7 = omega arith in rw (e0, seven_letters b c d e f g h xs n e1 e2 e3 e4 e5 e6 e7) refl
eight_letters a b c d e f g h [] l e0 e1 e2 e3 e4 e5 e6 e7 = absurd (omega arith)
