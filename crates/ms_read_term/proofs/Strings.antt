-- The bytes between quotes, one by one.
use Rattle.std.proofs.Common.{◌≡◌, ℕ, ◌+◌, ◌<◌, ◌≤◌, ◌≢◌, ◌==◌, Bool, true, false, List, [], ◌∷◌, ◌++◌, length, drop, get_or, refl, ap, sym, ◌∙◌, append_assoc, append-nil}
use Rattle.std.proofs.lemmas.List.{at_drop_more, at_drop_all}
use Rattle.std.proofs.lemmas.Bool.{eq-eqb}
use Rattle.std.proofs.Common.{arith}
use Rattle.std.proofs.lemmas.Bool.Decides.{nat_tests}
use Rattle.ms_grammar.specs.Words.{escaped, unescaped}

pub behind_more : (xs : List ℕ) (i : ℕ) (out total : List ℕ) → i < length xs → out ++ unescaped true (drop i xs) ≡ total → (out ++ escaped (get_or xs i 0) ∷ []) ++ unescaped false (drop (i + 1) xs) ≡ total
unfolding unescaped
behind_more xs i out total h e = append_assoc out (escaped (get_or xs i 0) ∷ []) (unescaped false (drop (i + 1) xs)) ∙ sym (ap (λ ys. out ++ ys) (at_drop_more (unescaped true) xs i 0 h)) ∙ e

-- a byte that stands behind no backslash
abbrev picked : Bool → ℕ → List ℕ → List ℕ
picked true x xs = unescaped true xs
picked false x xs = x ∷ unescaped false xs

same : (b : Bool) (x : ℕ) (xs : List ℕ) → elim b [ true ↦ unescaped true xs | false ↦ x ∷ unescaped false xs ] ≡ picked b x xs
same true x xs = refl
same false x xs = refl

at_byte : (x : ℕ) (xs : List ℕ) (b : Bool) → (x == 92) ≡ b → unescaped false (x ∷ xs) ≡ picked b x xs
unfolding unescaped
at_byte x xs b e = ap (λ c. elim c [ true ↦ unescaped true xs | false ↦ x ∷ unescaped false xs ]) e ∙ same b x xs

pub slash_more : (xs : List ℕ) (i : ℕ) (out total : List ℕ) → i < length xs → get_or xs i 0 ≡ 92 → out ++ unescaped false (drop i xs) ≡ total → out ++ unescaped true (drop (i + 1) xs) ≡ total
slash_more xs i out total h slash e = sym (ap (λ ys. out ++ ys) (at_drop_more (unescaped false) xs i 0 h ∙ at_byte (get_or xs i 0) (drop (i + 1) xs) true (eq-eqb _ _ slash))) ∙ e

pub byte_more : (xs : List ℕ) (i : ℕ) (out total : List ℕ) → i < length xs → (get_or xs i 0 == 92) ≡ false → out ++ unescaped false (drop i xs) ≡ total → (out ++ get_or xs i 0 ∷ []) ++ unescaped false (drop (i + 1) xs) ≡ total
byte_more xs i out total h other e = append_assoc out (get_or xs i 0 ∷ []) (unescaped false (drop (i + 1) xs)) ∙ sym (ap (λ ys. out ++ ys) (at_drop_more (unescaped false) xs i 0 h ∙ at_byte (get_or xs i 0) (drop (i + 1) xs) false other)) ∙ e

nothing : (behind : Bool) → unescaped behind [] ≡ []
unfolding unescaped
nothing true = refl
nothing false = refl

pub at_end : (xs : List ℕ) (i : ℕ) (out total : List ℕ) (behind : Bool) → length xs ≤ i → out ++ unescaped behind (drop i xs) ≡ total → out ≡ total
at_end xs i out total behind h e = sym (append-nil out) ∙ sym (ap (λ ys. out ++ ys) (at_drop_all (unescaped behind) xs i h ∙ nothing behind)) ∙ e

pub other_byte : (x : ℕ) → x ≢ 92 → (x == 92) ≡ false
other_byte x h = grind (arith, nat_tests)
