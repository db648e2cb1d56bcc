-- Words of a line, and where they end.
use Rattle.std.proofs.Common.{◌≡◌, ◌≢◌, ℕ, ◌-◌, ◌≤◌, Bool, true, false, cond, List, [], ◌∷◌, ◌++◌, length, take, drop, take_while, get_or, refl, sym, ap, ◌∙◌, subst, arith}
use Rattle.std.specs.List.{AllByRecursion}
use Rattle.std.proofs.lemmas.Bool.Decides.{nat_tests}
use Rattle.std.proofs.lemmas.List.{take-append-drop, take_rest}
use Rattle.std.proofs.lemmas.List.Elements.{All-from_recursion}
use Rattle.std.proofs.lemmas.List.Sums.{take_while-cons}
use Rattle.ms_log.specs.NoteText.{is_in_word}
use Rattle.ms_log.specs.Reading.{IsWord, EndsWord}

-- a word, by recursion
abbrev pub Bare : List ℕ → Type 0
Bare word = AllByRecursion (λ b. b ≢ 32) word

-- a text is cut in one way into a word and what follows it
pub same_word : (v w a b : List ℕ) → Bare v → Bare w → EndsWord a → EndsWord b → v ++ a ≡ w ++ b → (v ≡ w) × (a ≡ b)
same_word [] [] a b hv hw ea eb e = (refl, e)
same_word [] (x ∷ w) [] b hv hw ea eb e = absurd (cc)
same_word [] (x ∷ w) (y ∷ a) b hv hw ea eb e = let heads : x ≡ y = cc in absurd (hw.0 (heads ∙ ea))
same_word (x ∷ v) [] a [] hv hw ea eb e = absurd (cc)
same_word (x ∷ v) [] a (y ∷ b) hv hw ea eb e = let heads : x ≡ y = cc in absurd (hv.0 (heads ∙ eb))
same_word (x ∷ v) (y ∷ w) a b hv hw ea eb e =
    let heads : x ≡ y = cc in
    let tails : v ++ a ≡ w ++ b = cc in
    let rest = same_word v w a b hv.1 hw.1 ea eb tails in
    let words : v ≡ w = rest.0 in
    let both : x ∷ v ≡ y ∷ w = cc in
    (both, rest.1)

not_space : (b : ℕ) → is_in_word b ≡ true → b ≢ 32
not_space b e = λ s. grind (arith, nat_tests)

space : (b : ℕ) → is_in_word b ≡ false → b ≡ 32
space b e = grind (arith, nat_tests)

record IsCut (bs : List ℕ) (n : ℕ) : Type 0 where
  word : Bare (take n bs)
  ends : EndsWord (drop n bs)

cut_by : (b : ℕ) (bs : List ℕ) (t : Bool) → is_in_word b ≡ t → IsCut bs (length (take_while is_in_word bs)) → IsCut (b ∷ bs) (length (take_while is_in_word (b ∷ bs)))
cut_by b bs true e rest =
    subst (λ n. IsCut (b ∷ bs) n) (sym (ap length (take_while-cons is_in_word b bs ∙ ap (λ t. cond t (b ∷ take_while is_in_word bs) []) e)))
    (record { word = (not_space b e, rest.word); ends = rest.ends })
cut_by b bs false e rest =
    subst (λ n. IsCut (b ∷ bs) n) (sym (ap length (take_while-cons is_in_word b bs ∙ ap (λ t. cond t (b ∷ take_while is_in_word bs) []) e)))
    (record { word = tt; ends = space b e })

cut : (bs : List ℕ) → IsCut bs (length (take_while is_in_word bs))
cut [] = record { word = tt; ends = tt }
cut (b ∷ bs) = cut_by b bs (is_in_word b) refl (cut bs)

-- the word behind a space
pub word_found : (text rest word after : List ℕ) (n : ℕ) → text ≡ 32 ∷ rest → n ≡ length (take_while is_in_word rest) → word ≡ take n rest → after ≡ drop n rest
    → (text ≡ 32 ∷ (word ++ after)) × IsWord word × EndsWord after
word_found text rest word after n is len front back =
    let parts : IsCut rest n = subst (λ m. IsCut rest m) (sym len) (cut rest) in
    let whole : rest ≡ word ++ after = sym (take-append-drop n rest) ∙ ap (λ xs. xs ++ drop n rest) (sym front) ∙ ap (λ xs. word ++ xs) (sym back) in
    (is ∙ ap (λ xs. 32 ∷ xs) whole, subst (λ xs. IsWord xs) (sym front) (All-from_recursion (λ b. b ≢ 32) (take n rest) parts.word), subst (λ xs. EndsWord xs) (sym back) parts.ends)

-- what stands behind a byte at the front
abbrev pub behind : List ℕ → List ℕ
behind text = take (length text - 1) (drop 1 text)

-- a text that begins with a byte
pub front_is : (text : List ℕ) (b : ℕ) → 1 ≤ length text → get_or text 0 0 ≡ b → text ≡ b ∷ behind text
front_is [] b some e = absurd (omega arith)
front_is (x ∷ xs) b some e =
    let rest : take (length (x ∷ xs) - 1) xs ≡ xs = take_rest (x ∷ xs) 1 in
    ap (λ y. y ∷ xs) e ∙ ap (λ ys. b ∷ ys) (sym rest)
