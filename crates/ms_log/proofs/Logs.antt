-- A log is cut in one way into the lines of notes.
use Rattle.std.proofs.Common.{◌≡◌, ◌≢◌, ℕ, ◌==◌, ◌&&◌, Bool, true, false, not, List, [], ◌∷◌, ◌++◌, All, refl, sym, ap, ◌∙◌, arith, inl, codes, append_assoc}
use Rattle.std.specs.List.{AllByRecursion, list_all}
use Rattle.std.proofs.lemmas.Bool.Decides.{nat_tests}
use Rattle.std.proofs.lemmas.List.Elements.{recursion_from_All}
use Rattle.std.proofs.lemmas.List.Folds.{list_all-append}
use Rattle.ms_lits.specs.declared.lit.Lit.{Lit}
use Rattle.ms_lits.specs.declared.note.Note.{Note}
use Rattle.ms_lits.specs.declared.note.Note.TheVariants.{Atom, Body, Tuple, Aggregate, Start, Theory, Kept, Temporary, Answer, Finish}
use Rattle.ms_log.specs.NoteText.{number_text, literal_text, numbers_text, literals_text, items_text, words_text, notes_text, IsThing, IsLiteral, IsInLine, IsReadable}
use Rattle.ms_log.proofs.Numerals.{avoids, thing_numeral}
use Rattle.ms_log.proofs.Notes.{one_words}

abbrev is_inside : ℕ → Bool
is_inside b = not (b == 10)

-- a text without a line end
abbrev Inside : List ℕ → Type 0
Inside text = list_all is_inside text ≡ true

inside_by : (b : ℕ) → b ≢ 10 → is_inside b ≡ true
inside_by b h = grind (arith, nat_tests)

no_end : (b : ℕ) → is_inside b ≡ true → b ≢ 10
no_end b h = λ e. grind (arith, nat_tests)

inside_from : (text : List ℕ) → AllByRecursion (λ b. b ≢ 10) text → Inside text
inside_from [] h = refl
inside_from (b ∷ bs) h = ap (λ t. t && list_all is_inside bs) (inside_by b h.0) ∙ inside_from bs h.1

inside_text : (text : List ℕ) → IsInLine text → Inside text
inside_text text h = inside_from text (recursion_from_All (λ b. b ≢ 10) text h.no_end)

inside_append : (xs ys : List ℕ) → Inside xs → Inside ys → Inside (xs ++ ys)
inside_append xs ys hx hy = list_all-append is_inside xs ys ∙ ap (λ t. t && list_all is_inside ys) hx ∙ hy

inside_items : {X : Type 0} (text : X → List ℕ) (Fits : X → Type 0) → ((x : X) → Fits x → Inside (text x)) → (xs : List X) → AllByRecursion Fits xs → Inside (items_text text xs)
inside_items text Fits inside [] h = refl
inside_items text Fits inside (x ∷ xs) h = inside_append (text x) (items_text text xs) (inside x h.0) (inside_items text Fits inside xs h.1)

inside_number : (thing : ℕ) → IsThing thing → Inside (number_text thing)
inside_number thing h = inside_from (number_text thing) (avoids 10 (inl (omega arith)) (number_text thing) (thing_numeral thing h).digits)

inside_sign : (thing : ℕ) (truth : Bool) → IsThing thing → Inside (literal_text (record { var = thing; truth = truth }))
inside_sign thing true h = inside_number thing h
inside_sign thing false h = inside_number thing h

inside_literal : (lit : Lit) → IsLiteral lit → Inside (literal_text lit)
inside_literal lit h = inside_sign lit.var lit.truth h

inside_numbers : (numbers : List ℕ) → All IsThing numbers → Inside (numbers_text numbers)
inside_numbers numbers h = inside_items number_text IsThing inside_number numbers (recursion_from_All IsThing numbers h)

inside_literals : (lits : List Lit) → All IsLiteral lits → Inside (literals_text lits)
inside_literals lits h = inside_items literal_text IsLiteral inside_literal lits (recursion_from_All IsLiteral lits h)

inside_words : (note : Note) → IsReadable note → Inside (words_text note)
inside_words (Atom name) h = inside_text name h
inside_words (Body lits) h = inside_literals lits h
inside_words (Tuple terms conditions) h = inside_append (terms ++ codes " :") (numbers_text conditions) (inside_append terms (codes " :") (inside_text terms h.0) refl) (inside_numbers conditions h.1)
inside_words (Aggregate guards tuples) h = inside_append (guards ++ codes " :") (numbers_text tuples) (inside_append guards (codes " :") (inside_text guards h.0) refl) (inside_numbers tuples h.2)
inside_words (Start true lits) h = inside_literals lits h
inside_words (Start false lits) h = inside_literals lits h
inside_words (Theory lits) h = inside_literals lits h
inside_words (Kept lits) h = inside_literals lits h
inside_words (Temporary lits) h = inside_literals lits h
inside_words (Answer atoms) h = inside_numbers atoms h
inside_words (Finish ending) h = inside_text ending h

both_by : (s t : Bool) → (s && t) ≡ true → (s ≡ true) × (t ≡ true)
both_by true t h = (refl, h)
both_by false t h = absurd (cc)

head : (b : ℕ) (bs : List ℕ) → Inside (b ∷ bs) → is_inside b ≡ true
head b bs h = (both_by (is_inside b) (list_all is_inside bs) h).0

tail : (b : ℕ) (bs : List ℕ) → Inside (b ∷ bs) → Inside bs
tail b bs h = (both_by (is_inside b) (list_all is_inside bs) h).1

not_empty : (words rest : List ℕ) → [] ≢ (words ++ 10 ∷ []) ++ rest
not_empty [] rest e = cc
not_empty (b ∷ bs) rest e = cc

-- a text is cut in one way at its first line end
one_first : (v w a b : List ℕ) → Inside v → Inside w → v ++ 10 ∷ a ≡ w ++ 10 ∷ b → (v ≡ w) × (a ≡ b)
one_first [] [] a b hv hw e = let tails : a ≡ b = cc in (refl, tails)
one_first [] (y ∷ w) a b hv hw e = let heads : 10 ≡ y = cc in absurd (no_end y (head y w hw) (sym heads))
one_first (x ∷ v) [] a b hv hw e = let heads : x ≡ 10 = cc in absurd (no_end x (head x v hv) heads)
one_first (x ∷ v) (y ∷ w) a b hv hw e =
    let heads : x ≡ y = cc in
    let tails : v ++ 10 ∷ a ≡ w ++ 10 ∷ b = cc in
    let rest = one_first v w a b (tail x v hv) (tail y w hw) tails in
    let fronts : v ≡ w = rest.0 in
    let both : x ∷ v ≡ y ∷ w = cc in
    (both, rest.1)

pub one_log : (ms ns : List Note) → AllByRecursion IsReadable ms → AllByRecursion IsReadable ns → notes_text ms ≡ notes_text ns → ms ≡ ns
one_log [] [] hm hn e = refl
one_log [] (n ∷ ns) hm hn e = absurd (not_empty (words_text n) (notes_text ns) e)
one_log (m ∷ ms) [] hm hn e = absurd (not_empty (words_text m) (notes_text ms) (sym e))
one_log (m ∷ ms) (n ∷ ns) hm hn e =
    let whole : words_text m ++ 10 ∷ notes_text ms ≡ words_text n ++ 10 ∷ notes_text ns =
    sym (append_assoc (words_text m) (10 ∷ []) (notes_text ms)) ∙ e ∙ append_assoc (words_text n) (10 ∷ []) (notes_text ns) in
    let parts = one_first (words_text m) (words_text n) (notes_text ms) (notes_text ns) (inside_words m hm.0) (inside_words n hn.0) whole in
    let first : m ≡ n = one_words m n hm.0 hn.0 parts.0 in
    let others : ms ≡ ns = one_log ms ns hm.1 hn.1 parts.1 in
    cc
