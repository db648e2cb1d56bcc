-- The value at the front is the longest.
use Rattle.std.proofs.Common.{◌≡◌, ℕ, ◌+◌, ◌-◌, ◌≤◌, List, [], ◌∷◌, ◌++◌, length, take, drop, Option, Some, None, refl, ap, sym, ◌∙◌, subst, arith, length-append}
use Rattle.std.proofs.Math.Seq.{take-append_seam}
use Rattle.std.proofs.lemmas.List.{take-append-drop, length-take}
use Rattle.std.proofs.lemmas.Option.{none-some, some_pair_parts, same_Some}
use Rattle.std.specs.Option.{option_map, option_or, IfSome, IsSomeAnd}
use Rattle.std.specs.Prelude.{Result, Ok, Err, IfOk}
use Rattle.ms_text.specs.declared.token.TokenKind.TheVariants as kind
use Rattle.ms_grammar.specs.declared.part.ValuePart.{ValuePart}
use Rattle.ms_grammar.specs.Words.{Word, name, number, quoted, sign}
use Rattle.ms_grammar.specs.Reading.{EndsValue, IsFront, IsLongest, IsRead}
use Rattle.ms_grammar.specs.Values.{Spelling, numeral, negative, string, constant, no_arguments, function, empty_tuple, tuple, tuple_comma, value_words, value_part}
use Rattle.ms_read_value.specs.declared.reader.Place.TheVariants.{First}
use Rattle.ms_read_value.specs.Lexemes.{lexeme_of}
use Rattle.ms_read_value.specs.Machine.{opened, begin, within}
use Rattle.ms_read_value.specs.Front.{read_on, front, arguments_front, counted}
use Rattle.ms_read_value.proofs.Steps.{constant_part, found_after, found_from}
use Rattle.ms_read_value.proofs.Complete.{complete-value, opens_arguments}
use Rattle.ms_read_value.proofs.Sound.{Finds, opening, front-leads, opening-leads, finds_more, finds_here, sound}

-- a value that begins with another word than a name
begin-sound : (w : Word) (ws : List Word) (part : ValuePart) (rest : List Word) → read_on (begin [] (lexeme_of w)) ws ≡ Some (part, rest) → Finds [] (w ∷ ws) part rest
begin-sound w ws part rest e = finds_more [] w ws part rest (sound ws (begin [] (lexeme_of w)) (w ∷ []) (front-leads w) part rest e)

-- the words in the brackets of a name, and what follows
inside-sound : (f : List ℕ) (inside : List Word) (part : ValuePart) (rest : List Word) → arguments_front f (sign kind.LeftParen ∷ inside) ≡ Some (part, rest) → Finds (opening (Some f)) inside part rest
inside-sound f inside part rest e = sound inside (within (opened (Some f) ∷ []) First) (opening (Some f)) (opening-leads f) part rest e

arguments-sound : (f : List ℕ) (ws : List Word) (part : ValuePart) (rest : List Word) → arguments_front f ws ≡ Some (part, rest) → Finds [] (name f ∷ ws) part rest
arguments-sound f [] part rest e = absurd (none-some (part, rest) e)
arguments-sound f (name g ∷ ws) part rest e = absurd (none-some (part, rest) e)
arguments-sound f (number n ∷ ws) part rest e = absurd (none-some (part, rest) e)
arguments-sound f (quoted s ∷ ws) part rest e = absurd (none-some (part, rest) e)
arguments-sound f (sign kind.LeftParen ∷ ws) part rest e =
    finds_more [] (name f) (sign kind.LeftParen ∷ ws) part rest (finds_more (name f ∷ []) (sign kind.LeftParen) ws part rest (inside-sound f ws part rest e))
arguments-sound f (sign other ∷ ws) part rest e = absurd (none-some (part, rest) e)

-- a name alone
alone : List ℕ → List Word → Option (ValuePart × List Word)
alone f ws = Some (constant_part f, ws)

named-sound : (f : List ℕ) (ws : List Word) (part : ValuePart) (rest : List Word) (found : Option (ValuePart × List Word)) → arguments_front f ws ≡ found → option_or found (alone f ws) ≡ Some (part, rest)
    → Finds [] (name f ∷ ws) part rest
unfolding alone
named-sound f ws part rest None q e =
    let parts = some_pair_parts (constant_part f) part ws rest e in
    finds_more [] (name f) ws part rest (finds_here (name f ∷ []) ws (constant_part f) part rest (record { value = constant f; part_is = refl; words_are = refl }) parts.0 parts.1)
named-sound f ws part rest (Some found) q e = arguments-sound f ws part rest (q ∙ e)

front-sound : (ws : List Word) (part : ValuePart) (rest : List Word) → front ws ≡ Some (part, rest) → Finds [] ws part rest
unfolding alone
front-sound [] part rest e = absurd (none-some (part, rest) e)
front-sound (name f ∷ ws) part rest e = named-sound f ws part rest (arguments_front f ws) refl e
front-sound (number n ∷ ws) part rest e = begin-sound (number n) ws part rest e
front-sound (quoted s ∷ ws) part rest e = begin-sound (quoted s) ws part rest e
front-sound (sign kind.Minus ∷ ws) part rest e = begin-sound (sign kind.Minus) ws part rest e
front-sound (sign other ∷ ws) part rest e = begin-sound (sign other) ws part rest e

-- The front of the words spells the value.
abbrev IsValueFront : List Word → ValuePart → ℕ → Type 0
IsValueFront = IsFront Spelling ValuePart value_words value_part

is_front : (ws : List Word) (part : ValuePart) (rest : List Word) → Finds [] ws part rest → IsValueFront ws part (length ws - length rest)
is_front ws part rest f =
    let total : length ws ≡ length f.more + length rest = ap length f.words_are ∙ length-append f.more rest in
    let count : length ws - length rest ≡ length f.more = omega (arith, total) in
    record {
      derivation = f.spells.value;
      within = omega (arith, total);
      words_are = f.spells.words_are ∙ sym (take-append_seam f.more rest) ∙ ap (λ x. take (length f.more) x) (sym f.words_are) ∙ ap (λ n. take n ws) (sym count);
      spells = f.spells.part_is;
    }

-- with the number of its words
abbrev counted_in : List Word → Option (ValuePart × List Word) → Option (ValuePart × ℕ)
counted_in ws found = option_map (λ f. (f.0, length ws - length f.1)) found

counted-sound : (ws : List Word) (found : Option (ValuePart × List Word)) → front ws ≡ found → IfSome (counted_in ws found) (λ f. IsValueFront ws f.0 f.1)
counted-sound ws None e = tt
counted-sound ws (Some found) e = is_front ws found.0 found.1 (front-sound ws found.0 found.1 e)

-- what carries on a name alone
abbrev EndsAlone : Spelling → List Word → Type 0
EndsAlone (constant f) ws = EndsValue ws
EndsAlone v ws = Unit {0}

ends_alone : (v : Spelling) (ws : List Word) → EndsValue ws → EndsAlone v ws
ends_alone (constant f) ws h = h
ends_alone (numeral n) ws h = tt
ends_alone v ws h = tt

no_arguments_follow : (f : List ℕ) (ws : List Word) → EndsValue ws → arguments_front f ws ≡ None
no_arguments_follow f [] h = refl
no_arguments_follow f (name g ∷ ws) h = refl
no_arguments_follow f (number n ∷ ws) h = refl
no_arguments_follow f (quoted s ∷ ws) h = refl
no_arguments_follow f (sign kind.LeftParen ∷ ws) h = absurd h
no_arguments_follow f (sign other ∷ ws) h = refl

arguments_follow : (f : List ℕ) (ws : List Word) (part : ValuePart) (rest : List Word) → found_from [] (name f ∷ sign kind.LeftParen ∷ ws) ≡ Some (part, rest) → front (name f ∷ sign kind.LeftParen ∷ ws) ≡ Some (part, rest)
unfolding alone
arguments_follow f ws part rest e = ap (λ found. option_or found (alone f (sign kind.LeftParen ∷ ws))) (sym (opens_arguments f [] ws) ∙ e)

front-complete : (v : Spelling) (ws : List Word) → EndsAlone v ws → (part : ValuePart) → value_part v ≡ Some part → front (value_words v ++ ws) ≡ Some (part, ws)
front-complete (numeral n) ws h part e = complete-value (numeral n) [] ws tt ∙ ap (λ p. found_after p [] ws) e
front-complete (negative n) ws h part e = complete-value (negative n) [] ws tt ∙ ap (λ p. found_after p [] ws) e
front-complete (string s) ws h part e = complete-value (string s) [] ws tt ∙ ap (λ p. found_after p [] ws) e
front-complete (constant f) ws h part e = ap (λ found. option_or found (Some (constant_part f, ws))) (no_arguments_follow f ws h) ∙ ap (option_map (λ p. (p, ws))) e
front-complete (no_arguments f) ws h part e = arguments_follow f _ part ws (complete-value (no_arguments f) [] ws tt ∙ ap (λ p. found_after p [] ws) e)
front-complete (function f vs) ws h part e = arguments_follow f _ part ws (complete-value (function f vs) [] ws tt ∙ ap (λ p. found_after p [] ws) e)
front-complete empty_tuple ws h part e = complete-value empty_tuple [] ws tt ∙ ap (λ p. found_after p [] ws) e
front-complete (tuple vs) ws h part e = complete-value (tuple vs) [] ws tt ∙ ap (λ p. found_after p [] ws) e
front-complete (tuple_comma vs) ws h part e = complete-value (tuple_comma vs) [] ws tt ∙ ap (λ p. found_after p [] ws) e

counted-complete : (ws : List Word) (v : Spelling) (rest : List Word) (part : ValuePart) → ws ≡ value_words v ++ rest → EndsAlone v rest → value_part v ≡ Some part → counted ws ≡ Some (part, length (value_words v))
counted-complete ws v rest part e h s =
    let total : length ws ≡ length (value_words v) + length rest = ap length e ∙ length-append (value_words v) rest in
    let count : length ws - length rest ≡ length (value_words v) = omega (arith, total) in
    ap (counted_in ws) (ap front e ∙ front-complete v rest h part s) ∙ ap (λ n. Some (part, n)) count

pub is_read : (ws : List Word) → IsRead Spelling ValuePart value_words value_part EndsValue ws (counted ws)
is_read ws = record {
  sound = counted-sound ws (front ws) refl;
  complete = λ v rest part e h s. counted-complete ws v rest part e (ends_alone v rest h) s;
}

-- What was found is no shorter, and if as long the same.
abbrev Covers : ValuePart → ℕ → Option (ValuePart × ℕ) → Type 0
Covers part n found = IsSomeAnd found (λ f. (n ≤ f.1) × (n ≡ f.1 → part ≡ f.0))

covers_itself : (part : ValuePart) (n : ℕ) (found : Option (ValuePart × ℕ)) → found ≡ Some (part, n) → Covers part n found
covers_itself part n found e = subst (Covers part n) (sym e) (omega arith, λ _. refl)

-- a name before brackets that may be its own
covers_name : (f : List ℕ) (inside : List Word) (found : Option (ValuePart × List Word)) → arguments_front f (sign kind.LeftParen ∷ inside) ≡ found
    → Covers (constant_part f) 1 (counted_in (name f ∷ sign kind.LeftParen ∷ inside) (option_or found (alone f (sign kind.LeftParen ∷ inside))))
unfolding alone
covers_name f inside None e = (omega arith, λ _. refl)
covers_name f inside (Some found) e =
    let finds = inside-sound f inside found.0 found.1 e in
    let total : length inside ≡ length finds.more + length found.1 = ap length finds.words_are ∙ length-append finds.more found.1 in
    (omega (arith, total), λ h. absurd (omega (arith, total, h)))

covers_before : (f : List ℕ) (rest : List Word) → Covers (constant_part f) 1 (counted (name f ∷ rest))
unfolding alone
covers_before f [] = covers_itself (constant_part f) 1 (counted (name f ∷ [])) (counted-complete (name f ∷ []) (constant f) [] (constant_part f) refl tt refl)
covers_before f (name g ∷ ws) = covers_itself (constant_part f) 1 _ (counted-complete (name f ∷ name g ∷ ws) (constant f) (name g ∷ ws) (constant_part f) refl tt refl)
covers_before f (number n ∷ ws) = covers_itself (constant_part f) 1 _ (counted-complete (name f ∷ number n ∷ ws) (constant f) (number n ∷ ws) (constant_part f) refl tt refl)
covers_before f (quoted s ∷ ws) = covers_itself (constant_part f) 1 _ (counted-complete (name f ∷ quoted s ∷ ws) (constant f) (quoted s ∷ ws) (constant_part f) refl tt refl)
covers_before f (sign kind.LeftParen ∷ ws) = covers_name f ws (arguments_front f (sign kind.LeftParen ∷ ws)) refl
covers_before f (sign other ∷ ws) = covers_itself (constant_part f) 1 _ (counted-complete (name f ∷ sign other ∷ ws) (constant f) (sign other ∷ ws) (constant_part f) refl tt refl)

covers_spelled : (v : Spelling) (rest : List Word) (part : ValuePart) → value_part v ≡ Some part → Covers part (length (value_words v)) (counted (value_words v ++ rest))
covers_spelled (constant f) rest part e = subst (λ p. Covers p 1 (counted (name f ∷ rest))) (same_Some (constant_part f) part e) (covers_before f rest)
covers_spelled (numeral n) rest part e = covers_itself part _ _ (counted-complete _ (numeral n) rest part refl tt e)
covers_spelled v rest part e = covers_itself part _ _ (counted-complete (value_words v ++ rest) v rest part refl tt e)

covers_front : (ws : List Word) (part : ValuePart) (n : ℕ) → IsValueFront ws part n → Covers part n (counted ws)
covers_front ws part n h =
    let whole : value_words h.derivation ++ drop n ws ≡ ws = ap (λ front. front ++ drop n ws) h.words_are ∙ take-append-drop n ws in
    let count : length (value_words h.derivation) ≡ n = ap length h.words_are ∙ simp length-take (omega (arith, h.within)) in
    subst (λ m. Covers part m (counted ws)) count (subst (λ x. Covers part (length (value_words h.derivation)) (counted x)) whole (covers_spelled h.derivation (drop n ws) part h.spells))

pub is_longest : (ws : List Word) → IsLongest Spelling ValuePart value_words value_part ws (counted ws)
is_longest ws = record {
  sound = counted-sound ws (front ws) refl;
  longest = covers_front ws;
}

pub longest_if_ok : {E : Type 0} (ws : List Word) (found : Result (Option (ValuePart × ℕ)) E) → IfOk found (λ f. f ≡ counted ws) → IfOk found (IsLongest Spelling ValuePart value_words value_part ws)
longest_if_ok ws (Ok f) e = subst (IsLongest Spelling ValuePart value_words value_part ws) (sym e) (is_longest ws)
longest_if_ok ws (Err e) h = tt

pub read_if_ok : {E : Type 0} (ws : List Word) (found : Result (Option (ValuePart × ℕ)) E) → IfOk found (λ f. f ≡ counted ws) → IfOk found (IsRead Spelling ValuePart value_words value_part EndsValue ws)
read_if_ok ws (Ok f) e = subst (IsRead Spelling ValuePart value_words value_part EndsValue ws) (sym e) (is_read ws)
read_if_ok ws (Err e) h = tt
