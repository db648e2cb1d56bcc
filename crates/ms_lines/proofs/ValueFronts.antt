-- Values, atoms and literals at the front of words.
use Rattle.std.proofs.Common.{◌≡◌, ℕ, Bool, true, false, if◌then◌else◌, List, [], ◌∷◌, ◌++◌, length, drop, Option, Some, None, Result, Ok, Err, IfOk, refl, sym, ap, ◌∙◌, subst, length-take-le, take-append-drop}
use Rattle.std.proofs.lemmas.Bool.{true≢false, false≢true}
use Rattle.std.proofs.lemmas.Option.{none-some, some_pair_parts}
use Rattle.ms_text.specs.declared.token.Token.{Token}
use Rattle.ms_text.specs.declared.token.TokenKind.{TokenKind}
use Rattle.ms_text.specs.declared.token.TokenKind.TheVariants.{LeftParen, Name, Number, Text}
use Rattle.ms_grammar.specs.declared.value.Value.{Value}
use Rattle.ms_grammar.specs.declared.part.ValuePart.{ValuePart}
use Rattle.ms_grammar.specs.Words.{Word, name, word_by_kind, words_of}
use Rattle.ms_grammar.specs.Values.{Spelling, numeral, negative, string, constant, no_arguments, function, empty_tuple, tuple, tuple_comma, value_words, value_part}
use Rattle.ms_grammar.specs.Reading.{EndsValue, IsRead}
use Rattle.ms_call.specs.Commands.{IsValue, IsAtom, BeginsWithName}
use Rattle.ms_lines.specs.Words.{is_left_paren, carries_on, ended, is_name_kind, begins_with_name}
use Rattle.ms_lines.specs.Finding.{Finds, IsFront}
use Rattle.ms_lines.proofs.Fronts.{words_of-drop, front_rest}

ends_by_kind : (k : TokenKind) (text : List ℕ) (t : Token) (ws : List Word) → is_left_paren k ≡ false → EndsValue (word_by_kind k text t ∷ ws)
ends_by_kind LeftParen text t ws e = true≢false e
ends_by_kind Name text t ws e = tt
ends_by_kind Number text t ws e = tt
ends_by_kind Text text t ws e = tt
ends_by_kind _ text t ws e = tt

carries_by_kind : (k : TokenKind) (text : List ℕ) (t : Token) (ws : List Word) → is_left_paren k ≡ true → EndsValue (word_by_kind k text t ∷ ws) → ⊥
carries_by_kind LeftParen text t ws e h = h
carries_by_kind _ text t ws e h = false≢true e

-- tokens that don't carry on a value, and tokens that do
pub ends_from_tokens : (text : List ℕ) (tokens : List Token) → carries_on tokens ≡ false → EndsValue (words_of text tokens)
ends_from_tokens text [] e = tt
ends_from_tokens text (t ∷ ts) e = ends_by_kind t.kind text t (words_of text ts) e

pub carries_from_tokens : (text : List ℕ) (tokens : List Token) → carries_on tokens ≡ true → EndsValue (words_of text tokens) → ⊥
carries_from_tokens text [] e h = false≢true e
carries_from_tokens text (t ∷ ts) e h = carries_by_kind t.kind text t (words_of text ts) e h

abbrev ValueRead : List Word → Option (ValuePart × ℕ) → Type 0
ValueRead = IsRead Spelling ValuePart value_words value_part EndsValue

module _ (text : List ℕ) (tokens : List Token) where
  abbrev all : List Word
  all = words_of text tokens

  -- where the words have a value in front, it was found
  was_found : (found : Option (ValuePart × ℕ)) → ValueRead all found → (f : Value × ℕ) (front : IsFront IsValue all f) → found ≡ Some (front.is.part, length front.first)
  was_found found read f front =
      read.complete front.is.spelling front.rest front.is.part (front.words_are ∙ ap (λ w. w ++ front.rest) (sym front.is.words_are)) front.ends front.is.spells ∙ ap (λ w. Some (front.is.part, length w)) front.is.words_are

  value_by : (part : ValuePart) (n : ℕ) → ValueRead all (Some (part, n)) → (b : Bool) → carries_on (drop n tokens) ≡ b → Finds (IsFront IsValue all) (if b then None else Some (part.value, n))
  value_by part n read true e = λ f front.
      let parts = some_pair_parts part front.is.part n (length front.first) (was_found (Some (part, n)) read f front) in
      let rest : words_of text (drop n tokens) ≡ front.rest = sym (words_of-drop text n tokens) ∙ ap (λ m. drop m all) (parts.1 ∙ sym front.count_is) ∙ front_rest front in
      carries_from_tokens text (drop n tokens) e (subst EndsValue (sym rest) front.ends)
  value_by part n read false e =
      let here = read.sound in (
        record {
          first = value_words here.derivation;
          rest = drop n all;
          words_are = sym (ap (λ w. w ++ drop n all) here.words_are ∙ take-append-drop n all);
          count_is = sym (ap length here.words_are ∙ length-take-le n all here.within);
          is = record { spelling = here.derivation; part = part; words_are = refl; spells = here.spells; value_is = refl };
          ends = subst EndsValue (sym (words_of-drop text n tokens)) (ends_from_tokens text (drop n tokens) e);
        },
        λ f front.
            let parts = some_pair_parts part front.is.part n (length front.first) (was_found (Some (part, n)) read f front) in
            let value : part.value ≡ f.0 = ap (λ p. p.value) parts.0 ∙ front.is.value_is in
            let count : n ≡ f.1 = parts.1 ∙ sym front.count_is in
            ap (λ v. (v, f.1)) (sym value) ∙ ap (λ m. (part.value, m)) (sym count),
      )

  pub value_found : (found : Option (ValuePart × ℕ)) → ValueRead all found → Finds (IsFront IsValue all) (ended tokens found)
  value_found None read = λ f front. none-some (front.is.part, length front.first) (was_found None read f front)
  value_found (Some found) read = value_by found.0 found.1 read (carries_on (drop found.1 tokens)) refl

-- a value has a word
value_some : (v : Spelling) → value_words v ≡ [] → ⊥
value_some (numeral n) e = cc
value_some (negative n) e = cc
value_some (string s) e = cc
value_some (constant f) e = cc
value_some (no_arguments f) e = cc
value_some (function f vs) e = cc
value_some empty_tuple e = cc
value_some (tuple vs) e = cc
value_some (tuple_comma vs) e = cc

-- where the words begin with a name, so does the value in front
begins_first : (first rest : List Word) (v : Value) → IsValue first v → BeginsWithName (first ++ rest) → BeginsWithName first
begins_first [] rest v is h = value_some is.spelling is.words_are
begins_first (name f ∷ ws) rest v is h = tt
begins_first (_ ∷ ws) rest v is h = h

begins_all : (first rest : List Word) → BeginsWithName first → BeginsWithName (first ++ rest)
begins_all [] rest h = absurd h
begins_all (name f ∷ ws) rest h = tt
begins_all (_ ∷ ws) rest h = h

begins_by_kind : (k : TokenKind) (text : List ℕ) (t : Token) (ws : List Word) → is_name_kind k ≡ true → BeginsWithName (word_by_kind k text t ∷ ws)
begins_by_kind Name text t ws e = tt
begins_by_kind _ text t ws e = false≢true e

begins_not_by_kind : (k : TokenKind) (text : List ℕ) (t : Token) (ws : List Word) → is_name_kind k ≡ false → BeginsWithName (word_by_kind k text t ∷ ws) → ⊥
begins_not_by_kind Name text t ws e h = true≢false e
begins_not_by_kind _ text t ws e h = h

begins_from_tokens : (text : List ℕ) (tokens : List Token) → begins_with_name tokens ≡ true → BeginsWithName (words_of text tokens)
begins_from_tokens text [] e = false≢true e
begins_from_tokens text (t ∷ ts) e = begins_by_kind t.kind text t (words_of text ts) e

begins_not_from_tokens : (text : List ℕ) (tokens : List Token) → begins_with_name tokens ≡ false → BeginsWithName (words_of text tokens) → ⊥
begins_not_from_tokens text [] e h = h
begins_not_from_tokens text (t ∷ ts) e h = begins_not_by_kind t.kind text t (words_of text ts) e h

module _ (ws : List Word) (begins : BeginsWithName ws) where
  as_atom : (f : Value × ℕ) → IsFront IsValue ws f → IsFront IsAtom ws f
  as_atom f front = record {
    first = front.first;
    rest = front.rest;
    words_are = front.words_are;
    count_is = front.count_is;
    is = record { begins = begins_first front.first front.rest f.0 front.is (subst BeginsWithName front.words_are begins); value = front.is };
    ends = front.ends;
  }

  as_value : (f : Value × ℕ) → IsFront IsAtom ws f → IsFront IsValue ws f
  as_value f front = record { first = front.first; rest = front.rest; words_are = front.words_are; count_is = front.count_is; is = front.is.value; ends = front.ends }

  atom_found : (found : Option (Value × ℕ)) → Finds (IsFront IsValue ws) found → Finds (IsFront IsAtom ws) found
  atom_found None h = λ f front. h f (as_value f front)
  atom_found (Some found) h = (as_atom found h.0, λ f front. h.1 f (as_value f front))

-- words that don't begin with a name have no atom in front
no_atom : (ws : List Word) → (BeginsWithName ws → ⊥) → (f : Value × ℕ) → IsFront IsAtom ws f → ⊥
no_atom ws h f front = h (subst BeginsWithName (sym front.words_are) (begins_all front.first front.rest front.is.begins))

module _ {E : Type 0} (text : List ℕ) (tokens : List Token) where
  pub atom_if_name : begins_with_name tokens ≡ true → (r : Result (Option (Value × ℕ)) E) → IfOk r (Finds (IsFront IsValue (words_of text tokens))) → IfOk r (Finds (IsFront IsAtom (words_of text tokens)))
  atom_if_name e (Ok found) h = atom_found (words_of text tokens) (begins_from_tokens text tokens e) found h
  atom_if_name e (Err error) h = tt

pub none_if_no_name : (text : List ℕ) (tokens : List Token) → begins_with_name tokens ≡ false → Finds (IsFront IsAtom (words_of text tokens)) None
none_if_no_name text tokens e = no_atom (words_of text tokens) (begins_not_from_tokens text tokens e)

-- a value and an atom have a word
pub is_value_some : (v : Value) → IsValue [] v → ⊥
is_value_some v is = value_some is.spelling is.words_are

pub is_atom_some : (v : Value) → IsAtom [] v → ⊥
is_atom_some v is = is.begins

-- and an atom doesn't carry on a value before it
pub ends_at_name : (ws rest : List Word) → BeginsWithName ws → EndsValue (ws ++ rest)
ends_at_name [] rest h = absurd h
ends_at_name (name f ∷ ws) rest h = tt
ends_at_name (_ ∷ ws) rest h = absurd h
