-- Literals at the front of words.
use Rattle.std.proofs.Common.{◌≡◌, ℕ, suc, ◌+◌, Bool, true, false, List, [], ◌∷◌, ◌++◌, length, Option, Some, None, refl, sym, ap, ◌∙◌, subst, add-one}
use Rattle.ms_text.specs.declared.token.Token.{Token}
use Rattle.ms_text.specs.declared.token.TokenKind.TheVariants.{Not}
use Rattle.ms_grammar.specs.declared.value.Value.{Value}
use Rattle.ms_grammar.specs.Words.{Word, name, sign, words_of}
use Rattle.ms_grammar.specs.Reading.{EndsValue}
use Rattle.ms_call.specs.declared.command.Assumption.{Assumption}
use Rattle.ms_call.specs.Commands.{IsAtom, IsLiteral, BeginsWithName, sign_words}
use Rattle.ms_lines.specs.Words.{plain, negated}
use Rattle.ms_lines.specs.Finding.{Finds, IsFront}
use Rattle.ms_lines.proofs.ValueFronts.{ends_at_name}
use Rattle.ms_words.specs.Signs.{Begins, BeginsNot}
use Rattle.ms_words.proofs.SignLemmas.{words_begin, words_begin_not}
use Rattle.ms_lines.proofs.Sequences.{cons-not-nil}

signed_ends : (truth : Bool) (ws rest : List Word) → BeginsWithName ws → EndsValue ((sign_words truth ++ ws) ++ rest)
signed_ends true ws rest h = ends_at_name ws rest h
signed_ends false ws rest h = tt

-- a literal doesn't carry on a value before it, and it has a word
pub literal_starts : (first rest : List Word) (v : Assumption) → IsLiteral first v → EndsValue (first ++ rest)
literal_starts first rest v is = subst (λ ws. EndsValue (ws ++ rest)) (sym is.words_are) (signed_ends v.truth is.atom_words rest is.atom_is.begins)

signed_some : (truth : Bool) (ws : List Word) → BeginsWithName ws → [] ≡ sign_words truth ++ ws → ⊥
signed_some true [] h e = h
signed_some true (w ∷ ws) h e = cons-not-nil w ws (sym e)
signed_some false ws h e = cons-not-nil (sign Not) ws (sym e)

pub literal_some : (v : Assumption) → IsLiteral [] v → ⊥
literal_some v is = signed_some v.truth is.atom_words is.atom_is.begins is.words_are

-- the atom behind `not`, and the one without
not_parts : (ws atom rest : List Word) (truth : Bool) → sign Not ∷ ws ≡ (sign_words truth ++ atom) ++ rest → BeginsWithName atom → (truth ≡ false) × (ws ≡ atom ++ rest)
not_parts ws [] rest true e h = absurd h
not_parts ws (name f ∷ us) rest true e h = absurd (let f : ⊥ = cc in f)
not_parts ws (_ ∷ us) rest true e h = absurd h
not_parts ws atom rest false e h = let same : ws ≡ atom ++ rest = cc in (refl, same)

plain_parts : (ws atom rest : List Word) (truth : Bool) → ws ≡ (sign_words truth ++ atom) ++ rest → ((us : List Word) → ws ≡ sign Not ∷ us → ⊥) → (truth ≡ true) × (ws ≡ atom ++ rest)
plain_parts ws atom rest true e h = (refl, e)
plain_parts ws atom rest false e h = absurd (h (atom ++ rest) e)

module _ (ws : List Word) where
  negated_front : (f : Value × ℕ) → IsFront IsAtom ws f → IsFront IsLiteral (sign Not ∷ ws) (record { atom = f.0; truth = false }, f.1 + 1)
  negated_front f front = record {
    first = sign Not ∷ front.first;
    rest = front.rest;
    words_are = ap (λ us. sign Not ∷ us) front.words_are;
    count_is = add-one f.1 ∙ ap suc front.count_is;
    is = record { atom_words = front.first; words_are = refl; atom_is = front.is };
    ends = front.ends;
  }

  plain_front : (f : Value × ℕ) → IsFront IsAtom ws f → IsFront IsLiteral ws (record { atom = f.0; truth = true }, f.1)
  plain_front f front = record {
    first = front.first;
    rest = front.rest;
    words_are = front.words_are;
    count_is = front.count_is;
    is = record { atom_words = front.first; words_are = refl; atom_is = front.is };
    ends = front.ends;
  }

  -- a literal in front as an atom in front
  not_front : (f : Assumption × ℕ) → IsFront IsLiteral (sign Not ∷ ws) f → (m : ℕ) × (f.1 ≡ m + 1) × (f.0.truth ≡ false) × IsFront IsAtom ws (f.0.atom, m)
  not_front f front =
      let is = front.is in
      let parts = not_parts ws is.atom_words front.rest f.0.truth (front.words_are ∙ ap (λ us. us ++ front.rest) is.words_are) is.atom_is.begins in
      let count : f.1 ≡ length is.atom_words + 1 = front.count_is ∙ ap length (is.words_are ∙ ap (λ t. sign_words t ++ is.atom_words) parts.0) ∙ sym (add-one (length is.atom_words)) in
      (length is.atom_words, count, parts.0, record { first = is.atom_words; rest = front.rest; words_are = parts.1; count_is = refl; is = is.atom_is; ends = front.ends })

  bare_front : ((us : List Word) → ws ≡ sign Not ∷ us → ⊥) → (f : Assumption × ℕ) → IsFront IsLiteral ws f → (f.0.truth ≡ true) × IsFront IsAtom ws (f.0.atom, f.1)
  bare_front h f front =
      let is = front.is in
      let parts = plain_parts ws is.atom_words front.rest f.0.truth (front.words_are ∙ ap (λ us. us ++ front.rest) is.words_are) h in
      let count : f.1 ≡ length is.atom_words = front.count_is ∙ ap length (is.words_are ∙ ap (λ t. sign_words t ++ is.atom_words) parts.0) in
      (parts.0, record { first = is.atom_words; rest = front.rest; words_are = parts.1; count_is = count; is = is.atom_is; ends = front.ends })

  negated_found : (found : Option (Value × ℕ)) → Finds (IsFront IsAtom ws) found → Finds (IsFront IsLiteral (sign Not ∷ ws)) (negated found)
  negated_found None h = λ f front. h _ (not_front f front).3
  negated_found (Some found) h = (
    negated_front found h.0,
    λ f front.
        let n = not_front f front in
        let same : (f.0.atom, n.0) ≡ found = h.1 _ n.3 in
        let literal : f.0 ≡ record { atom = found.0; truth = false } = ap (λ t. record { atom = f.0.atom; truth = t }) n.2 ∙ ap (λ g. record { atom = g.0; truth = false }) same in
        let count : f.1 ≡ found.1 + 1 = n.1 ∙ ap (λ g. g.1 + 1) same in
        ap (λ l. (l, f.1)) literal ∙ ap (λ m. (record { atom = found.0; truth = false }, m)) count,
  )

  plain_found : ((us : List Word) → ws ≡ sign Not ∷ us → ⊥) → (found : Option (Value × ℕ)) → Finds (IsFront IsAtom ws) found → Finds (IsFront IsLiteral ws) (plain found)
  plain_found bare None h = λ f front. h _ (bare_front bare f front).1
  plain_found bare (Some found) h = (
    plain_front found h.0,
    λ f front.
        let n = bare_front bare f front in
        let same : (f.0.atom, f.1) ≡ found = h.1 _ n.1 in
        let literal : f.0 ≡ record { atom = f.0.atom; truth = true } = ap (λ t. record { atom = f.0.atom; truth = t }) n.0 in
        ap (λ l. (l, f.1)) literal ∙ ap (λ g. (record { atom = g.0; truth = true }, g.1)) same,
  )

module _ (text : List ℕ) (tokens : List Token) (found : Option (Value × ℕ)) where
  pub literal_behind_not : (after : List Token) → Begins tokens Not after → Finds (IsFront IsAtom (words_of text after)) found → Finds (IsFront IsLiteral (words_of text tokens)) (negated found)
  literal_behind_not after b h = subst (λ ws. Finds (IsFront IsLiteral ws) (negated found)) (sym (words_begin text Not (λ t. refl) tokens after b)) (negated_found (words_of text after) found h)

  pub literal_without_not : BeginsNot tokens Not → Finds (IsFront IsAtom (words_of text tokens)) found → Finds (IsFront IsLiteral (words_of text tokens)) (plain found)
  literal_without_not b h = plain_found (words_of text tokens) (words_begin_not text Not tokens b) found h
