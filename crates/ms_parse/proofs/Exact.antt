-- Readers of all of the words, from readers of a front of them.
use Rattle.std.proofs.Common.{◌≡◌, ℕ, ◌==◌, Bool, true, false, cond, List, [], length, Option, Some, None, refl, ap, sym, ◌∙◌, append-nil, eq-eqb}
use Rattle.std.specs.Option.{IfSome}
use Rattle.std.proofs.lemmas.Bool.{eqb-true}
use Rattle.std.proofs.lemmas.List.{length-map}
use Rattle.std.proofs.Math.Seq.{take-length}
use Rattle.ms_text.specs.declared.token.Token.{Token}
use Rattle.ms_grammar.specs.Words.{Word, word_of, words_of}
use Rattle.ms_grammar.specs.Reading.{IsFront, IsRead}
use Rattle.ms_parse.specs.Content.{IsSpelled, IsExact, whole}

module _ (D V : Type 0) (words : D → List Word) (spelled : D → Option V) where
  -- a front that is all of the words
  whole_front : (ws : List Word) (value : V) (n : ℕ) → n ≡ length ws → IsFront D V words spelled ws value n → IsSpelled D V words spelled ws value
  whole_front ws value n e front = record {
    derivation = front.derivation;
    words_are = front.words_are ∙ rw e (take-length ws);
    spells = front.spells;
  }

  spelled_by_test : (ws : List Word) (f : V × ℕ) (b : Bool) → (f.1 == length ws) ≡ b → IsFront D V words spelled ws f.0 f.1 → IfSome (cond b (Some f.0) None) (IsSpelled D V words spelled ws)
  spelled_by_test ws f true e front = whole_front ws f.0 f.1 (eqb-true _ _ e) front
  spelled_by_test ws f false e front = tt

  sound_whole : (ws : List Word) (found : Option (V × ℕ)) → IfSome found (λ f. IsFront D V words spelled ws f.0 f.1) → IfSome (whole found (length ws)) (IsSpelled D V words spelled ws)
  sound_whole ws None h = tt
  sound_whole ws (Some f) h = spelled_by_test ws f (f.1 == length ws) refl h

  whole_same : (value : V) (n len : ℕ) → n ≡ len → whole (Some (value, n)) len ≡ Some value
  whole_same value n len e = rw (eq-eqb n len e) refl

  -- what a reader of a front finds, where it has all of the words
  pub exact_from_read : (Ends : List Word → Type 0) → Ends [] → (ws : List Word) (found : Option (V × ℕ)) → IsRead D V words spelled Ends ws found → IsExact D V words spelled ws (whole found (length ws))
  exact_from_read Ends at_end ws found read = record {
    sound = sound_whole ws found read.sound;
    complete = λ d value e s.
        let is : found ≡ Some (value, length (words d)) = read.complete d [] value (sym e ∙ sym (append-nil (words d))) at_end s in
        rw is (whole_same value (length (words d)) (length ws) (ap length e));
  }

  -- the same over tokens
  pub exact_from_whole : (Ends : List Word → Type 0) → Ends [] → (text : List ℕ) (tokens : List Token) (found : Option (V × ℕ)) (result : Option V) → IsRead D V words spelled Ends (words_of text tokens) found → result ≡ whole found (length tokens) → IsExact D V words spelled (words_of text tokens) result
  exact_from_whole Ends at_end text tokens found result read e = rw (e, ← length-map tokens (word_of text)) (exact_from_read Ends at_end (words_of text tokens) found read)
