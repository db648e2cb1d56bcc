-- A front of words that spells a value, and what follows it.
use Rattle.std.proofs.Common.{◌≡◌, ℕ, List, ◌++◌, length, drop, Option, Some, None, sym, ◌∙◌, take-append-drop}
use Rattle.std.proofs.Math.Seq.{drop-append_seam}
use Rattle.std.proofs.lemmas.Option.{some_pair_parts}
use Rattle.ms_grammar.specs.Words.{Word}
use Rattle.ms_grammar.specs.Reading.{IsRead}

module _ (D V : Type 0) (words : D → List Word) (spelled : D → Option V) (Ends : List Word → Type 0) where
  -- A front spells the value, and it is the only one that does and whose end what follows may be.
  pub record IsSplit (ws : List Word) (value : V) (after : List Word) : Type 0 where
    pub derivation : D
    pub words_are : ws ≡ words derivation ++ after
    pub spells : spelled derivation ≡ Some value
    pub only : (d : D) (rest : List Word) (other : V) → ws ≡ words d ++ rest → Ends rest → spelled d ≡ Some other → (other ≡ value) × (rest ≡ after)

  -- No front is one that is read.
  abbrev pub HasNone : List Word → Type 0
  HasNone ws = (d : D) (rest : List Word) (other : V) → ws ≡ words d ++ rest → Ends rest → spelled d ≡ Some other → ⊥

  pub split_from_read : (ws : List Word) (value : V) (n : ℕ) (found : Option (V × ℕ)) → found ≡ Some (value, n) → IsRead D V words spelled Ends ws found → IsSplit ws value (drop n ws)
  split_from_read ws value n found e read =
      let front = rw e at read.sound in
      record {
        derivation = front.derivation;
        words_are = rw front.words_are (sym (take-append-drop n ws));
        spells = front.spells;
        only = λ d rest other is ends s.
            let parts = some_pair_parts value other n (length (words d)) (sym e ∙ read.complete d rest other is ends s) in
            (sym parts.0, rw (parts.1, is) (sym (drop-append_seam (words d) rest)));
      }

  pub none_from_read : (ws : List Word) (found : Option (V × ℕ)) → found ≡ None → IsRead D V words spelled Ends ws found → HasNone ws
  none_from_read ws found e read = λ d rest other is ends s. let f : ⊥ = cc (read.complete d rest other is ends s) in f
