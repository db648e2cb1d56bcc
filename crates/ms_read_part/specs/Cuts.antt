-- What a reader finds at the front of words, with the words that are left.
use Rattle.std.specs.Prelude.{ℕ, ◌≡◌, ◌-◌, if◌then◌else◌, List, ◌++◌, length, Option, Some, None, IfSome}
use Rattle.std.specs.Option.{option_and_then}
use Rattle.ms_grammar.specs.Words.{Word}
use Rattle.ms_read_part.specs.Kinds.{front_kind, ends_at}

module _ (D V : Type 0) (words : D → List Word) (spelled : D → Option V) where
  -- The words before the rest spell the value.
  pub record IsCut (ws : List Word) (value : V) (rest : List Word) : Type 0 where
    pub derivation : D
    pub words_are : ws ≡ words derivation ++ rest
    pub spells : spelled derivation ≡ Some value

  -- What is found is spelled by the words before the rest. Where a front spells a value and what follows may
  -- end it, that value and what follows are found.
  pub record Reads (Ends : List Word → Type 0) (ws : List Word) (found : Option (V × List Word)) : Type 0 where
    pub sound : IfSome found (λ f. IsCut ws f.0 f.1)
    pub complete : (d : D) (rest : List Word) (value : V) → ws ≡ words d ++ rest → Ends rest → spelled d ≡ Some value → found ≡ Some (value, rest)

-- What was read of so many words, with the number of those that were read, where what is left may follow a part.
abbrev pub ended : {V : Type 0} → ℕ → Option (V × List Word) → Option (V × ℕ)
ended n found = option_and_then (λ f. if ends_at (front_kind f.1) then Some (f.0, n - length f.1) else None) found
