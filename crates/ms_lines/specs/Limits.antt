-- The limit in front of words.
use Rattle.std.specs.Prelude.{ℕ, ◌≡◌, ◌≤◌, ◌⊎◌, List, ◌∷◌, codes}
use Rattle.ms_text.specs.declared.token.TokenKind.TheVariants.{Equal}
use Rattle.ms_grammar.specs.Words.{Word, name, number, sign}
use Rattle.ms_base.specs.Limits.{usual_limit, greatest_limit}

-- The words begin with `limit=L`, and the rest follows.
abbrev pub HasLimit : List Word → ℕ → List Word → Type 0
HasLimit ws limit rest = (ws ≡ name (codes "limit") ∷ sign Equal ∷ number limit ∷ rest) × (1 ≤ limit) × (limit ≤ greatest_limit)

abbrev pub HasNoLimit : List Word → Type 0
HasNoLimit ws = (limit : ℕ) (rest : List Word) → HasLimit ws limit rest → ⊥

-- The limit that the words begin with, or the usual one, and the rest.
abbrev pub LimitIs : List Word → ℕ → List Word → Type 0
LimitIs ws limit rest = HasLimit ws limit rest ⊎ (HasNoLimit ws × (limit ≡ usual_limit) × (rest ≡ ws))
