-- One piece after another.
use Rattle.std.specs.Prelude.{◌≡◌, ◌<◌, ℕ, ◌+◌, position, Bool, true, false, List, ◌∷◌, ◌++◌, length}
use Rattle.std.specs.Option.{option_map_or}
use Rattle.ms_text.specs.declared.token.Token.{Token}
use Rattle.ms_text.specs.declared.token.TokenKind.{TokenKind}
use Rattle.ms_text.specs.declared.token.TokenKind.TheVariants.{Dot}
use Rattle.ms_grammar.specs.Statements.{pieces_of}

abbrev pub is_dot : TokenKind → Bool
is_dot Dot = true
is_dot kind = false

-- how many tokens the first piece has: those up to the first dot, and it
abbrev pub piece_len : List Token → ℕ
piece_len tokens = option_map_or (λ before. before + 1) (position (λ token. is_dot token.kind) tokens) (length tokens)

-- The tokens begin with the piece, and go on after it.
pub record IsFirstPiece (tokens piece after : List Token) : Type 0 where
  pub pieces : pieces_of tokens ≡ piece ∷ pieces_of after
  pub joined : tokens ≡ piece ++ after
  pub shorter : length after < length tokens
