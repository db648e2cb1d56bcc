-- The characters of a string.
use Rattle.std.specs.Prelude.{ℕ, ◌==◌, if◌then◌else◌, List, [], ◌∷◌, Option, Some, None}
use Rattle.ms_text.specs.Tokens.{is_escape}

abbrev pub escape_len : List ℕ → Option ℕ
escape_len [] = None
escape_len (b ∷ bs) = if is_escape b then Some 2 else None

-- how many bytes the character at the front has that isn't the closing quote: an escape has two
abbrev pub character_len : List ℕ → Option ℕ
character_len [] = None
character_len (b ∷ bs) = if b == 92 then escape_len bs else if b == 10 then None else Some 1
