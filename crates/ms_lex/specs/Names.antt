-- The parts of a name: its underscores, and what follows them.
use Rattle.std.specs.Prelude.{ℕ, suc, ◌==◌, Bool, if◌then◌else◌, List, [], ◌∷◌, length, take_while, Option, Some, None}
use Rattle.ms_text.specs.Tokens.{is_lower, is_word}

abbrev pub is_underscore : ℕ → Bool
is_underscore b = b == 95

-- how long a name is that has no underscore in front
abbrev pub bare_len : List ℕ → Option ℕ
bare_len [] = None
bare_len (b ∷ bs) = if is_lower b then Some (suc (length (take_while is_word bs))) else None
