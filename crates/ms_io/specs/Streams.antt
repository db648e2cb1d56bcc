-- What a source has left and what a sink holds. None where it doesn't tell: then nothing is claimed.
use Rattle.std.specs.Prelude.{ℕ, ◌≡◌, ◌≤◌, List, [], ◌∷◌, ◌++◌, length, take, drop, Option, Some, None, ⊤}

-- The first n bytes of what is left went to the front of the buffer.
abbrev pub Moves : Option (List ℕ) → ℕ → List ℕ → Option (List ℕ) → Type 0
Moves None n buffer left = left ≡ None
Moves (Some bytes) n buffer left = (n ≤ length bytes) × (take n buffer ≡ take n bytes) × (left ≡ Some (drop n bytes))

-- Nothing is left, as far as the source tells.
abbrev pub IsAtEnd : Option (List ℕ) → Type 0
IsAtEnd None = ⊤
IsAtEnd (Some bytes) = bytes ≡ []

-- The whole piece was added to what is held.
abbrev pub Adds : Option (List ℕ) → List ℕ → Option (List ℕ) → Type 0
Adds None piece held = held ≡ None
Adds (Some before) piece held = held ≡ Some (before ++ piece)

-- The first bytes of the piece, or none, were added to what is held.
abbrev pub AddsFront : Option (List ℕ) → List ℕ → Option (List ℕ) → Type 0
AddsFront None piece held = held ≡ None
AddsFront (Some before) piece held = (n : ℕ) × (held ≡ Some (before ++ take n piece))

-- The piece was put, after those that were put before.
abbrev pub AddsPiece : Option (List (List ℕ)) → List ℕ → Option (List (List ℕ)) → Type 0
AddsPiece None piece pieces = pieces ≡ None
AddsPiece (Some before) piece pieces = pieces ≡ Some (before ++ piece ∷ [])
