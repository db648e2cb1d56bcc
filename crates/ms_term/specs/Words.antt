-- Strings of bytes, each once, by their numbers.
use Rattle.std.specs.Prelude.{◌≡◌, ℕ, ◌<◌, ◌⊎◌, List, [], ◌∷◌, ◌++◌, length, map, slice_index_or, Vec}
use Rattle.std.specs.declared.alloc.Global.{Global}

-- the bytes of vectors
abbrev pub bytes_of : List (Vec ℕ Global) → List (List ℕ)
bytes_of vs = map (λ v. v.items) vs

-- the string of a number
abbrev pub word_at : List (List ℕ) → ℕ → List ℕ
word_at ws i = slice_index_or ws i []

-- equal strings have equal numbers
abbrev pub AreOnce : List (List ℕ) → Type 0
AreOnce ws = (i j : ℕ) → i < length ws → j < length ws → word_at ws i ≡ word_at ws j → i ≡ j

abbrev pub HasNoWord : List (List ℕ) → List ℕ → Type 0
HasNoWord ws bytes = (i : ℕ) → i < length ws → ¬ (word_at ws i ≡ bytes)

pub record IsWordOf (ws : List (List ℕ)) (bytes : List ℕ) (i : ℕ) : Type 0 where
  pub within : i < length ws
  pub names : word_at ws i ≡ bytes

-- The new strings are the old ones, or have the string at their end besides, and i is its number.
pub record Keeps (old new : List (List ℕ)) (bytes : List ℕ) (i : ℕ) : Type 0 where
  pub is : IsWordOf new bytes i
  pub once : AreOnce new
  pub grows : (new ≡ old) ⊎ (new ≡ old ++ bytes ∷ [])
