-- What tokens say: the words of which the grammar speaks.
use Rattle.std.specs.Prelude.{ℕ, ◌+◌, ◌-◌, ◌==◌, Bool, true, false, if◌then◌else◌, List, [], ◌∷◌, ◌++◌, map, slice_range}
use Rattle.ms_text.specs.declared.token.Token.{Token}
use Rattle.ms_text.specs.declared.token.TokenKind.{TokenKind}
use Rattle.ms_text.specs.declared.token.TokenKind.TheVariants.{Name, Number, Text}
use Rattle.ms_text.specs.Tokens.{number_of}

-- a name other than `not`, a number, the bytes of a string, or any other token by its kind
pub data Word : Type 0 where
  name : List ℕ → Word
  number : ℕ → Word
  quoted : List ℕ → Word
  sign : TokenKind → Word

-- the byte that stands for a byte behind a backslash
abbrev pub escaped : ℕ → ℕ
escaped b = if b == 110 then 10 else b

-- The bytes that stand for those between the quotes, where `behind` says that a backslash stands before.
unfoldable pub unescaped : Bool → List ℕ → List ℕ
unescaped behind [] = []
unescaped true (b ∷ bs) = escaped b ∷ unescaped false bs
unescaped false (b ∷ bs) = elim (b == 92) [ true ↦ unescaped true bs | false ↦ b ∷ unescaped false bs ]

-- the bytes between the first and the last
abbrev pub within_quotes : List ℕ → Token → List ℕ
within_quotes text t = slice_range text (t.start + 1) (t.end - 1)

abbrev pub word_by_kind : TokenKind → List ℕ → Token → Word
word_by_kind Name text t = name (slice_range text t.start t.end)
word_by_kind Number text t = number (number_of (slice_range text t.start t.end))
word_by_kind Text text t = quoted (unescaped false (within_quotes text t))
word_by_kind kind text t = sign kind

abbrev pub word_of : List ℕ → Token → Word
word_of text t = word_by_kind t.kind text t

abbrev pub words_of : List ℕ → List Token → List Word
words_of text tokens = map (word_of text) tokens

-- lists of words with a word between each two
abbrev pub separated : Word → List (List Word) → List Word
separated between [] = []
separated between (words ∷ []) = words
separated between (words ∷ more ∷ lists) = words ++ between ∷ separated between (more ∷ lists)
