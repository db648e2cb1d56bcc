-- What is printed: words, with a blank where one stands between them.
use Rattle.std.specs.Prelude.{ℕ, List, [], ◌∷◌, ◌++◌, decimal, codes}
use Rattle.ms_text.specs.declared.token.TokenKind.{TokenKind}
use Rattle.ms_text.specs.declared.token.TokenKind.TheVariants.{Name, Not, Number, Text, Program, External, Const, Show, Include, Count, Sum, Dot, DotDot, Comma, Semicolon, Colon, If, LeftParen, RightParen, LeftBrace, RightBrace, Plus, Minus, Star, Slash, Backslash, Bar, Equal, EqualEqual, NotEqual, LessGreater, Less, LessEqual, Greater, GreaterEqual}
use Rattle.ms_tree.specs.Text.{escaped}
use Rattle.ms_grammar.specs.Words.{Word, name, number, quoted, sign}

pub data Ink : Type 0 where
  blank : Ink
  word : Word → Ink

-- the words alone
abbrev pub ink_words : List Ink → List Word
ink_words [] = []
ink_words (blank ∷ more) = ink_words more
ink_words (word w ∷ more) = w ∷ ink_words more

-- Names, numbers and strings have no text of their own.
abbrev pub sign_text : TokenKind → List ℕ
sign_text Name = []
sign_text Not = codes "not"
sign_text Number = []
sign_text Text = []
sign_text Program = codes "#program"
sign_text External = codes "#external"
sign_text Const = codes "#const"
sign_text Show = codes "#show"
sign_text Include = codes "#include"
sign_text Count = codes "#count"
sign_text Sum = codes "#sum"
sign_text Dot = codes "."
sign_text DotDot = codes ".."
sign_text Comma = codes ","
sign_text Semicolon = codes ";"
sign_text Colon = codes ":"
sign_text If = codes ":-"
sign_text LeftParen = codes "("
sign_text RightParen = codes ")"
sign_text LeftBrace = codes "{"
sign_text RightBrace = codes "}"
sign_text Plus = codes "+"
sign_text Minus = codes "-"
sign_text Star = codes "*"
sign_text Slash = codes "/"
sign_text Backslash = 92 ∷ []
sign_text Bar = codes "|"
sign_text Equal = codes "="
sign_text EqualEqual = codes "=="
sign_text NotEqual = codes "!="
sign_text LessGreater = codes "<>"
sign_text Less = codes "<"
sign_text LessEqual = codes "<="
sign_text Greater = codes ">"
sign_text GreaterEqual = codes ">="

-- a number in decimal, and a string in quotes with its escapes
abbrev pub word_text : Word → List ℕ
word_text (name f) = f
word_text (number n) = decimal n
word_text (quoted s) = 34 ∷ (escaped s ++ 34 ∷ [])
word_text (sign kind) = sign_text kind

abbrev pub piece_text : Ink → List ℕ
piece_text blank = 32 ∷ []
piece_text (word w) = word_text w

-- the bytes that are printed
abbrev pub ink_text : List Ink → List ℕ
ink_text [] = []
ink_text (piece ∷ more) = piece_text piece ++ ink_text more

abbrev pub mark : TokenKind → Ink
mark kind = word (sign kind)

abbrev pub in_parens : List Ink → List Ink
in_parens ink = mark LeftParen ∷ ink ++ mark RightParen ∷ []

-- each behind what stands between
abbrev pub each_after : List Ink → List (List Ink) → List Ink
each_after between [] = []
each_after between (ink ∷ more) = between ++ (ink ++ each_after between more)

-- side by side, with something between each two
abbrev pub side_by_side : List Ink → List (List Ink) → List Ink
side_by_side between [] = []
side_by_side between (ink ∷ more) = ink ++ each_after between more

-- what stands between arguments, between alternatives, between parts of a body, and between elements of a set
abbrev pub comma : List Ink
comma = mark Comma ∷ []

abbrev pub semicolon : List Ink
semicolon = mark Semicolon ∷ []

abbrev pub comma_blank : List Ink
comma_blank = mark Comma ∷ blank ∷ []

abbrev pub semicolon_blank : List Ink
semicolon_blank = mark Semicolon ∷ blank ∷ []

-- a sign with a blank on both sides
abbrev pub apart : TokenKind → List Ink
apart kind = blank ∷ mark kind ∷ blank ∷ []
