-- The tokens of a text: the longest at each place, or the first byte that begins none.
-- Source: the lexical elements of the ASP-Core-2 input language format, in a profile of this project.
use Rattle.std.specs.Prelude.{ℕ, zero, suc, ◌+◌, ◌*◌, ◌-◌, ◌≤◌, ◌==◌, nat_eq, nat_le, Bool, true, false, ◌||◌, ◌&&◌, if◌then◌else◌, fold, List, [], ◌∷◌, length, take, take_while, Option, Some, None, Result, Ok, Err, All, codes}
use Rattle.std.specs.Option.{option_map}
use Rattle.std.specs.Cmp.Lexicographic.{pointwise}
use Rattle.ms_text.specs.declared.token.Token.{Token}
use Rattle.ms_text.specs.declared.token.TokenKind.{TokenKind}
use Rattle.ms_text.specs.declared.token.TokenKind.TheVariants.{Name, Not, Number, Text, Program, External, Const, Show, Include, Count, Sum, Dot, DotDot, Comma, Semicolon, Colon, If, LeftParen, RightParen, LeftBrace, RightBrace, Plus, Minus, Star, Slash, Backslash, Bar, Equal, EqualEqual, NotEqual, LessGreater, Less, LessEqual, Greater, GreaterEqual}
use Rattle.ms_text.specs.declared.token.BadByte.{BadByte}

-- tab, line end, carriage return and space
abbrev pub is_blank : ℕ → Bool
is_blank b = (b == 9) || (b == 10) || (b == 13) || (b == 32)

-- a to z
abbrev pub is_lower : ℕ → Bool
is_lower b = nat_le 97 b && nat_le b 122

-- 0 to 9
abbrev pub is_digit : ℕ → Bool
is_digit b = nat_le 48 b && nat_le b 57

-- a letter, a digit, an underscore or an apostrophe
abbrev pub is_word : ℕ → Bool
is_word b = is_lower b || (nat_le 65 b && nat_le b 90) || is_digit b || (b == 95) || (b == 39)

-- everything but a line end
abbrev pub is_in_line : ℕ → Bool
is_in_line b = if b == 10 then false else true

-- how long the name at the front is: underscores, one of a to z, and word bytes
abbrev pub name_len : List ℕ → Option ℕ
name_len [] = None
name_len (b ∷ bs) = if b == 95 then option_map suc (name_len bs) else if is_lower b then Some (suc (length (take_while is_word bs))) else None

-- one name is a word of its own
abbrev pub name_kind : List ℕ → TokenKind
name_kind name = if pointwise nat_eq name (codes "not") then Not else Name

abbrev pub name_token : List ℕ → Option ℕ → Option (TokenKind × ℕ)
name_token text None = None
name_token text (Some n) = Some (name_kind (take n text), n)

-- the number that decimal digits stand for
abbrev pub number_of : List ℕ → ℕ
number_of digits = fold (λ n b. 10 * n + (b - 48)) 0 digits

abbrev pub greatest_number : ℕ
greatest_number = 9223372036854775808

abbrev pub number_within : List ℕ → Option (TokenKind × ℕ)
number_within digits = if nat_le (number_of digits) greatest_number then Some (Number, length digits) else None

-- a digit: 0 by itself, or another with the digits after it
abbrev pub number_token : ℕ → List ℕ → Option (TokenKind × ℕ)
number_token b bs = if b == 48 then Some (Number, 1) else number_within (b ∷ take_while is_digit bs)

-- what may follow a backslash: a quote, a backslash or the letter n
abbrev pub is_escape : ℕ → Bool
is_escape b = (b == 34) || (b == 92) || (b == 110)

-- How many bytes a string has from here to behind its closing quote, where `escaped` says that a backslash
-- stands before.
unfoldable pub text_len : Bool → List ℕ → Option ℕ
text_len escaped [] = None
text_len true (b ∷ bs) = elim (is_escape b) [ true ↦ option_map suc (text_len false bs) | false ↦ None ]
text_len false (b ∷ bs) = elim (b == 34) [
  | true ↦ Some 1
  | false ↦ elim (b == 10) [ true ↦ None | false ↦ option_map suc (text_len (b == 92) bs) ]
]

abbrev pub text_token : Option ℕ → Option (TokenKind × ℕ)
text_token None = None
text_token (Some n) = Some (Text, suc n)

abbrev pub is_directive : List ℕ → List ℕ → Bool
is_directive word text = pointwise nat_eq word text

abbrev pub directive_kind : List ℕ → Option TokenKind
directive_kind word =
    if is_directive word (codes "program") then Some Program else
    if is_directive word (codes "external") then Some External else
    if is_directive word (codes "const") then Some Const else
    if is_directive word (codes "show") then Some Show else
    if is_directive word (codes "include") then Some Include else
    if is_directive word (codes "count") then Some Count else
    if is_directive word (codes "sum") then Some Sum else None

-- a directive of the number sign and the word bytes after it
abbrev pub directive_token : List ℕ → Option (TokenKind × ℕ)
directive_token word = option_map (λ kind. (kind, suc (length word))) (directive_kind word)

abbrev pub begins_with : ℕ → List ℕ → Bool
begins_with b [] = false
begins_with b (c ∷ cs) = c == b

-- a sign of two bytes where the second one follows, and else what is left
abbrev pub longer : ℕ → TokenKind → List ℕ → Option (TokenKind × ℕ) → Option (TokenKind × ℕ)
longer second kind after shorter = if begins_with second after then Some (kind, 2) else shorter

abbrev pub sign_token : ℕ → List ℕ → Option (TokenKind × ℕ)
sign_token b bs =
    if b == 46 then longer 46 DotDot bs (Some (Dot, 1)) else
    if b == 44 then Some (Comma, 1) else
    if b == 59 then Some (Semicolon, 1) else
    if b == 58 then longer 45 If bs (Some (Colon, 1)) else
    if b == 40 then Some (LeftParen, 1) else
    if b == 41 then Some (RightParen, 1) else
    if b == 123 then Some (LeftBrace, 1) else
    if b == 125 then Some (RightBrace, 1) else
    if b == 43 then Some (Plus, 1) else
    if b == 45 then Some (Minus, 1) else
    if b == 42 then Some (Star, 1) else
    if b == 47 then Some (Slash, 1) else
    if b == 92 then Some (Backslash, 1) else
    if b == 124 then Some (Bar, 1) else
    if b == 61 then longer 61 EqualEqual bs (Some (Equal, 1)) else
    if b == 33 then longer 61 NotEqual bs None else
    if b == 60 then longer 62 LessGreater bs (longer 61 LessEqual bs (Some (Less, 1))) else
    if b == 62 then longer 61 GreaterEqual bs (Some (Greater, 1)) else None

-- the longest token at the front, with its number of bytes
abbrev pub first_token : List ℕ → Option (TokenKind × ℕ)
first_token [] = None
first_token (b ∷ bs) =
    if is_digit b then number_token b bs else
    if b == 34 then text_token (text_len false bs) else
    if b == 35 then directive_token (take_while is_word bs) else
    if is_lower b || (b == 95) then name_token (b ∷ bs) (name_len (b ∷ bs)) else
    sign_token b bs

-- the line of what follows a byte of this line
abbrev pub line_after : ℕ → ℕ → ℕ
line_after b line = if b == 10 then suc line else line

abbrev pub with_token : Token → Result (List Token) BadByte → Result (List Token) BadByte
with_token t (Ok ts) = Ok (t ∷ ts)
with_token t (Err bad) = Err bad

-- the token that was found at a place, and the tokens after it, or the bad byte
abbrev pub placed : Option (TokenKind × ℕ) → ℕ → ℕ → (ℕ → Result (List Token) BadByte) → Result (List Token) BadByte
placed None at line after = Err (record { at = at; line = line })
placed (Some found) at line after = with_token (record { kind = found.0; start = at; end = at + found.1; line = line }) (after (found.1 - 1))

-- The tokens of a text whose first byte stands at a place and in a line, and whose first `skip` bytes are
-- the rest of a token or of a comment.
unfoldable pub tokens_from : ℕ → List ℕ → ℕ → ℕ → Result (List Token) BadByte
tokens_from skip [] at line = Ok []
tokens_from (suc skip) (b ∷ bs) at line = tokens_from skip bs (suc at) (line_after b line)
tokens_from zero (b ∷ bs) at line = elim (is_blank b) [
  | true ↦ tokens_from zero bs (suc at) (line_after b line)
  | false ↦ elim (b == 37) [
    | true ↦ tokens_from (length (take_while is_in_line bs)) bs (suc at) line
    | false ↦ placed (first_token (b ∷ bs)) at line (λ n. tokens_from n bs (suc at) line)
  ]
]

abbrev pub tokens_of : List ℕ → Result (List Token) BadByte
tokens_of text = tokens_from 0 text 0 1

-- each token's bytes are among the first n
abbrev pub LieWithin : ℕ → List Token → Type 0
LieWithin n tokens = All (λ t. (t.start ≤ t.end) × (t.end ≤ n)) tokens
