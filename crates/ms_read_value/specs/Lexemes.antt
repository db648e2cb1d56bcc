-- Words as a reader of values tells them apart.
use Rattle.std.specs.Prelude.{◌-◌, ◌^◌, min}
use Rattle.ms_text.specs.declared.token.TokenKind.{TokenKind}
use Rattle.ms_text.specs.declared.token.TokenKind.TheVariants.{LeftParen, RightParen}
use Rattle.ms_text.specs.declared.token.TokenKind.TheVariants as kind
use Rattle.ms_grammar.specs.Words.{Word, name, number, quoted, sign}
use Rattle.ms_read_value.specs.declared.lexemes.Lexeme.{Lexeme}
use Rattle.ms_read_value.specs.declared.lexemes.Lexeme.TheVariants.{Name, Number, Text, Minus, Comma, Open, Close, Other}

abbrev pub sign_lexeme : TokenKind → Lexeme
sign_lexeme kind.Minus = Minus
sign_lexeme kind.Comma = Comma
sign_lexeme LeftParen = Open
sign_lexeme RightParen = Close
sign_lexeme other = Other

-- numbers above the greatest u64 are one
abbrev pub lexeme_of : Word → Lexeme
lexeme_of (name f) = Name f
lexeme_of (number n) = Number (min n (2 ^ 64 - 1))
lexeme_of (quoted s) = Text s
lexeme_of (sign kind) = sign_lexeme kind
