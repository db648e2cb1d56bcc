-- The signs that are told apart from whatever follows, and those that are told apart from a blank.
use Rattle.std.proofs.Common.{ℕ, List, [], ◌∷◌, ◌++◌, refl}
use Rattle.ms_text.specs.declared.token.TokenKind.TheVariants.{Not, Program, External, Const, Show, Include, Count, Sum, DotDot, Comma, Semicolon, Colon, If, LeftParen, RightParen, LeftBrace, RightBrace, Plus, Minus, Star, Slash, Backslash, Bar, Equal, NotEqual, Less, LessEqual, Greater, GreaterEqual}
use Rattle.ms_tree.specs.declared.op.Op.{Op}
use Rattle.ms_tree.specs.declared.op.Op.TheVariants.{Add, Sub, Mul, Div, Rem}
use Rattle.ms_grammar.specs.declared.statement.Cmp.{Cmp}
use Rattle.ms_grammar.specs.declared.statement.Cmp.TheVariants.{Eq, Ne, Lt, Le, Gt, Ge}
use Rattle.ms_grammar.specs.Words.{sign}
use Rattle.ms_ast.specs.Ink.{Ink, blank, mark, comma, semicolon, comma_blank, semicolon_blank, in_parens}
use Rattle.ms_ast.specs.Terms.{op_kind}
use Rattle.ms_ast.specs.Statements.{cmp_kind}
use Rattle.ms_ast.proofs.Apart.{IsToken, IsSign, IsBetween, Joins, behind_sign, sign_starts, behind_blank, joins_before, nothing_joins}

pub dot_dot_sign : IsSign (sign DotDot)
dot_dot_sign = record { is_token = λ tail. record { head = 46; rest = 46 ∷ []; text = refl; kind = DotDot; first = refl; inside = λ t ps. refl; reads = λ front line. refl }; free = λ tail. refl }

pub comma_sign : IsSign (sign Comma)
comma_sign = record { is_token = λ tail. record { head = 44; rest = []; text = refl; kind = Comma; first = refl; inside = λ t ps. refl; reads = λ front line. refl }; free = λ tail. refl }

pub semicolon_sign : IsSign (sign Semicolon)
semicolon_sign = record { is_token = λ tail. record { head = 59; rest = []; text = refl; kind = Semicolon; first = refl; inside = λ t ps. refl; reads = λ front line. refl }; free = λ tail. refl }

pub left_paren_sign : IsSign (sign LeftParen)
left_paren_sign = record { is_token = λ tail. record { head = 40; rest = []; text = refl; kind = LeftParen; first = refl; inside = λ t ps. refl; reads = λ front line. refl }; free = λ tail. refl }

pub right_paren_sign : IsSign (sign RightParen)
right_paren_sign = record { is_token = λ tail. record { head = 41; rest = []; text = refl; kind = RightParen; first = refl; inside = λ t ps. refl; reads = λ front line. refl }; free = λ tail. refl }

pub left_brace_sign : IsSign (sign LeftBrace)
left_brace_sign = record { is_token = λ tail. record { head = 123; rest = []; text = refl; kind = LeftBrace; first = refl; inside = λ t ps. refl; reads = λ front line. refl }; free = λ tail. refl }

pub right_brace_sign : IsSign (sign RightBrace)
right_brace_sign = record { is_token = λ tail. record { head = 125; rest = []; text = refl; kind = RightBrace; first = refl; inside = λ t ps. refl; reads = λ front line. refl }; free = λ tail. refl }

pub plus_sign : IsSign (sign Plus)
plus_sign = record { is_token = λ tail. record { head = 43; rest = []; text = refl; kind = Plus; first = refl; inside = λ t ps. refl; reads = λ front line. refl }; free = λ tail. refl }

pub minus_sign : IsSign (sign Minus)
minus_sign = record { is_token = λ tail. record { head = 45; rest = []; text = refl; kind = Minus; first = refl; inside = λ t ps. refl; reads = λ front line. refl }; free = λ tail. refl }

pub star_sign : IsSign (sign Star)
star_sign = record { is_token = λ tail. record { head = 42; rest = []; text = refl; kind = Star; first = refl; inside = λ t ps. refl; reads = λ front line. refl }; free = λ tail. refl }

pub slash_sign : IsSign (sign Slash)
slash_sign = record { is_token = λ tail. record { head = 47; rest = []; text = refl; kind = Slash; first = refl; inside = λ t ps. refl; reads = λ front line. refl }; free = λ tail. refl }

pub backslash_sign : IsSign (sign Backslash)
backslash_sign = record { is_token = λ tail. record { head = 92; rest = []; text = refl; kind = Backslash; first = refl; inside = λ t ps. refl; reads = λ front line. refl }; free = λ tail. refl }

pub bar_sign : IsSign (sign Bar)
bar_sign = record { is_token = λ tail. record { head = 124; rest = []; text = refl; kind = Bar; first = refl; inside = λ t ps. refl; reads = λ front line. refl }; free = λ tail. refl }

pub not_blank : (tail : List ℕ) → IsToken (sign Not) (32 ∷ tail)
not_blank tail = record { head = 110; rest = 111 ∷ 116 ∷ []; text = refl; kind = Not; first = refl; inside = λ t ps. refl; reads = λ front line. refl }

pub program_blank : (tail : List ℕ) → IsToken (sign Program) (32 ∷ tail)
program_blank tail = record { head = 35; rest = 112 ∷ 114 ∷ 111 ∷ 103 ∷ 114 ∷ 97 ∷ 109 ∷ []; text = refl; kind = Program; first = refl; inside = λ t ps. refl; reads = λ front line. refl }

pub external_blank : (tail : List ℕ) → IsToken (sign External) (32 ∷ tail)
external_blank tail = record { head = 35; rest = 101 ∷ 120 ∷ 116 ∷ 101 ∷ 114 ∷ 110 ∷ 97 ∷ 108 ∷ []; text = refl; kind = External; first = refl; inside = λ t ps. refl; reads = λ front line. refl }

pub const_blank : (tail : List ℕ) → IsToken (sign Const) (32 ∷ tail)
const_blank tail = record { head = 35; rest = 99 ∷ 111 ∷ 110 ∷ 115 ∷ 116 ∷ []; text = refl; kind = Const; first = refl; inside = λ t ps. refl; reads = λ front line. refl }

pub include_blank : (tail : List ℕ) → IsToken (sign Include) (32 ∷ tail)
include_blank tail = record { head = 35; rest = 105 ∷ 110 ∷ 99 ∷ 108 ∷ 117 ∷ 100 ∷ 101 ∷ []; text = refl; kind = Include; first = refl; inside = λ t ps. refl; reads = λ front line. refl }

pub colon_blank : (tail : List ℕ) → IsToken (sign Colon) (32 ∷ tail)
colon_blank tail = record { head = 58; rest = []; text = refl; kind = Colon; first = refl; inside = λ t ps. refl; reads = λ front line. refl }

pub if_blank : (tail : List ℕ) → IsToken (sign If) (32 ∷ tail)
if_blank tail = record { head = 58; rest = 45 ∷ []; text = refl; kind = If; first = refl; inside = λ t ps. refl; reads = λ front line. refl }

pub equal_blank : (tail : List ℕ) → IsToken (sign Equal) (32 ∷ tail)
equal_blank tail = record { head = 61; rest = []; text = refl; kind = Equal; first = refl; inside = λ t ps. refl; reads = λ front line. refl }

pub not_equal_blank : (tail : List ℕ) → IsToken (sign NotEqual) (32 ∷ tail)
not_equal_blank tail = record { head = 33; rest = 61 ∷ []; text = refl; kind = NotEqual; first = refl; inside = λ t ps. refl; reads = λ front line. refl }

pub less_blank : (tail : List ℕ) → IsToken (sign Less) (32 ∷ tail)
less_blank tail = record { head = 60; rest = []; text = refl; kind = Less; first = refl; inside = λ t ps. refl; reads = λ front line. refl }

pub less_equal_blank : (tail : List ℕ) → IsToken (sign LessEqual) (32 ∷ tail)
less_equal_blank tail = record { head = 60; rest = 61 ∷ []; text = refl; kind = LessEqual; first = refl; inside = λ t ps. refl; reads = λ front line. refl }

pub greater_blank : (tail : List ℕ) → IsToken (sign Greater) (32 ∷ tail)
greater_blank tail = record { head = 62; rest = []; text = refl; kind = Greater; first = refl; inside = λ t ps. refl; reads = λ front line. refl }

pub greater_equal_blank : (tail : List ℕ) → IsToken (sign GreaterEqual) (32 ∷ tail)
greater_equal_blank tail = record { head = 62; rest = 61 ∷ []; text = refl; kind = GreaterEqual; first = refl; inside = λ t ps. refl; reads = λ front line. refl }

pub show_blank : (tail : List ℕ) → IsToken (sign Show) (32 ∷ tail)
show_blank tail = record { head = 35; rest = 115 ∷ 104 ∷ 111 ∷ 119 ∷ []; text = refl; kind = Show; first = refl; inside = λ t ps. refl; reads = λ front line. refl }

pub count_brace : (tail : List ℕ) → IsToken (sign Count) (123 ∷ tail)
count_brace tail = record { head = 35; rest = 99 ∷ 111 ∷ 117 ∷ 110 ∷ 116 ∷ []; text = refl; kind = Count; first = refl; inside = λ t ps. refl; reads = λ front line. refl }

pub sum_brace : (tail : List ℕ) → IsToken (sign Sum) (123 ∷ tail)
sum_brace tail = record { head = 35; rest = 115 ∷ 117 ∷ 109 ∷ []; text = refl; kind = Sum; first = refl; inside = λ t ps. refl; reads = λ front line. refl }

pub show_dot : (tail : List ℕ) → IsToken (sign Show) (46 ∷ tail)
show_dot tail = record { head = 35; rest = 115 ∷ 104 ∷ 111 ∷ 119 ∷ []; text = refl; kind = Show; first = refl; inside = λ t ps. refl; reads = λ front line. refl }

pub less_name : (tail : List ℕ) → IsToken (sign Less) (105 ∷ tail)
less_name tail = record { head = 60; rest = []; text = refl; kind = Less; first = refl; inside = λ t ps. refl; reads = λ front line. refl }

pub greater_dot : (tail : List ℕ) → IsToken (sign Greater) (46 ∷ tail)
greater_dot tail = record { head = 62; rest = []; text = refl; kind = Greater; first = refl; inside = λ t ps. refl; reads = λ front line. refl }

pub op_sign : (op : Op) → IsSign (sign (op_kind op))
op_sign Add = plus_sign
op_sign Sub = minus_sign
op_sign Mul = star_sign
op_sign Div = slash_sign
op_sign Rem = backslash_sign

pub cmp_blank : (cmp : Cmp) (tail : List ℕ) → IsToken (sign (cmp_kind cmp)) (32 ∷ tail)
cmp_blank Eq = equal_blank
cmp_blank Ne = not_equal_blank
cmp_blank Lt = less_blank
cmp_blank Le = less_equal_blank
cmp_blank Gt = greater_blank
cmp_blank Ge = greater_equal_blank

pub comma_between : IsBetween comma
comma_between = record { joins = λ ink j. behind_sign (sign Comma) comma_sign ink j; starts = λ ink. sign_starts (sign Comma) comma_sign ink }

pub semicolon_between : IsBetween semicolon
semicolon_between = record { joins = λ ink j. behind_sign (sign Semicolon) semicolon_sign ink j; starts = λ ink. sign_starts (sign Semicolon) semicolon_sign ink }

pub comma_blank_between : IsBetween comma_blank
comma_blank_between = record { joins = λ ink j. behind_sign (sign Comma) comma_sign (blank ∷ ink) (behind_blank ink j); starts = λ ink. sign_starts (sign Comma) comma_sign (blank ∷ ink) }

pub semicolon_blank_between : IsBetween semicolon_blank
semicolon_blank_between = record { joins = λ ink j. behind_sign (sign Semicolon) semicolon_sign (blank ∷ ink) (behind_blank ink j); starts = λ ink. sign_starts (sign Semicolon) semicolon_sign (blank ∷ ink) }

pub parens_join : (ink : List Ink) → Joins ink → Joins (in_parens ink)
parens_join ink j = behind_sign (sign LeftParen) left_paren_sign (ink ++ mark RightParen ∷ [])
    (joins_before ink (mark RightParen ∷ []) j (sign_starts (sign RightParen) right_paren_sign []) (behind_sign (sign RightParen) right_paren_sign [] nothing_joins))
