-- What is printed of a term: no more parentheses than the grammar needs.
use Rattle.std.specs.Prelude.{ℕ, Bool, true, false, ℤ, pos, negsuc, suc, nat_le, if◌then◌else◌, List, [], ◌∷◌, ◌++◌, map}
use Rattle.ms_text.specs.declared.token.TokenKind.{TokenKind}
use Rattle.ms_text.specs.declared.token.TokenKind.TheVariants.{DotDot, Plus, Minus, Star, Slash, Backslash, Bar}
use Rattle.ms_tree.specs.declared.op.Op.{Op}
use Rattle.ms_tree.specs.declared.op.Op.TheVariants.{Add, Sub, Mul, Div, Rem}
use Rattle.ms_grammar.specs.declared.term.TextTerm.{TextTerm}
use Rattle.ms_grammar.specs.declared.term.TextTerm.TheOpen.{TextTerm-F}
use Rattle.ms_grammar.specs.declared.term.TextTerm.TheFolds.{fold-TextTerm}
use Rattle.ms_grammar.specs.Words.{name, number, quoted}
use Rattle.ms_ast.specs.declared.line.Line.{Line}
use Rattle.ms_ast.specs.declared.line.Line.TheVariants.{Interval, Sum, Product, Unary, Primary}
use Rattle.ms_ast.specs.Ink.{Ink, word, mark, in_parens, side_by_side, comma, semicolon}

-- how far a line stands within the others
abbrev pub depth : Line → ℕ
depth Interval = 0
depth Sum = 1
depth Product = 2
depth Unary = 3
depth Primary = 4

-- The line of the grammar on which a term stands, its ink, and its ink within parentheses, which is shorter
-- where it has some of its own.
pub record Printed : Type 0 where
  pub line : Line
  pub ink : List Ink
  pub inside : List Ink

abbrev pub on_line : Line → List Ink → Printed
on_line line ink = record { line = line; ink = ink; inside = ink }

abbrev pub parenthesis : List Ink → Printed
parenthesis inside = record { line = Primary; ink = in_parens inside; inside = inside }

-- a term where the grammar wants this line: in parentheses where it stands further out
abbrev pub at_line : Line → Printed → List Ink
at_line line p = if nat_le (depth line) (depth p.line) then p.ink else in_parens p.inside

abbrev pub integer : ℤ → Printed
integer (pos n) = on_line Primary (word (number n) ∷ [])
integer (negsuc n) = on_line Unary (mark Minus ∷ word (number (suc n)) ∷ [])

abbrev pub list_ink : List Printed → List Ink
list_ink list = side_by_side comma (map (λ p. p.ink) list)

abbrev pub lists_ink : List (List Printed) → List Ink
lists_ink lists = side_by_side semicolon (map list_ink lists)

-- a tuple within its parentheses: one term stands with a comma
abbrev pub tuple_inside : List Printed → List Ink
tuple_inside [] = []
tuple_inside (p ∷ []) = p.ink ++ comma
tuple_inside (p ∷ q ∷ more) = list_ink (p ∷ q ∷ more)

abbrev pub tuple : List (List Printed) → Printed
tuple [] = parenthesis []
tuple (list ∷ lists) = parenthesis (tuple_inside list)

-- the lists of a constant
abbrev pub are_no_arguments : {A : Type 0} → List (List A) → Bool
are_no_arguments ([] ∷ []) = true
are_no_arguments lists = false

-- a constant has no parentheses
abbrev pub named : List ℕ → List (List Printed) → List Ink
named f ([] ∷ []) = word (name f) ∷ []
named f lists = word (name f) ∷ in_parens (lists_ink lists)

abbrev pub function : List ℕ → List (List Printed) → Printed
function [] lists = tuple lists
function (b ∷ bs) lists = on_line Primary (named (b ∷ bs) lists)

abbrev pub alternatives_ink : List Printed → List Ink
alternatives_ink alternatives = side_by_side semicolon (map (λ p. p.inside) alternatives)

abbrev pub pool : List Printed → Printed
pool alternatives = on_line Primary (in_parens (alternatives_ink alternatives))

abbrev pub op_kind : Op → TokenKind
op_kind Add = Plus
op_kind Sub = Minus
op_kind Mul = Star
op_kind Div = Slash
op_kind Rem = Backslash

-- the line of an operation, on which its left side stands too
abbrev pub op_line : Op → Line
op_line Add = Sum
op_line Sub = Sum
op_line Mul = Product
op_line Div = Product
op_line Rem = Product

abbrev pub right_line : Op → Line
right_line Add = Product
right_line Sub = Product
right_line Mul = Unary
right_line Div = Unary
right_line Rem = Unary

-- one term, with what is printed of each part in its place
abbrev pub printed_of : TextTerm-F Printed → Printed
printed_of (TextTerm-F.Number n) = integer n
printed_of (TextTerm-F.Text s) = on_line Primary (word (quoted s) ∷ [])
printed_of (TextTerm-F.Function f lists) = function f lists
printed_of (TextTerm-F.Pool alternatives) = pool alternatives
printed_of (TextTerm-F.Interval low high) = on_line Interval (at_line Sum low ++ mark DotDot ∷ at_line Sum high)
printed_of (TextTerm-F.Neg p) = on_line Unary (mark Minus ∷ at_line Unary p)
printed_of (TextTerm-F.Abs p) = on_line Primary (mark Bar ∷ at_line Sum p ++ mark Bar ∷ [])
printed_of (TextTerm-F.Binary op left right) = on_line (op_line op) (at_line (op_line op) left ++ mark (op_kind op) ∷ at_line (right_line op) right)

abbrev pub printed : TextTerm → Printed
printed = fold-TextTerm Printed printed_of

abbrev pub term_ink : TextTerm → List Ink
term_ink t = (printed t).ink
