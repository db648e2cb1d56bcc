-- What is printed of a value.
use Rattle.std.specs.Prelude.{ℕ, Bool, true, false, ℤ, pos, negsuc, suc, List, [], ◌∷◌, ◌++◌}
use Rattle.ms_text.specs.declared.token.TokenKind.TheVariants.{Minus}
use Rattle.ms_grammar.specs.declared.value.Value.{Value}
use Rattle.ms_grammar.specs.declared.value.Value.TheOpen.{Value-F}
use Rattle.ms_grammar.specs.declared.value.Value.TheFolds.{fold-Value}
use Rattle.ms_grammar.specs.Words.{name, number, quoted}
use Rattle.ms_ast.specs.Ink.{Ink, word, mark, in_parens, side_by_side, comma}

abbrev pub integer_ink : ℤ → List Ink
integer_ink (pos n) = word (number n) ∷ []
integer_ink (negsuc n) = mark Minus ∷ word (number (suc n)) ∷ []

-- a tuple: one value stands with a comma
abbrev pub tuple_inside : List (List Ink) → List Ink
tuple_inside (ink ∷ []) = ink ++ comma
tuple_inside inks = side_by_side comma inks

-- a constant has no parentheses
abbrev pub function_ink : List ℕ → List (List Ink) → List Ink
function_ink [] inks = in_parens (tuple_inside inks)
function_ink (b ∷ bs) [] = word (name (b ∷ bs)) ∷ []
function_ink (b ∷ bs) (ink ∷ inks) = word (name (b ∷ bs)) ∷ in_parens (side_by_side comma (ink ∷ inks))

-- a name without arguments
abbrev pub is_constant : {A : Type 0} → List ℕ → List A → Bool
is_constant (b ∷ bs) [] = true
is_constant f arguments = false

-- what ends the text of a function
abbrev pub closing_text : List ℕ → List (List Ink) → List ℕ
closing_text [] (ink ∷ []) = 44 ∷ 41 ∷ []
closing_text f inks = 41 ∷ []

abbrev pub value_ink_of : Value-F (List Ink) → List Ink
value_ink_of (Value-F.Number n) = integer_ink n
value_ink_of (Value-F.Text s) = word (quoted s) ∷ []
value_ink_of (Value-F.Function f inks) = function_ink f inks

abbrev pub value_ink : Value → List Ink
value_ink = fold-Value (List Ink) value_ink_of
