-- The value of a term of a core rule under a choice of integers for its ranges, and comparisons of values.
-- Source: terms and comparisons of ASP-Core-2, with clingo's `\` and `|t|`. That an operation is undefined where
-- its result isn't within 64 bits, and the order of terms, are this project's own.
use Rattle.std.specs.Prelude.{◌^◌, nat_lt, ℤ, pos, negsuc, ◌+ℤ◌, ◌-ℤ◌, ◌*ℤ◌, int_div, Bool, not, ◌&&◌, if◌then◌else◌, List, [], ◌∷◌, Option, Some, None, option_map, option_and_then, slice_get}
use Rattle.std.specs.declared.cmp.Ordering.{Ordering}
use Rattle.std.specs.Ordering.{int_eq, is_eq, is_ne, is_lt, is_le, is_gt, is_ge}
use Rattle.ms_tree.specs.declared.op.Op.{Op}
use Rattle.ms_tree.specs.declared.op.Op.TheVariants.{Add, Sub, Mul, Div, Rem}
use Rattle.ms_tree.specs.Arithmetic.{value_of}
use Rattle.ms_tree.specs.Tree.{Tree, number, text, function, Trees, no_tree, tree}
use Rattle.ms_tree.specs.Order.{compare_trees}
use Rattle.ms_grammar.specs.Terms.{both}
use Rattle.ms_grammar.specs.declared.statement.Cmp.{Cmp}
use Rattle.ms_grammar.specs.declared.statement.Cmp.TheVariants.{Eq, Ne, Lt, Le, Gt, Ge}
use Rattle.ms_core.specs.declared.pattern.Pattern.{Pattern}
use Rattle.ms_core.specs.declared.pattern.Pattern.TheOpen.{Pattern-F}
use Rattle.ms_core.specs.declared.pattern.Pattern.TheFolds.{fold-Pattern}

-- The integers that are chosen for ranges, by the ranges' numbers.
abbrev pub Chosen : Type 0
Chosen = List ℤ

-- the integer is within 64 bits
abbrev pub fits : ℤ → Bool
fits (pos n) = nat_lt n (2 ^ 63)
fits (negsuc n) = nat_lt n (2 ^ 63)

-- the test of what makes an operation defined: a divisor that isn't 0, and a result within 64 bits
abbrev pub is_defined : Op → ℤ → ℤ → Bool
is_defined Add a b = fits (a +ℤ b)
is_defined Sub a b = fits (a -ℤ b)
is_defined Mul a b = fits (a *ℤ b)
is_defined Div a b = not (int_eq b (pos 0)) && fits (int_div a b)
is_defined Rem a b = not (int_eq b (pos 0)) && fits (int_div a b)

-- The result of an operation, where it is defined.
abbrev pub operate : Op → ℤ → ℤ → Option ℤ
operate op a b = if is_defined op a b then Some (value_of op a b) else None

abbrev pub absolute : ℤ → Option ℤ
absolute (pos n) = Some (pos n)
absolute (negsuc n) = operate Sub (pos 0) (negsuc n)

abbrev pub integer_in : Tree → Option ℤ
integer_in (number n) = Some n
integer_in (text s) = None
integer_in (function f ts) = None

-- the integer that a value is, if it is one
abbrev pub integer : Option Tree → Option ℤ
integer v = option_and_then integer_in v

-- the values of all, where each has one
unfoldable pub all_values : List (Option Tree) → Option Trees
all_values [] = Some no_tree
all_values (v ∷ vs) = both (λ t ts. Some (tree t ts)) v (all_values vs)

-- an operation asks for integers, and `-t` is `0 - t`
abbrev pub value_step : Chosen → Pattern-F (Option Tree) → Option Tree
value_step chosen (Pattern-F.Range i) = option_map number (slice_get chosen i)
value_step chosen (Pattern-F.Number n) = Some (number n)
value_step chosen (Pattern-F.Text s) = Some (text s)
value_step chosen (Pattern-F.Function f vs) = option_map (function f) (all_values vs)
value_step chosen (Pattern-F.Neg v) = option_map number (option_and_then (operate Sub (pos 0)) (integer v))
value_step chosen (Pattern-F.Abs v) = option_map number (option_and_then absolute (integer v))
value_step chosen (Pattern-F.Binary op l r) = option_map number (both (operate op) (integer l) (integer r))

-- The value of a term, where it is defined.
abbrev pub value : Chosen → Pattern → Option Tree
value chosen = fold-Pattern (Option Tree) (value_step chosen)

abbrev pub allows : Cmp → Ordering → Bool
allows Eq order = is_eq order
allows Ne order = is_ne order
allows Lt order = is_lt order
allows Le order = is_le order
allows Gt order = is_gt order
allows Ge order = is_ge order

-- The comparison holds of two terms, by their order.
abbrev pub compares : Cmp → Tree → Tree → Bool
compares cmp a b = allows cmp (compare_trees a b)
