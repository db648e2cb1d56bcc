-- The value of each kind of term, and the integer that it is.
use Rattle.std.proofs.Common.{◌≡◌, ℕ, ℤ, pos, List, map, Option, Some, None, refl, sym, ap, ◌∙◌}
use Rattle.std.specs.Prelude.{option_map, option_and_then, slice_get}
use Rattle.ms_tree.specs.declared.op.Op.{Op}
use Rattle.ms_tree.specs.declared.op.Op.TheVariants.{Sub}
use Rattle.ms_tree.specs.Tree.{Tree, number, text, function}
use Rattle.ms_grammar.specs.Terms.{both}
use Rattle.ms_core.specs.declared.pattern.Pattern.{Pattern, Range, Number, Text, Function, Neg, Abs, Binary}
use Rattle.ms_core.specs.declared.pattern.Pattern.TheOpen.{Pattern-F}
use Rattle.ms_core.specs.declared.pattern.Pattern.TheVariants as variants
use Rattle.ms_core.specs.declared.pattern.Pattern.TheFolds.{fold-roll-Pattern}
use Rattle.ms_copies.specs.Evaluating.{Chosen, operate, absolute, integer, all_values, value_step, value}

pub value_range : (chosen : Chosen) (i : ℕ) → value chosen (Range i) ≡ option_map number (slice_get chosen i)
value_range chosen i = ap (value chosen) (sym (variants.rolls-Range i)) ∙ fold-roll-Pattern (Option Tree) (value_step chosen) (Pattern-F.Range i)

pub value_number : (chosen : Chosen) (n : ℤ) → value chosen (Number n) ≡ Some (number n)
value_number chosen n = ap (value chosen) (sym (variants.rolls-Number n)) ∙ fold-roll-Pattern (Option Tree) (value_step chosen) (Pattern-F.Number n)

pub value_text : (chosen : Chosen) (s : List ℕ) → value chosen (Text s) ≡ Some (text s)
value_text chosen s = ap (value chosen) (sym (variants.rolls-Text s)) ∙ fold-roll-Pattern (Option Tree) (value_step chosen) (Pattern-F.Text s)

pub value_function : (chosen : Chosen) (f : List ℕ) (ps : List Pattern) → value chosen (Function f ps) ≡ option_map (function f) (all_values (map (value chosen) ps))
value_function chosen f ps = ap (value chosen) (sym (variants.rolls-Function f ps)) ∙ fold-roll-Pattern (Option Tree) (value_step chosen) (Pattern-F.Function f ps)

pub value_neg : (chosen : Chosen) (p : Pattern) → value chosen (Neg p) ≡ option_map number (option_and_then (operate Sub (pos 0)) (integer (value chosen p)))
value_neg chosen p = ap (value chosen) (sym (variants.rolls-Neg p)) ∙ fold-roll-Pattern (Option Tree) (value_step chosen) (Pattern-F.Neg p)

pub value_abs : (chosen : Chosen) (p : Pattern) → value chosen (Abs p) ≡ option_map number (option_and_then absolute (integer (value chosen p)))
value_abs chosen p = ap (value chosen) (sym (variants.rolls-Abs p)) ∙ fold-roll-Pattern (Option Tree) (value_step chosen) (Pattern-F.Abs p)

pub value_binary : (chosen : Chosen) (op : Op) (l r : Pattern) → value chosen (Binary op l r) ≡ option_map number (both (operate op) (integer (value chosen l)) (integer (value chosen r)))
value_binary chosen op l r = ap (value chosen) (sym (variants.rolls-Binary op l r)) ∙ fold-roll-Pattern (Option Tree) (value_step chosen) (Pattern-F.Binary op l r)

pub integer_number : (n : Option ℤ) → integer (option_map number n) ≡ n
integer_number None = refl
integer_number (Some n) = refl

pub integer_range : (chosen : Chosen) (i : ℕ) → integer (value chosen (Range i)) ≡ slice_get chosen i
integer_range chosen i = ap integer (value_range chosen i) ∙ integer_number (slice_get chosen i)

pub integer_neg : (chosen : Chosen) (p : Pattern) → integer (value chosen (Neg p)) ≡ option_and_then (operate Sub (pos 0)) (integer (value chosen p))
integer_neg chosen p = ap integer (value_neg chosen p) ∙ integer_number (option_and_then (operate Sub (pos 0)) (integer (value chosen p)))

pub integer_abs : (chosen : Chosen) (p : Pattern) → integer (value chosen (Abs p)) ≡ option_and_then absolute (integer (value chosen p))
integer_abs chosen p = ap integer (value_abs chosen p) ∙ integer_number (option_and_then absolute (integer (value chosen p)))

pub integer_binary : (chosen : Chosen) (op : Op) (l r : Pattern) → integer (value chosen (Binary op l r)) ≡ both (operate op) (integer (value chosen l)) (integer (value chosen r))
integer_binary chosen op l r = ap integer (value_binary chosen op l r) ∙ integer_number (both (operate op) (integer (value chosen l)) (integer (value chosen r)))
