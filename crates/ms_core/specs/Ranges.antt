-- Intervals become ranges, an inner one before an outer one.
-- Source: intervals of gringo, in a profile of this project.
use Rattle.std.specs.Prelude.{ℕ, ◌+◌, List, [], ◌∷◌, ◌++◌, map, fold, length}
use Rattle.ms_grammar.specs.declared.term.TextTerm.{TextTerm}
use Rattle.ms_grammar.specs.declared.term.TextTerm.TheOpen.{TextTerm-F}
use Rattle.ms_grammar.specs.declared.term.TextTerm.TheFolds.{fold-TextTerm}
use Rattle.ms_grammar.specs.declared.statement.TextLit.{TextLit}
use Rattle.ms_grammar.specs.declared.statement.TextLit.TheVariants.{Positive, Negated, Test as Comparison}
use Rattle.ms_grammar.specs.declared.statement.Cmp.{Cmp}
use Rattle.ms_core.specs.declared.pattern.Pattern.{Pattern, Range as ChosenOf, Number, Text, Function, Neg, Abs, Binary}
use Rattle.ms_core.specs.declared.rule.Test.{Test}
use Rattle.ms_core.specs.declared.rule.Range.{Range}
use Rattle.ms_core.specs.declared.rule.Conds.{Conds}

-- what intervals were made of, with the ranges that they gave
pub record Ranged (T : Type 0) : Type 0 where
  pub value : T
  pub ranges : List Range

-- it takes the number of the next range
abbrev pub Maker : Type 0 → Type 0
Maker T = ℕ → Ranged T

abbrev pub mapped : {A B : Type 0} → (A → B) → Maker A → Maker B
mapped f make n = record { value = f (make n).value; ranges = (make n).ranges }

-- one after the other
abbrev pub then_with : {A B C : Type 0} → (A → B → C) → Maker A → Maker B → Maker C
then_with f first second n = record {
  value = f (first n).value (second (n + length (first n).ranges)).value;
  ranges = (first n).ranges ++ (second (n + length (first n).ranges)).ranges;
}

unfoldable pub in_order : {A : Type 0} → List (Maker A) → Maker (List A)
in_order [] n = record { value = []; ranges = [] }
in_order (make ∷ makes) n = then_with (λ x xs. x ∷ xs) make (in_order makes) n

abbrev pub range_of : Pattern → Pattern → Range
range_of low high = record { low = low; high = high }

-- the integer of a range of two ends, which goes behind the ranges that these gave
abbrev pub chosen_of : Maker Range → Maker Pattern
chosen_of ends n = record { value = ChosenOf (n + length (ends n).ranges); ranges = (ends n).ranges ++ (ends n).value ∷ [] }

-- Without pools there is one list of arguments, and no alternative.
abbrev pub ranged_step : TextTerm-F (Maker Pattern) → Maker Pattern
ranged_step (TextTerm-F.Number n) = λ next. record { value = Number n; ranges = [] }
ranged_step (TextTerm-F.Text s) = λ next. record { value = Text s; ranges = [] }
ranged_step (TextTerm-F.Function f []) = λ next. record { value = Function f []; ranges = [] }
ranged_step (TextTerm-F.Function f (args ∷ lists)) = mapped (Function f) (in_order args)
ranged_step (TextTerm-F.Pool alternatives) = mapped (Function []) (in_order alternatives)
ranged_step (TextTerm-F.Interval low high) = chosen_of (then_with range_of low high)
ranged_step (TextTerm-F.Neg t) = mapped Neg t
ranged_step (TextTerm-F.Abs t) = mapped Abs t
ranged_step (TextTerm-F.Binary op l r) = then_with (Binary op) l r

-- The pattern of a term without pools, and its ranges.
abbrev pub ranged : TextTerm → Maker Pattern
ranged = fold-TextTerm (Maker Pattern) ranged_step

abbrev pub all_ranged : List TextTerm → Maker (List Pattern)
all_ranged ts = in_order (map ranged ts)

-- the number of the next range, where the ranges of the condition are numbered from `first` on
abbrev pub next_range : ℕ → Conds → ℕ
next_range first c = first + length c.ranges

abbrev pub test_of : Cmp → Pattern → Pattern → Test
test_of cmp l r = record { left = l; cmp = cmp; right = r }

-- a condition with one more literal
abbrev pub with_literal : ℕ → Conds → TextLit → Conds
with_literal first c (Positive a) = record c {
  pos = c.pos ++ (ranged a (next_range first c)).value ∷ [];
  ranges = c.ranges ++ (ranged a (next_range first c)).ranges;
}
with_literal first c (Negated a) = record c {
  neg = c.neg ++ (ranged a (next_range first c)).value ∷ [];
  ranges = c.ranges ++ (ranged a (next_range first c)).ranges;
}
with_literal first c (Comparison l cmp r) = record c {
  tests = c.tests ++ (then_with (test_of cmp) (ranged l) (ranged r) (next_range first c)).value ∷ [];
  ranges = c.ranges ++ (then_with (test_of cmp) (ranged l) (ranged r) (next_range first c)).ranges;
}

abbrev pub with_literals : ℕ → Conds → List TextLit → Conds
with_literals first c literals = fold (with_literal first) c literals

-- a condition of ranges alone
abbrev pub only_ranges : List Range → Conds
only_ranges ranges = record { pos = []; neg = []; tests = []; ranges = ranges }
