-- What is printed of each form of a term.
use Rattle.std.proofs.Common.{◌≡◌, ℕ, List, map, sym, ap, ◌∙◌, ℤ}
use Rattle.ms_tree.specs.declared.op.Op.{Op}
use Rattle.ms_grammar.specs.declared.term.TextTerm.{TextTerm, Number, Text, Function, Pool, Interval, Neg, Abs, Binary}
use Rattle.ms_grammar.specs.declared.term.TextTerm.TheVariants.{rolls-Number, rolls-Text, rolls-Function, rolls-Pool, rolls-Interval, rolls-Neg, rolls-Abs, rolls-Binary}
use Rattle.ms_grammar.specs.declared.term.TextTerm.TheOpen.{TextTerm-F}
use Rattle.ms_grammar.specs.declared.term.TextTerm.TheFolds.{fold-roll-TextTerm}
use Rattle.ms_ast.specs.Terms.{Printed, printed, printed_of}

pub number_printed : (n : ℤ) → printed (Number n) ≡ printed_of (TextTerm-F.Number n)
number_printed n = ap printed (sym (rolls-Number n)) ∙ fold-roll-TextTerm Printed printed_of (TextTerm-F.Number n)

pub text_printed : (s : List ℕ) → printed (Text s) ≡ printed_of (TextTerm-F.Text s)
text_printed s = ap printed (sym (rolls-Text s)) ∙ fold-roll-TextTerm Printed printed_of (TextTerm-F.Text s)

pub function_printed : (f : List ℕ) (lists : List (List TextTerm)) → printed (Function f lists) ≡ printed_of (TextTerm-F.Function f (map (map printed) lists))
function_printed f lists = ap printed (sym (rolls-Function f lists)) ∙ fold-roll-TextTerm Printed printed_of (TextTerm-F.Function f lists)

pub pool_printed : (ts : List TextTerm) → printed (Pool ts) ≡ printed_of (TextTerm-F.Pool (map printed ts))
pool_printed ts = ap printed (sym (rolls-Pool ts)) ∙ fold-roll-TextTerm Printed printed_of (TextTerm-F.Pool ts)

pub interval_printed : (low high : TextTerm) → printed (Interval low high) ≡ printed_of (TextTerm-F.Interval (printed low) (printed high))
interval_printed low high = ap printed (sym (rolls-Interval low high)) ∙ fold-roll-TextTerm Printed printed_of (TextTerm-F.Interval low high)

pub neg_printed : (t : TextTerm) → printed (Neg t) ≡ printed_of (TextTerm-F.Neg (printed t))
neg_printed t = ap printed (sym (rolls-Neg t)) ∙ fold-roll-TextTerm Printed printed_of (TextTerm-F.Neg t)

pub abs_printed : (t : TextTerm) → printed (Abs t) ≡ printed_of (TextTerm-F.Abs (printed t))
abs_printed t = ap printed (sym (rolls-Abs t)) ∙ fold-roll-TextTerm Printed printed_of (TextTerm-F.Abs t)

pub binary_printed : (op : Op) (left right : TextTerm) → printed (Binary op left right) ≡ printed_of (TextTerm-F.Binary op (printed left) (printed right))
binary_printed op left right = ap printed (sym (rolls-Binary op left right)) ∙ fold-roll-TextTerm Printed printed_of (TextTerm-F.Binary op left right)
