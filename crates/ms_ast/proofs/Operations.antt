-- Numbers, names and operations as they are printed.
use Rattle.std.proofs.Common.{◌≡◌, ℕ, suc, ◌≤◌, ◌^◌, pos, neg_ℤ, max, ◌*◌, nat_le, List, [], ◌∷◌, ◌++◌, Option, Some, None, refl, sym, ap, ◌∙◌, arith}
use Rattle.std.specs.Option.{IfSome, option_and_then}
use Rattle.std.proofs.lemmas.Bool.{leb-true}
use Rattle.ms_text.specs.declared.token.TokenKind.TheVariants.{DotDot, Plus, Minus, Star, Slash, Backslash, Bar}
use Rattle.ms_tree.specs.declared.op.Op.{Op}
use Rattle.ms_tree.specs.declared.op.Op.TheVariants.{Add, Sub, Mul, Div, Rem}
use Rattle.ms_grammar.specs.declared.part.Part.{Part}
use Rattle.ms_grammar.specs.declared.term.TextTerm.{Number, Text, Function, Interval as interval_term, Neg, Abs, Binary}
use Rattle.ms_grammar.specs.Words.{Word, name, number, quoted, sign}
use Rattle.ms_grammar.specs.Terms as g
use Rattle.ms_base.specs.Limits.{most_choices}
use Rattle.ms_grammar.specs.Terms.{greatest_numeral, counted, leaf, round, joined, fitting}
use Rattle.ms_ast.specs.declared.line.Line.TheVariants.{Interval, Sum, Unary, Primary}
use Rattle.ms_ast.specs.Ink.{Ink, word, ink_text, ink_words, mark}
use Rattle.ms_ast.specs.Terms.{printed, on_line, at_line, op_kind, op_line, right_line}
use Rattle.ms_ast.specs.Law.{IsName}
use Rattle.ms_ast.proofs.Inks.{ink_words_append}
use Rattle.ms_ast.proofs.Printing.{number_printed, text_printed, function_printed, interval_printed, neg_printed, abs_printed, binary_printed}
use Rattle.ms_ast.proofs.Apart.{IsSign, Joins, Starts, token, joins_before, behind_sign, sign_starts, nothing_joins, nothing_starts}
use Rattle.ms_ast.proofs.Signs.{dot_dot_sign, minus_sign, bar_sign, op_sign}
use Rattle.ms_ast.proofs.NameTokens.{name_token_of}
use Rattle.ms_ast.proofs.NumberTokens.{number_token_of}
use Rattle.ms_ast.proofs.StringTokens.{string_sign}
use Rattle.ms_ast.proofs.Somes.{kept}
use Rattle.ms_ast.proofs.Lines.{OnLine, ShownAs, IsShown, Few, counted_few, plain_shown, placed, placed_joins, fitting_shown, shown_by}

-- a name or a number before what no name goes on in
pub name_joins : (f : List ℕ) → IsName f → (ink : List Ink) → Starts ink → Joins ink → Joins (word (name f) ∷ ink)
name_joins f n ink s j more free h = token (name_token_of f (ink_text (ink ++ more)) n (s more free)) (j more free h)

pub number_joins : (n : ℕ) → n ≤ suc greatest_numeral → (ink : List Ink) → Starts ink → Joins ink → Joins (word (number n) ∷ ink)
number_joins n small ink s j more free h = token (number_token_of n (ink_text (ink ++ more)) small (s more free)) (j more free h)

-- two with a sign between them
pub joins_between : (xs : List Ink) (w : Word) (ys : List Ink) → IsSign w → Joins xs → Joins ys → Joins (xs ++ word w ∷ ys)
joins_between xs w ys s j k = joins_before xs (word w ∷ ys) j (sign_starts w s ys) (behind_sign w s ys k)

pub sign_joins : (w : Word) → IsSign w → Joins (word w ∷ [])
sign_joins w s = behind_sign w s [] nothing_joins

pub numeral_shown : (n : ℕ) → IfSome (g.primary_part (g.numeral n)) IsShown
numeral_shown n = kept IsShown (nat_le n greatest_numeral) (leaf (Number (pos n))) (λ e low.
    let small : n ≤ greatest_numeral = leb-true n greatest_numeral low in
    shown_by (leaf (Number (pos n))) (on_line Primary (word (number n) ∷ [])) (number_printed (pos n))
    (plain_shown Primary (word (number n) ∷ []) (leaf (Number (pos n))) (record { derivation = g.numeral n; words_are = refl; spells = e }) (omega arith)
    (number_joins n (omega arith) [] nothing_starts nothing_joins)))

pub least_shown : IfSome (g.unary_part g.least) IsShown
least_shown =
    shown_by (leaf (Number (neg_ℤ (pos (2 ^ 63))))) (on_line Unary (mark Minus ∷ word (number (2 ^ 63)) ∷ [])) (number_printed (neg_ℤ (pos (2 ^ 63))))
    (plain_shown Unary (mark Minus ∷ word (number (2 ^ 63)) ∷ []) (leaf (Number (neg_ℤ (pos (2 ^ 63))))) (record { derivation = g.least; words_are = refl; spells = refl }) (omega arith)
    (behind_sign (sign Minus) minus_sign (word (number (2 ^ 63)) ∷ []) (number_joins (2 ^ 63) (omega arith) [] nothing_starts nothing_joins)))

pub string_shown : (s : List ℕ) → IfSome (g.primary_part (g.string s)) IsShown
string_shown s =
    shown_by (leaf (Text s)) (on_line Primary (word (quoted s) ∷ [])) (text_printed s)
    (plain_shown Primary (word (quoted s) ∷ []) (leaf (Text s)) (record { derivation = g.string s; words_are = refl; spells = refl }) (omega arith) (sign_joins (quoted s) (string_sign s)))

pub constant_shown : (f : List ℕ) → IsName f → IsShown (leaf (Function f ([] ∷ [])))
constant_shown [] n = let none : ◌≡◌ {A = Option ℕ} None (Some 0) = n.all_of_it in cc
constant_shown (b ∷ bs) n =
    shown_by (leaf (Function (b ∷ bs) ([] ∷ []))) (on_line Primary (word (name (b ∷ bs)) ∷ [])) (function_printed (b ∷ bs) ([] ∷ []))
    (plain_shown Primary (word (name (b ∷ bs)) ∷ []) (leaf (Function (b ∷ bs) ([] ∷ []))) (record { derivation = g.constant (b ∷ bs); words_are = refl; spells = refl }) (omega arith)
    (name_joins (b ∷ bs) n [] nothing_starts nothing_joins))

pub interval_shown : (p q : Part) → IsShown p → IsShown q → IfSome (joined interval_term p q) IsShown
interval_shown p q s t =
    let r : Part = record { term = interval_term p.term q.term; height = suc (max p.height q.height); choices = counted (p.choices * q.choices) } in
    let xs : List Ink = at_line Sum (printed p.term) in
    let ys : List Ink = at_line Sum (printed q.term) in
    let low : OnLine Sum (ink_words xs) p = placed Sum (printed p.term) p s in
    let high : OnLine Sum (ink_words ys) q = placed Sum (printed q.term) q t in
    fitting_shown r (on_line Interval (xs ++ mark DotDot ∷ ys)) (interval_printed p.term q.term) (λ e.
    plain_shown Interval (xs ++ mark DotDot ∷ ys) r
    (record {
      derivation = g.interval low.derivation high.derivation;
      words_are = (λ i. low.words_are i ++ sign DotDot ∷ high.words_are i) ∙ sym (ink_words_append xs (mark DotDot ∷ ys));
      spells = (λ i. g.both (joined interval_term) (low.spells i) (high.spells i)) ∙ e;
    })
    (counted_few (p.choices * q.choices))
    (joins_between xs (sign DotDot) ys dot_dot_sign (placed_joins Sum (printed p.term) p s) (placed_joins Sum (printed q.term) q t)))

binary_written : (op : Op) (ws vs : List Word) (p q r : Part) → OnLine (op_line op) ws p → OnLine (right_line op) vs q → joined (Binary op) p q ≡ Some r → OnLine (op_line op) (ws ++ sign (op_kind op) ∷ vs) r
binary_written Add ws vs p q r a b e = record { derivation = g.plus a.derivation b.derivation; words_are = λ i. a.words_are i ++ sign Plus ∷ b.words_are i; spells = (λ i. g.both (joined (Binary Add)) (a.spells i) (b.spells i)) ∙ e }
binary_written Sub ws vs p q r a b e = record { derivation = g.minus a.derivation b.derivation; words_are = λ i. a.words_are i ++ sign Minus ∷ b.words_are i; spells = (λ i. g.both (joined (Binary Sub)) (a.spells i) (b.spells i)) ∙ e }
binary_written Mul ws vs p q r a b e = record { derivation = g.times a.derivation b.derivation; words_are = λ i. a.words_are i ++ sign Star ∷ b.words_are i; spells = (λ i. g.both (joined (Binary Mul)) (a.spells i) (b.spells i)) ∙ e }
binary_written Div ws vs p q r a b e = record { derivation = g.over a.derivation b.derivation; words_are = λ i. a.words_are i ++ sign Slash ∷ b.words_are i; spells = (λ i. g.both (joined (Binary Div)) (a.spells i) (b.spells i)) ∙ e }
binary_written Rem ws vs p q r a b e = record { derivation = g.modulo a.derivation b.derivation; words_are = λ i. a.words_are i ++ sign Backslash ∷ b.words_are i; spells = (λ i. g.both (joined (Binary Rem)) (a.spells i) (b.spells i)) ∙ e }

on_its_line : (op : Op) (ink : List Ink) (p : Part) → OnLine (op_line op) (ink_words ink) p → Few p.choices → Joins ink → ShownAs (on_line (op_line op) ink) p
on_its_line op ink p s few j = plain_shown (op_line op) ink p s few j

pub binary_shown : (op : Op) (p q : Part) → IsShown p → IsShown q → IfSome (joined (Binary op) p q) IsShown
binary_shown op p q s t =
    let r : Part = record { term = Binary op p.term q.term; height = suc (max p.height q.height); choices = counted (p.choices * q.choices) } in
    let xs : List Ink = at_line (op_line op) (printed p.term) in
    let ys : List Ink = at_line (right_line op) (printed q.term) in
    fitting_shown r (on_line (op_line op) (xs ++ mark (op_kind op) ∷ ys)) (binary_printed op p.term q.term) (λ e.
    plain_shown (op_line op) (xs ++ mark (op_kind op) ∷ ys) r
    (rw (ink_words_append xs (mark (op_kind op) ∷ ys)) (binary_written op (ink_words xs) (ink_words ys) p q r (placed (op_line op) (printed p.term) p s) (placed (right_line op) (printed q.term) q t) e))
    (counted_few (p.choices * q.choices))
    (joins_between xs (sign (op_kind op)) ys (op_sign op) (placed_joins (op_line op) (printed p.term) p s) (placed_joins (right_line op) (printed q.term) q t)))

pub neg_shown : (p : Part) → IsShown p → IfSome (round Neg p) IsShown
neg_shown p s =
    let r : Part = record { term = Neg p.term; height = suc p.height; choices = p.choices } in
    let xs : List Ink = at_line Unary (printed p.term) in
    let of : OnLine Unary (ink_words xs) p = placed Unary (printed p.term) p s in
    fitting_shown r (on_line Unary (mark Minus ∷ xs)) (neg_printed p.term) (λ e.
    plain_shown Unary (mark Minus ∷ xs) r
    (record { derivation = g.negative of.derivation; words_are = ap (λ ws. sign Minus ∷ ws) of.words_are; spells = ap (option_and_then (round Neg)) of.spells ∙ e })
    s.few
    (behind_sign (sign Minus) minus_sign xs (placed_joins Unary (printed p.term) p s)))

pub abs_shown : (p : Part) → IsShown p → IfSome (round Abs p) IsShown
abs_shown p s =
    let r : Part = record { term = Abs p.term; height = suc p.height; choices = p.choices } in
    let xs : List Ink = at_line Sum (printed p.term) in
    let of : OnLine Sum (ink_words xs) p = placed Sum (printed p.term) p s in
    fitting_shown r (on_line Primary (mark Bar ∷ xs ++ mark Bar ∷ [])) (abs_printed p.term) (λ e.
    plain_shown Primary (mark Bar ∷ xs ++ mark Bar ∷ []) r
    (record {
      derivation = g.absolute of.derivation;
      words_are = ap (λ ws. sign Bar ∷ (ws ++ sign Bar ∷ [])) of.words_are ∙ sym (ap (λ ws. sign Bar ∷ ws) (ink_words_append xs (mark Bar ∷ [])));
      spells = ap (option_and_then (round Abs)) of.spells ∙ e;
    })
    s.few
    (behind_sign (sign Bar) bar_sign (xs ++ mark Bar ∷ []) (joins_between xs (sign Bar) [] bar_sign (placed_joins Sum (printed p.term) p s) nothing_joins)))
