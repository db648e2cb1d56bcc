-- The bytes of terms in the order in which they are appended.
use Rattle.std.proofs.Common.{◌≡◌, ℕ, zero, suc, eqb, ◌≤◌, ◌<◌, Bool, true, false, nat_le, List, [], ◌∷◌, ◌++◌, map, length, get_or, refl, sym, ap, ◌∙◌, subst, arith, append_assoc, append-nil}
use Rattle.std.proofs.lemmas.Simd.{map-map}
use Rattle.ms_text.specs.declared.token.TokenKind.TheVariants.{DotDot, RightParen, Bar}
use Rattle.ms_tree.specs.declared.op.Op.{Op}
use Rattle.ms_grammar.specs.declared.term.TextTerm.{TextTerm, Pool, Interval, Neg, Abs, Binary}
use Rattle.ms_grammar.specs.Words.{name}
use Rattle.ms_ast.specs.declared.line.Line.{Line}
use Rattle.ms_ast.specs.declared.line.Line.TheVariants.{Sum, Unary}
use Rattle.ms_ast.specs.Ink.{Ink, word, ink_text, mark, in_parens, sign_text, side_by_side, comma, semicolon}
use Rattle.ms_ast.specs.Terms.{Printed, printed, depth, at_line, list_ink, lists_ink, alternatives_ink, tuple, tuple_inside, named, are_no_arguments, function, op_kind, op_line, right_line}
use Rattle.ms_ast.proofs.Inks.{ink_text_append, side_text, texts_after}
use Rattle.ms_ast.proofs.Printing.{pool_printed, interval_printed, neg_printed, abs_printed, binary_printed}

-- texts that were appended one after the other
pub two_appended : (old a b x y w : List ℕ) → a ≡ old ++ x → b ≡ a ++ y → x ++ y ≡ w → b ≡ old ++ w
two_appended old a b x y w e f g = f ∙ ap (λ t. t ++ y) e ∙ append_assoc old x y ∙ ap (λ t. old ++ t) g

pub three_appended : (old a b c x y z w : List ℕ) → a ≡ old ++ x → b ≡ a ++ y → c ≡ b ++ z → x ++ (y ++ z) ≡ w → c ≡ old ++ w
three_appended old a b c x y z w e f g h = two_appended old a c x (y ++ z) w e (g ∙ ap (λ t. t ++ z) f ∙ append_assoc a y z) h

pub four_appended : (old a b c d x y z v w : List ℕ) → a ≡ old ++ x → b ≡ a ++ y → c ≡ b ++ z → d ≡ c ++ v → x ++ (y ++ (z ++ v)) ≡ w → d ≡ old ++ w
four_appended old a b c d x y z v w e f g h i = three_appended old a b d x y (z ++ v) w e f (h ∙ ap (λ t. t ++ v) g ∙ append_assoc b z v) i

pub some_from_test : (n : ℕ) (b : Bool) → b ≡ eqb n 0 → b ≡ false → 0 < n
some_from_test zero b e f = cc
some_from_test (suc n) b e f = omega arith

pub in_parens_text : (ink : List Ink) → (40 ∷ []) ++ (ink_text ink ++ 41 ∷ []) ≡ ink_text (in_parens ink)
in_parens_text ink = ap (λ t. 40 ∷ t) (sym (ink_text_append ink (mark RightParen ∷ [])))

pub pool_text : (t : TextTerm) (ts : List TextTerm) → t ≡ Pool ts → (40 ∷ []) ++ (ink_text (alternatives_ink (map printed ts)) ++ 41 ∷ []) ≡ ink_text (printed t).ink
pool_text t ts e = in_parens_text (alternatives_ink (map printed ts)) ∙ ap (λ p. ink_text p.ink) (sym (ap printed e ∙ pool_printed ts))

pub interval_text : (t low high : TextTerm) → t ≡ Interval low high → ink_text (at_line Sum (printed low)) ++ ((46 ∷ 46 ∷ []) ++ ink_text (at_line Sum (printed high))) ≡ ink_text (printed t).ink
interval_text t low high e = sym (ink_text_append (at_line Sum (printed low)) (mark DotDot ∷ at_line Sum (printed high))) ∙ ap (λ p. ink_text p.ink) (sym (ap printed e ∙ interval_printed low high))

pub neg_text : (t of : TextTerm) → t ≡ Neg of → (45 ∷ []) ++ ink_text (at_line Unary (printed of)) ≡ ink_text (printed t).ink
neg_text t of e = ap (λ p. ink_text p.ink) (sym (ap printed e ∙ neg_printed of))

pub abs_text : (t of : TextTerm) → t ≡ Abs of → (124 ∷ []) ++ (ink_text (at_line Sum (printed of)) ++ 124 ∷ []) ≡ ink_text (printed t).ink
abs_text t of e = ap (λ u. 124 ∷ u) (sym (ink_text_append (at_line Sum (printed of)) (mark Bar ∷ []))) ∙ ap (λ p. ink_text p.ink) (sym (ap printed e ∙ abs_printed of))

pub binary_text : (t left right : TextTerm) (op : Op) (b : ℕ) → t ≡ Binary op left right → b ∷ [] ≡ sign_text (op_kind op) → ink_text (at_line (op_line op) (printed left)) ++ ((b ∷ []) ++ ink_text (at_line (right_line op) (printed right))) ≡ ink_text (printed t).ink
binary_text t left right op b e f =
    ap (λ s. ink_text (at_line (op_line op) (printed left)) ++ (s ++ ink_text (at_line (right_line op) (printed right)))) f
    ∙ sym (ink_text_append (at_line (op_line op) (printed left)) (mark (op_kind op) ∷ at_line (right_line op) (printed right)))
    ∙ ap (λ p. ink_text p.ink) (sym (ap printed e ∙ binary_printed op left right))

at_line_parens : (line : Line) (p : Printed) (b : Bool) → nat_le (depth line) (depth p.line) ≡ b → b ≡ false → at_line line p ≡ in_parens p.inside
at_line_parens line p b e f = rw (e ∙ f) refl

pub parens_text : (line own : Line) (p : Printed) (b : Bool) → own ≡ p.line → b ≡ nat_le (depth line) (depth own) → b ≡ false → (40 ∷ []) ++ (ink_text p.inside ++ 41 ∷ []) ≡ ink_text (at_line line p)
parens_text line own p b is e f =
    in_parens_text p.inside ∙ ap ink_text (sym (at_line_parens line p b (ap (λ l. nat_le (depth line) (depth l)) (sym is) ∙ sym e) f))

tuple_in_parens : (lists : List (List Printed)) → in_parens (tuple lists).inside ≡ (tuple lists).ink
tuple_in_parens [] = refl
tuple_in_parens (list ∷ lists) = refl

pub tuple_text : (f : List ℕ) (lists : List (List Printed)) → length f ≡ 0 → (40 ∷ []) ++ (ink_text (tuple lists).inside ++ 41 ∷ []) ≡ ink_text (function f lists).ink
tuple_text [] lists e = in_parens_text (tuple lists).inside ∙ ap ink_text (tuple_in_parens lists)
tuple_text (b ∷ bs) lists e = absurd (omega arith)

pub no_arguments_map : {A B : Type 0} (g : A → B) (lists : List (List A)) → are_no_arguments (map (map g) lists) ≡ are_no_arguments lists
no_arguments_map g [] = refl
no_arguments_map g ([] ∷ []) = refl
no_arguments_map g ([] ∷ list ∷ lists) = refl
no_arguments_map g ((x ∷ xs) ∷ lists) = refl

pub named_with_arguments : (f : List ℕ) (lists : List (List Printed)) → are_no_arguments lists ≡ false → named f lists ≡ word (name f) ∷ in_parens (lists_ink lists)
named_with_arguments f [] e = refl
named_with_arguments f ([] ∷ []) e = cc
named_with_arguments f ([] ∷ list ∷ lists) e = refl
named_with_arguments f ((x ∷ xs) ∷ lists) e = refl

named_without_arguments : (f : List ℕ) (lists : List (List Printed)) → are_no_arguments lists ≡ true → named f lists ≡ word (name f) ∷ []
named_without_arguments f [] e = cc
named_without_arguments f ([] ∷ []) e = refl
named_without_arguments f ([] ∷ list ∷ lists) e = cc
named_without_arguments f ((x ∷ xs) ∷ lists) e = cc

pub applied_text : (f : List ℕ) (lists : List (List TextTerm)) → 0 < length f → are_no_arguments lists ≡ false → f ++ ((40 ∷ []) ++ (ink_text (lists_ink (map (map printed) lists)) ++ 41 ∷ [])) ≡ ink_text (function f (map (map printed) lists)).ink
applied_text [] lists some e = absurd (omega arith)
applied_text (b ∷ bs) lists some e =
    ap (λ t. (b ∷ bs) ++ t) (in_parens_text (lists_ink (map (map printed) lists)))
    ∙ ap ink_text (sym (named_with_arguments (b ∷ bs) (map (map printed) lists) (no_arguments_map printed lists ∙ e)))

pub constant_text : (f : List ℕ) (lists : List (List TextTerm)) → 0 < length f → are_no_arguments lists ≡ true → f ≡ ink_text (function f (map (map printed) lists)).ink
constant_text [] lists some e = absurd (omega arith)
constant_text (b ∷ bs) lists some e =
    sym (append-nil (b ∷ bs))
    ∙ ap ink_text (sym (named_without_arguments (b ∷ bs) (map (map printed) lists) (no_arguments_map printed lists ∙ e)))

pub one_tuple_text : (lists : List (List TextTerm)) (list : List TextTerm) → 1 ≤ length lists → list ≡ get_or lists 0 list → length list ≡ 1 → ink_text (list_ink (map printed list)) ++ 44 ∷ [] ≡ ink_text (tuple (map (map printed) lists)).inside
one_tuple_text [] list some e one = absurd (omega arith)
one_tuple_text (us ∷ lists) [] some e one = absurd (omega arith)
one_tuple_text (us ∷ lists) (t ∷ u ∷ ts) some e one = absurd (omega arith)
one_tuple_text (us ∷ lists) (t ∷ []) some e one =
    subst (λ vs. ink_text (list_ink (map printed (t ∷ []))) ++ 44 ∷ [] ≡ ink_text (tuple_inside (map printed vs))) e
    (ap (λ s. s ++ 44 ∷ []) (ap ink_text (append-nil (printed t).ink)) ∙ sym (ink_text_append (printed t).ink comma))

-- lists of terms as their loops append them
pub list_text : (ts : List TextTerm) → texts_after [] (44 ∷ []) (map (λ t. ink_text (printed t).ink) ts) ≡ ink_text (list_ink (map printed ts))
list_text ts = sym (ap (λ inks. ink_text (side_by_side comma inks)) (map-map (λ p. p.ink) printed ts) ∙ side_text comma (λ t. (printed t).ink) ts)

pub alternatives_text : (ts : List TextTerm) → texts_after [] (59 ∷ []) (map (λ t. ink_text (printed t).inside) ts) ≡ ink_text (alternatives_ink (map printed ts))
alternatives_text ts = sym (ap (λ inks. ink_text (side_by_side semicolon inks)) (map-map (λ p. p.inside) printed ts) ∙ side_text semicolon (λ t. (printed t).inside) ts)

pub lists_text : (lists : List (List TextTerm)) → texts_after [] (59 ∷ []) (map (λ ts. ink_text (list_ink (map printed ts))) lists) ≡ ink_text (lists_ink (map (map printed) lists))
lists_text lists = sym (ap (λ inks. ink_text (side_by_side semicolon inks)) (map-map list_ink (map printed) lists) ∙ side_text semicolon (λ ts. list_ink (map printed ts)) lists)
