-- The bytes of statements in the order in which they are appended.
use Rattle.std.proofs.Common.{◌≡◌, ℕ, eqb, Bool, false, List, [], ◌∷◌, ◌++◌, map, length, Option, Some, refl, sym, ap, ◌∙◌, append_assoc, append-nil}
use Rattle.std.proofs.lemmas.Simd.{map-map}
use Rattle.ms_text.specs.declared.token.TokenKind.TheVariants.{LeftBrace, RightBrace}
use Rattle.ms_grammar.specs.declared.term.TextTerm.{TextTerm}
use Rattle.ms_grammar.specs.declared.value.Value.{Value}
use Rattle.ms_grammar.specs.declared.statement.TextGuard.{TextGuard}
use Rattle.ms_grammar.specs.declared.statement.TextSet.{TextSet}
use Rattle.ms_grammar.specs.declared.statement.TextAgg.{TextAgg}
use Rattle.ms_grammar.specs.declared.statement.Head.{Head}
use Rattle.ms_grammar.specs.declared.statement.Head.TheVariants.{Atom, Set}
use Rattle.ms_grammar.specs.declared.statement.BodyLit.{BodyLit}
use Rattle.ms_grammar.specs.Words.{name}
use Rattle.ms_grammar.specs.Statements.{function_kind}
use Rattle.ms_ast.specs.Ink.{Ink, word, ink_text, mark, in_parens, sign_text, side_by_side, comma, semicolon_blank, apart}
use Rattle.ms_ast.specs.Terms.{printed, list_ink, term_ink}
use Rattle.ms_ast.specs.Values.{value_ink, function_ink, tuple_inside, is_constant, closing_text}
use Rattle.ms_ast.specs.Statements.{cmp_kind, set_element_ink, agg_element_ink, left_ink, right_ink, in_braces, set_ink, agg_ink, behind_head, rule_ink, params_ink}
use Rattle.ms_ast.proofs.Inks.{ink_text_append, side_text, texts_after}
use Rattle.ms_ast.proofs.TermTexts.{four_appended, in_parens_text}

pub five_appended : (old a b c d e x y z u v w : List ℕ) → a ≡ old ++ x → b ≡ a ++ y → c ≡ b ++ z → d ≡ c ++ u → e ≡ d ++ v → x ++ (y ++ (z ++ (u ++ v))) ≡ w → e ≡ old ++ w
five_appended old a b c d e x y z u v w p q r s t h = four_appended old a b c e x y z (u ++ v) w p q r (t ∙ ap (λ l. l ++ v) s ∙ append_assoc c u v) h

pub three_ink : (xs ys zs : List Ink) → ink_text xs ++ (ink_text ys ++ ink_text zs) ≡ ink_text (xs ++ (ys ++ zs))
three_ink xs ys zs = sym (ink_text_append xs (ys ++ zs) ∙ ap (λ t. ink_text xs ++ t) (ink_text_append ys zs))

-- functions and tuples
tuple_text : (inks : List (List Ink)) → (40 ∷ []) ++ (ink_text (side_by_side comma inks) ++ closing_text [] inks) ≡ ink_text (in_parens (tuple_inside inks))
tuple_text [] = refl
tuple_text (ink ∷ []) =
    ap (λ t. (40 ∷ []) ++ (ink_text t ++ 44 ∷ 41 ∷ [])) (append-nil ink)
    ∙ ap (λ t. (40 ∷ []) ++ t) (sym (append_assoc (ink_text ink) (44 ∷ []) (41 ∷ [])) ∙ ap (λ t. t ++ 41 ∷ []) (sym (ink_text_append ink comma)))
    ∙ in_parens_text (ink ++ comma)
tuple_text (ink ∷ next ∷ more) = in_parens_text (side_by_side comma (ink ∷ next ∷ more))

pub function_text : (f : List ℕ) (vs : List Value) → is_constant f vs ≡ false → f ++ ((40 ∷ []) ++ (ink_text (side_by_side comma (map value_ink vs)) ++ closing_text f (map value_ink vs))) ≡ ink_text (function_ink f (map value_ink vs))
function_text [] vs e = tuple_text (map value_ink vs)
function_text (b ∷ bs) [] e = cc
function_text (b ∷ bs) (v ∷ vs) e = ap (λ t. (b ∷ bs) ++ t) (in_parens_text (side_by_side comma (map value_ink (v ∷ vs))))

names_after : (first : List ℕ) (ns : List (List ℕ)) → texts_after first (44 ∷ []) (map (λ n. n) ns) ≡ texts_after first (44 ∷ []) (map (λ n. ink_text (word (name n) ∷ [])) ns)
names_after first [] = refl
names_after first (n ∷ ns) = ap (λ t. first ++ (n ++ t)) (names_after (44 ∷ []) ns) ∙ ap (λ m. first ++ (m ++ texts_after (44 ∷ []) (44 ∷ []) (map (λ n. ink_text (word (name n) ∷ [])) ns))) (sym (append-nil n))

pub names_text : (ns : List (List ℕ)) → texts_after [] (44 ∷ []) (map (λ n. n) ns) ≡ ink_text (side_by_side comma (map (λ n. word (name n) ∷ []) ns))
names_text ns = names_after [] ns ∙ sym (side_text comma (λ n. word (name n) ∷ []) ns)

pub left_text : (g : Option TextGuard) (h : TextGuard) → g ≡ Some h → ink_text (term_ink h.bound) ++ ink_text (apart (cmp_kind h.cmp)) ≡ ink_text (left_ink g)
left_text g h e = sym (ink_text_append (term_ink h.bound) (apart (cmp_kind h.cmp))) ∙ ap (λ o. ink_text (left_ink o)) (sym e)

braces_text : (inks : List (List Ink)) (right : List Ink) → (123 ∷ []) ++ (ink_text (side_by_side semicolon_blank inks) ++ ((125 ∷ []) ++ ink_text right)) ≡ ink_text (in_braces inks ++ right)
braces_text inks right =
    ap (λ t. 123 ∷ t) (sym (ink_text_append (side_by_side semicolon_blank inks ++ mark RightBrace ∷ []) right
    ∙ ap (λ t. t ++ ink_text right) (ink_text_append (side_by_side semicolon_blank inks) (mark RightBrace ∷ []))
    ∙ append_assoc (ink_text (side_by_side semicolon_blank inks)) (125 ∷ []) (ink_text right)))

pub set_text : (s : TextSet) → ink_text (left_ink s.left) ++ ((123 ∷ []) ++ (ink_text (side_by_side semicolon_blank (map set_element_ink s.elements)) ++ ((125 ∷ []) ++ ink_text (right_ink s.right)))) ≡ ink_text (set_ink s)
set_text s =
    ap (λ t. ink_text (left_ink s.left) ++ t) (braces_text (map set_element_ink s.elements) (right_ink s.right))
    ∙ sym (ink_text_append (left_ink s.left) (in_braces (map set_element_ink s.elements) ++ right_ink s.right))

pub agg_text : (a : TextAgg) (opening : List ℕ) → opening ≡ ink_text (mark (function_kind a.function) ∷ mark LeftBrace ∷ [])
    → ink_text (left_ink a.left) ++ (opening ++ (ink_text (side_by_side semicolon_blank (map agg_element_ink a.elements)) ++ ((125 ∷ []) ++ ink_text (right_ink a.right)))) ≡ ink_text (agg_ink a)
agg_text a opening e =
    let inks : List (List Ink) = map agg_element_ink a.elements in
    let right : List Ink = right_ink a.right in
    ap (λ o. ink_text (left_ink a.left) ++ (o ++ (ink_text (side_by_side semicolon_blank inks) ++ ((125 ∷ []) ++ ink_text right)))) e
    ∙ ap (λ t. ink_text (left_ink a.left) ++ t)
    (append_assoc (sign_text (function_kind a.function)) (123 ∷ []) (ink_text (side_by_side semicolon_blank inks) ++ ((125 ∷ []) ++ ink_text right))
    ∙ ap (λ t. sign_text (function_kind a.function) ++ t) (braces_text inks right))
    ∙ sym (ink_text_append (left_ink a.left) (mark (function_kind a.function) ∷ (in_braces inks ++ right)))

pub tuple_ink : (ts : List TextTerm) → list_ink (map printed ts) ≡ side_by_side comma (map term_ink ts)
tuple_ink ts = ap (side_by_side comma) (map-map (λ p. p.ink) printed ts)

pub atom_rule_text : (head : Head) (t : TextTerm) (body : List BodyLit) → head ≡ Atom t → ink_text (term_ink t) ++ ink_text (behind_head body) ≡ ink_text (rule_ink head body)
atom_rule_text head t body e = sym (ink_text_append (term_ink t) (behind_head body)) ∙ ap (λ h. ink_text (rule_ink h body)) (sym e)

pub set_rule_text : (head : Head) (s : TextSet) (body : List BodyLit) → head ≡ Set s → ink_text (set_ink s) ++ ink_text (behind_head body) ≡ ink_text (rule_ink head body)
set_rule_text head s body e = sym (ink_text_append (set_ink s) (behind_head body)) ∙ ap (λ h. ink_text (rule_ink h body)) (sym e)

pub params_text : (ps : List (List ℕ)) (b : Bool) → b ≡ eqb (length ps) 0 → b ≡ false → (40 ∷ []) ++ (ink_text (side_by_side comma (map (λ n. word (name n) ∷ []) ps)) ++ 41 ∷ []) ≡ ink_text (params_ink ps)
params_text [] b e f = cc
params_text (p ∷ ps) b e f = in_parens_text (side_by_side comma (map (λ n. word (name n) ∷ []) (p ∷ ps)))
