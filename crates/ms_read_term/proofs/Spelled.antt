-- What words are spelled by: the lines of the grammar, as they are put together.
use Rattle.std.proofs.Common.{◌≡◌, ℕ, zero, suc, ◌^◌, nat_le, pos, neg_ℤ, true, List, [], ◌∷◌, ◌++◌, Option, Some, None, refl, ap, sym, ◌∙◌, append_assoc, if◌then◌else◌}
use Rattle.std.specs.Option.{option_map, option_and_then}
use Rattle.ms_tree.specs.declared.op.Op.TheVariants.{Add, Sub, Mul, Div, Rem}
use Rattle.ms_text.specs.declared.token.TokenKind.{TokenKind}
use Rattle.ms_text.specs.declared.token.TokenKind.TheVariants.{DotDot, Comma, Semicolon, LeftParen, RightParen, Plus as PlusToken, Minus as MinusToken, Star, Slash, Backslash, Bar as BarToken}
use Rattle.ms_grammar.specs.declared.term.TextTerm.{Number, Text, Function, Interval, Neg, Abs, Binary}
use Rattle.ms_grammar.specs.declared.part.Part.{Part}
use Rattle.ms_grammar.specs.declared.part.Row.{Row}
use Rattle.ms_grammar.specs.declared.part.Rows.{Rows}
use Rattle.ms_grammar.specs.Words.{Word, name, number, quoted, sign}
use Rattle.ms_grammar.specs.Terms.{single, interval, product, plus, minus, unary, times, over, modulo, primary, negative, least, numeral, string, constant, function, parenthesis, absolute, one_list, or_list, no_arguments, arguments, one_term, and_term, one_tuple, or_tuple, empty_tuple, tuple, tuple_comma, term_words, sum_words, product_words, unary_words, primary_words, lists_words, arguments_words, terms_words, tuples_words, tuple_words, term_part, sum_part, product_part, unary_part, primary_part, lists_rows, arguments_row, terms_row, tuples_row, tuple_part, leaf, round, joined, with_term, no_terms, only_list, with_list, named, tuple_of, grouped, pooled, with_alternative, no_alternative, both, greatest_numeral}
use Rattle.ms_read_term.specs.declared.level.SumSign.{SumSign}
use Rattle.ms_read_term.specs.declared.level.SumSign.TheVariants.{Plus, Minus}
use Rattle.ms_read_term.specs.declared.level.ProductSign.{ProductSign}
use Rattle.ms_read_term.specs.declared.level.ProductSign.TheVariants.{Times, Over, Modulo}
use Rattle.ms_read_term.specs.declared.level.PendingSum.{PendingSum}
use Rattle.ms_read_term.specs.declared.level.PendingProduct.{PendingProduct}
use Rattle.ms_read_term.specs.Closing.{negated, op_of_sum, op_of_product, with_product, with_sum, with_low}
use Rattle.ms_read_term.specs.Brackets.{row_so_far, with_row, alternatives_so_far}
use Rattle.ms_read_term.proofs.Running.{then_some}

-- A derivation shows that the words up to some rest spell a value.
pub record Spells {D V : Type 0} (words : D → List Word) (spelled : D → Option V) (value : V) (from to : List Word) : Type 0 where
  pub derivation : D
  pub words_are : from ≡ words derivation ++ to
  pub spells : spelled derivation ≡ Some value

abbrev pub SpellsPrimary : Part → List Word → List Word → Type 0
SpellsPrimary p from to = Spells primary_words primary_part p from to

abbrev pub SpellsUnary : Part → List Word → List Word → Type 0
SpellsUnary p from to = Spells unary_words unary_part p from to

abbrev pub SpellsProduct : Part → List Word → List Word → Type 0
SpellsProduct p from to = Spells product_words product_part p from to

abbrev pub SpellsSum : Part → List Word → List Word → Type 0
SpellsSum p from to = Spells sum_words sum_part p from to

abbrev pub SpellsTerm : Part → List Word → List Word → Type 0
SpellsTerm p from to = Spells term_words term_part p from to

abbrev pub SpellsTerms : Row → List Word → List Word → Type 0
SpellsTerms row from to = Spells terms_words terms_row row from to

abbrev pub SpellsArguments : Row → List Word → List Word → Type 0
SpellsArguments row from to = Spells arguments_words arguments_row row from to

abbrev pub SpellsLists : Rows → List Word → List Word → Type 0
SpellsLists rows from to = Spells lists_words lists_rows rows from to

abbrev pub SpellsTuple : Part → List Word → List Word → Type 0
SpellsTuple p from to = Spells tuple_words tuple_part p from to

abbrev pub SpellsTuples : Row → List Word → List Word → Type 0
SpellsTuples row from to = Spells tuples_words tuples_row row from to

pub both_of : {A B C : Type 0} (f : A → B → Option C) (a : Option A) (b : Option B) (x : A) (y : B) (z : C) → a ≡ Some x → b ≡ Some y → f x y ≡ Some z → both f a b ≡ Some z
both_of f a b x y z e h j = ap (λ o. both f o b) e ∙ ap (λ o. both f (Some x) o) h ∙ j

-- words with a word between them
between : (a b c x y : List Word) (w : Word) → a ≡ x ++ w ∷ b → b ≡ y ++ c → a ≡ (x ++ w ∷ y) ++ c
between a b c x y w e h = e ∙ ap (λ ws. x ++ w ∷ ws) h ∙ sym (append_assoc x (w ∷ y) c)

pub unary_of_primary : (p : Part) (a b : List Word) → SpellsPrimary p a b → SpellsUnary p a b
unary_of_primary p a b r = record { derivation = primary r.derivation; words_are = r.words_are; spells = r.spells }

negative_unary : (p q : Part) (a b : List Word) → SpellsUnary p a b → round Neg p ≡ Some q → SpellsUnary q (sign MinusToken ∷ a) b
negative_unary p q a b r e = record { derivation = negative r.derivation; words_are = ap (λ ws. sign MinusToken ∷ ws) r.words_are; spells = ap (option_and_then (round Neg)) r.spells ∙ e }

-- So many minuses stand between two places.
abbrev pub Minuses : ℕ → List Word → List Word → Type 0
Minuses zero a b = a ≡ b
Minuses (suc n) a b = Minuses n a (sign MinusToken ∷ b)

-- a part behind its minuses
pub minuses_spelled : (m : ℕ) (p q : Part) (a b c : List Word) → Minuses m a b → SpellsUnary p b c → negated m p ≡ Some q → SpellsUnary q a c
minuses_spelled zero p q a b c h r e = record { derivation = r.derivation; words_are = h ∙ r.words_are; spells = r.spells ∙ e }
minuses_spelled (suc m) p q a b c h r e =
    let t = then_some (negated m) (round Neg p) q e in
    minuses_spelled m t.from q a (sign MinusToken ∷ b) c h (negative_unary p t.from b c r t.from_is) t.made_is

abbrev pub kind_of_product : ProductSign → TokenKind
kind_of_product Times = Star
kind_of_product Over = Slash
kind_of_product Modulo = Backslash

abbrev pub kind_of_sum : SumSign → TokenKind
kind_of_sum Plus = PlusToken
kind_of_sum Minus = MinusToken

-- What stands between two places is a product with its operator, if one is pending.
abbrev pub ProductStands : Option PendingProduct → List Word → List Word → Type 0
ProductStands None a b = a ≡ b
ProductStands (Some left) a b = SpellsProduct left.part a (sign (kind_of_product left.sign) ∷ b)

abbrev pub SumStands : Option PendingSum → List Word → List Word → Type 0
SumStands None a b = a ≡ b
SumStands (Some left) a b = SpellsSum left.part a (sign (kind_of_sum left.sign) ∷ b)

abbrev pub LowStands : Option Part → List Word → List Word → Type 0
LowStands None a b = a ≡ b
LowStands (Some low) a b = SpellsSum low a (sign DotDot ∷ b)

product_joins : (op : ProductSign) (p q r : Part) (a b c : List Word) → SpellsProduct p a (sign (kind_of_product op) ∷ b) → SpellsUnary q b c → joined (Binary (op_of_product op)) p q ≡ Some r → SpellsProduct r a c
product_joins Times p q r a b c l u e = record { derivation = times l.derivation u.derivation; words_are = between a b c (product_words l.derivation) (unary_words u.derivation) (sign Star) l.words_are u.words_are; spells = both_of (joined (Binary Mul)) _ _ p q r l.spells u.spells e }
product_joins Over p q r a b c l u e = record { derivation = over l.derivation u.derivation; words_are = between a b c (product_words l.derivation) (unary_words u.derivation) (sign Slash) l.words_are u.words_are; spells = both_of (joined (Binary Div)) _ _ p q r l.spells u.spells e }
product_joins Modulo p q r a b c l u e = record { derivation = modulo l.derivation u.derivation; words_are = between a b c (product_words l.derivation) (unary_words u.derivation) (sign Backslash) l.words_are u.words_are; spells = both_of (joined (Binary Rem)) _ _ p q r l.spells u.spells e }

sum_joins : (op : SumSign) (p q r : Part) (a b c : List Word) → SpellsSum p a (sign (kind_of_sum op) ∷ b) → SpellsProduct q b c → joined (Binary (op_of_sum op)) p q ≡ Some r → SpellsSum r a c
sum_joins Plus p q r a b c l u e = record { derivation = plus l.derivation u.derivation; words_are = between a b c (sum_words l.derivation) (product_words u.derivation) (sign PlusToken) l.words_are u.words_are; spells = both_of (joined (Binary Add)) _ _ p q r l.spells u.spells e }
sum_joins Minus p q r a b c l u e = record { derivation = minus l.derivation u.derivation; words_are = between a b c (sum_words l.derivation) (product_words u.derivation) (sign MinusToken) l.words_are u.words_are; spells = both_of (joined (Binary Sub)) _ _ p q r l.spells u.spells e }

pub product_spelled : (left : Option PendingProduct) (p q : Part) (a b c : List Word) → ProductStands left a b → SpellsUnary p b c → with_product left p ≡ Some q → SpellsProduct q a c
product_spelled None p q a b c h u e = record { derivation = unary u.derivation; words_are = h ∙ u.words_are; spells = u.spells ∙ e }
product_spelled (Some left) p q a b c h u e = product_joins left.sign left.part p q a b c h u e

pub sum_spelled : (left : Option PendingSum) (p q : Part) (a b c : List Word) → SumStands left a b → SpellsProduct p b c → with_sum left p ≡ Some q → SpellsSum q a c
sum_spelled None p q a b c h u e = record { derivation = product u.derivation; words_are = h ∙ u.words_are; spells = u.spells ∙ e }
sum_spelled (Some left) p q a b c h u e = sum_joins left.sign left.part p q a b c h u e

pub term_spelled : (low : Option Part) (p q : Part) (a b c : List Word) → LowStands low a b → SpellsSum p b c → with_low low p ≡ Some q → SpellsTerm q a c
term_spelled None p q a b c h s e = record { derivation = single s.derivation; words_are = h ∙ s.words_are; spells = s.spells ∙ e }
term_spelled (Some low) p q a b c h s e = record { derivation = interval h.derivation s.derivation; words_are = between a b c (sum_words h.derivation) (sum_words s.derivation) (sign DotDot) h.words_are s.words_are; spells = both_of (joined Interval) _ _ low p q h.spells s.spells e }

-- What stands between two places is terms, each with a comma.
abbrev pub RowStands : Option Row → List Word → List Word → Type 0
RowStands None a b = a ≡ b
RowStands (Some row) a b = SpellsTerms row a (sign Comma ∷ b)

abbrev pub ListsStand : Option Rows → List Word → List Word → Type 0
ListsStand None a b = a ≡ b
ListsStand (Some rows) a b = SpellsLists rows a (sign Semicolon ∷ b)

abbrev pub AlternativesStand : Option Row → List Word → List Word → Type 0
AlternativesStand None a b = a ≡ b
AlternativesStand (Some row) a b = SpellsTuples row a (sign Semicolon ∷ b)

pub row_grows : (row : Option Row) (t : Part) (a b c : List Word) → RowStands row a b → SpellsTerm t b c → SpellsTerms (with_term (row_so_far row) t) a c
row_grows None t a b c h s = record { derivation = one_term s.derivation; words_are = h ∙ s.words_are; spells = ap (option_map (with_term no_terms)) s.spells }
row_grows (Some row) t a b c h s = record { derivation = and_term h.derivation s.derivation; words_are = between a b c (terms_words h.derivation) (term_words s.derivation) (sign Comma) h.words_are s.words_are; spells = both_of (λ r p. Some (with_term r p)) _ _ row t _ h.spells s.spells refl }

pub lists_grow : (lists : Option Rows) (row : Row) (a b c : List Word) → ListsStand lists a b → SpellsArguments row b c → SpellsLists (with_row lists row) a c
lists_grow None row a b c h s = record { derivation = one_list s.derivation; words_are = h ∙ s.words_are; spells = ap (option_map only_list) s.spells }
lists_grow (Some rows) row a b c h s = record { derivation = or_list h.derivation s.derivation; words_are = between a b c (lists_words h.derivation) (arguments_words s.derivation) (sign Semicolon) h.words_are s.words_are; spells = both_of (λ r p. Some (with_list r p)) _ _ rows row _ h.spells s.spells refl }

pub alternatives_grow : (row : Option Row) (p : Part) (a b c : List Word) → AlternativesStand row a b → SpellsTuple p b c → SpellsTuples (with_alternative (alternatives_so_far row) p) a c
alternatives_grow None p a b c h s = record { derivation = one_tuple s.derivation; words_are = h ∙ s.words_are; spells = ap (option_map (with_alternative no_alternative)) s.spells }
alternatives_grow (Some row) p a b c h s = record { derivation = or_tuple h.derivation s.derivation; words_are = between a b c (tuples_words h.derivation) (tuple_words s.derivation) (sign Semicolon) h.words_are s.words_are; spells = both_of (λ r q. Some (with_alternative r q)) _ _ row p _ h.spells s.spells refl }

pub arguments_of_terms : (row : Row) (a b : List Word) → SpellsTerms row a b → SpellsArguments row a b
arguments_of_terms row a b s = record { derivation = arguments s.derivation; words_are = s.words_are; spells = s.spells }

pub arguments_of_none : (a b : List Word) → a ≡ b → SpellsArguments no_terms a b
arguments_of_none a b h = record { derivation = no_arguments; words_are = h; spells = refl }

-- a tuple that ends with a term
pub tuple_of_terms : (row : Row) (p : Part) (a b : List Word) → SpellsTerms row a b → grouped row.terms row ≡ Some p → SpellsTuple p a b
tuple_of_terms row p a b s e = record { derivation = tuple s.derivation; words_are = s.words_are; spells = ap (option_and_then (λ (r : Row). grouped r.terms r)) s.spells ∙ e }

-- a tuple that ends behind its bracket, a `;` or a `,`
pub tuple_of_row : (row : Option Row) (p : Part) (a b : List Word) → RowStands row a b → tuple_of (row_so_far row) ≡ Some p → SpellsTuple p a b
tuple_of_row None p a b h e = record { derivation = empty_tuple; words_are = h; spells = e }
tuple_of_row (Some row) p a b h e = record { derivation = tuple_comma h.derivation; words_are = h.words_are ∙ sym (append_assoc (terms_words h.derivation) (sign Comma ∷ []) b); spells = ap (option_and_then tuple_of) h.spells ∙ e }

pub function_spelled : (f : List ℕ) (rows : Rows) (p : Part) (a b c : List Word) → a ≡ name f ∷ sign LeftParen ∷ b → SpellsLists rows b (sign RightParen ∷ c) → named f rows ≡ Some p → SpellsPrimary p a c
function_spelled f rows p a b c h s e = record { derivation = function f s.derivation; words_are = h ∙ ap (λ ws. name f ∷ sign LeftParen ∷ ws) (s.words_are ∙ sym (append_assoc (lists_words s.derivation) (sign RightParen ∷ []) c)); spells = ap (option_and_then (named f)) s.spells ∙ e }

pub parenthesis_spelled : (row : Row) (p : Part) (a b c : List Word) → a ≡ sign LeftParen ∷ b → SpellsTuples row b (sign RightParen ∷ c) → pooled row.terms row ≡ Some p → SpellsPrimary p a c
parenthesis_spelled row p a b c h s e = record { derivation = parenthesis s.derivation; words_are = h ∙ ap (λ ws. sign LeftParen ∷ ws) (s.words_are ∙ sym (append_assoc (tuples_words s.derivation) (sign RightParen ∷ []) c)); spells = ap (option_and_then (λ (r : Row). pooled r.terms r)) s.spells ∙ e }

pub absolute_spelled : (p q : Part) (a b c : List Word) → a ≡ sign BarToken ∷ b → SpellsSum p b (sign BarToken ∷ c) → round Abs p ≡ Some q → SpellsPrimary q a c
absolute_spelled p q a b c h s e = record { derivation = absolute s.derivation; words_are = h ∙ ap (λ ws. sign BarToken ∷ ws) (s.words_are ∙ sym (append_assoc (sum_words s.derivation) (sign BarToken ∷ []) c)); spells = ap (option_and_then (round Abs)) s.spells ∙ e }

pub number_spelled : (n : ℕ) (a : List Word) → nat_le n greatest_numeral ≡ true → SpellsUnary (leaf (Number (pos n))) (number n ∷ a) a
number_spelled n a e = record { derivation = primary (numeral n); words_are = refl; spells = ap (λ b. if b then Some (leaf (Number (pos n))) else None) e }

pub least_spelled : (n : ℕ) (a : List Word) → n ≡ 2 ^ 63 → SpellsUnary (leaf (Number (neg_ℤ (pos (2 ^ 63))))) (sign MinusToken ∷ number n ∷ a) a
least_spelled n a e = record { derivation = least; words_are = ap (λ m. sign MinusToken ∷ number m ∷ a) e; spells = refl }

pub string_spelled : (s : List ℕ) (a : List Word) → SpellsUnary (leaf (Text s)) (quoted s ∷ a) a
string_spelled s a = record { derivation = primary (string s); words_are = refl; spells = refl }

pub constant_spelled : (f : List ℕ) (a : List Word) → SpellsUnary (leaf (Function f ([] ∷ []))) (name f ∷ a) a
constant_spelled f a = record { derivation = primary (constant f); words_are = refl; spells = refl }
