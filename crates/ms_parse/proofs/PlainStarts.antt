-- Rules don't begin with the word of a directive.
use Rattle.std.proofs.Common.{◌≡◌, Bool, true, false, List, [], ◌∷◌, ◌++◌, Option, Some, None, refl, append_assoc}
use Rattle.std.specs.Bool.{⊤}
use Rattle.ms_text.specs.declared.token.TokenKind.TheVariants.{Program, External, Const, Show, Include}
use Rattle.ms_grammar.specs.Words.{Word, sign}
use Rattle.ms_grammar.specs.Terms.{Primary, numeral, string, constant, function, parenthesis, absolute, primary_words, Unary, primary, negative, least, unary_words, Product, unary, times, over, modulo, product_words, Sum, product, plus, minus, sum_words, Term, single, interval, term_words}
use Rattle.ms_grammar.specs.Statements.{plain, applied, Guard, bare, signed, left_words, Choice, choice_words, HeadPart, no_head, atom_head, choice_head, head_words, Tail, no_tail, empty_tail, tail, tail_words}

abbrev pub is_directive : Word → Bool
is_directive (sign Program) = true
is_directive (sign External) = true
is_directive (sign Const) = true
is_directive (sign Show) = true
is_directive (sign Include) = true
is_directive w = false

-- The first word isn't that of a directive.
abbrev pub StartsPlain : List Word → Type 0
StartsPlain [] = ⊤
StartsPlain (w ∷ ws) = is_directive w ≡ false

primary_plain : (p : Primary) (rest : List Word) → StartsPlain (primary_words p ++ rest)
primary_plain (numeral n) rest = refl
primary_plain (string s) rest = refl
primary_plain (constant f) rest = refl
primary_plain (function f lists) rest = refl
primary_plain (parenthesis tuples) rest = refl
primary_plain (absolute s) rest = refl

unary_plain : (u : Unary) (rest : List Word) → StartsPlain (unary_words u ++ rest)
unary_plain (primary p) rest = primary_plain p rest
unary_plain (negative u) rest = refl
unary_plain least rest = refl

product_plain : (p : Product) (rest : List Word) → StartsPlain (product_words p ++ rest)
product_plain (unary u) rest = unary_plain u rest
product_plain (times p u) rest = rw append_assoc (product_plain p _)
product_plain (over p u) rest = rw append_assoc (product_plain p _)
product_plain (modulo p u) rest = rw append_assoc (product_plain p _)

sum_plain : (s : Sum) (rest : List Word) → StartsPlain (sum_words s ++ rest)
sum_plain (product p) rest = product_plain p rest
sum_plain (plus s p) rest = rw append_assoc (sum_plain s _)
sum_plain (minus s p) rest = rw append_assoc (sum_plain s _)

term_plain : (t : Term) (rest : List Word) → StartsPlain (term_words t ++ rest)
term_plain (single s) rest = sum_plain s rest
term_plain (interval low high) rest = rw append_assoc (sum_plain low _)

left_plain : (g : Option Guard) (rest : List Word) → StartsPlain rest → StartsPlain (left_words g ++ rest)
left_plain None rest h = h
left_plain (Some (bare t)) rest h = term_plain t rest
left_plain (Some (signed t kind)) rest h = rw append_assoc (term_plain t _)

choice_plain : (s : Choice) (rest : List Word) → StartsPlain (choice_words s ++ rest)
choice_plain s rest = rw (append_assoc, append_assoc) (left_plain s.left _ refl)

tail_plain : (t : Tail) → StartsPlain (tail_words t)
tail_plain no_tail = tt
tail_plain empty_tail = refl
tail_plain (tail b) = refl

pub rule_plain : (h : HeadPart) (t : Tail) → StartsPlain (head_words h ++ tail_words t)
rule_plain no_head t = tail_plain t
rule_plain (atom_head (plain p)) t = refl
rule_plain (atom_head (applied p lists)) t = refl
rule_plain (choice_head s) t = choice_plain s (tail_words t)
