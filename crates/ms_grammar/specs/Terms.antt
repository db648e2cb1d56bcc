-- The grammar of terms. A derivation shows how words spell a term: each type below is one line of the grammar.
-- Source: the terms of the ASP-Core-2 input language format, with pools, intervals and tuples after clingo 5, in
-- a profile of this project.
use Rattle.std.specs.Prelude.{ℕ, suc, ◌+◌, ◌*◌, ◌^◌, nat_le, pos, neg_ℤ, if◌then◌else◌, min, max, List, [], ◌∷◌, ◌++◌, Option, Some, None}
use Rattle.std.specs.Option.{option_map, option_and_then}
use Rattle.ms_base.specs.Limits.{most_choices, most_height}
use Rattle.ms_tree.specs.declared.op.Op.TheVariants.{Add, Sub, Mul, Div, Rem}
use Rattle.ms_text.specs.declared.token.TokenKind.TheVariants.{DotDot, Comma, Semicolon, LeftParen, RightParen, Plus, Minus, Star, Slash, Backslash, Bar}
use Rattle.ms_grammar.specs.declared.term.TextTerm.{TextTerm, Number, Text, Function, Pool, Interval, Neg, Abs, Binary}
use Rattle.ms_grammar.specs.declared.part.Part.{Part}
use Rattle.ms_grammar.specs.declared.part.Row.{Row}
use Rattle.ms_grammar.specs.declared.part.Rows.{Rows}
use Rattle.ms_grammar.specs.Words.{Word, name, number, quoted, sign}

mutual
  -- term = sum [".." sum]
  pub data Term : Type 0 where
    single : Sum → Term
    interval : Sum → Sum → Term

  -- sum = product | sum ("+" | "-") product
  pub data Sum : Type 0 where
    product : Product → Sum
    plus : Sum → Product → Sum
    minus : Sum → Product → Sum

  -- product = unary | product ("*" | "/" | "\") unary
  pub data Product : Type 0 where
    unary : Unary → Product
    times : Product → Unary → Product
    over : Product → Unary → Product
    modulo : Product → Unary → Product

  -- unary = "-" unary | prim, and the least number with its "-"
  pub data Unary : Type 0 where
    primary : Primary → Unary
    negative : Unary → Unary
    least : Unary

  -- prim = number | string | name ["(" args {";" args} ")"] | "(" targs {";" targs} ")" | "|" sum "|"
  pub data Primary : Type 0 where
    numeral : ℕ → Primary
    string : List ℕ → Primary
    constant : List ℕ → Primary
    function : List ℕ → Lists → Primary
    parenthesis : Tuples → Primary
    absolute : Sum → Primary

  -- args {";" args}, where args = [term {"," term}]
  pub data Lists : Type 0 where
    one_list : Arguments → Lists
    or_list : Lists → Arguments → Lists

  pub data Arguments : Type 0 where
    no_arguments : Arguments
    arguments : Terms → Arguments

  -- term {"," term}
  pub data Terms : Type 0 where
    one_term : Term → Terms
    and_term : Terms → Term → Terms

  -- targs {";" targs}, where targs = [term {"," term} [","]]
  pub data Tuples : Type 0 where
    one_tuple : Tuple → Tuples
    or_tuple : Tuples → Tuple → Tuples

  pub data Tuple : Type 0 where
    empty_tuple : Tuple
    tuple : Terms → Tuple
    tuple_comma : Terms → Tuple

-- the words that a derivation shows to spell a term
abbrev mutual
  pub term_words : Term → List Word
  term_words (single s) = sum_words s
  term_words (interval low high) = sum_words low ++ sign DotDot ∷ sum_words high

  pub sum_words : Sum → List Word
  sum_words (product p) = product_words p
  sum_words (plus s p) = sum_words s ++ sign Plus ∷ product_words p
  sum_words (minus s p) = sum_words s ++ sign Minus ∷ product_words p

  pub product_words : Product → List Word
  product_words (unary u) = unary_words u
  product_words (times p u) = product_words p ++ sign Star ∷ unary_words u
  product_words (over p u) = product_words p ++ sign Slash ∷ unary_words u
  product_words (modulo p u) = product_words p ++ sign Backslash ∷ unary_words u

  pub unary_words : Unary → List Word
  unary_words (primary p) = primary_words p
  unary_words (negative u) = sign Minus ∷ unary_words u
  unary_words least = sign Minus ∷ number (2 ^ 63) ∷ []

  pub primary_words : Primary → List Word
  primary_words (numeral n) = number n ∷ []
  primary_words (string s) = quoted s ∷ []
  primary_words (constant f) = name f ∷ []
  primary_words (function f lists) = name f ∷ sign LeftParen ∷ lists_words lists ++ sign RightParen ∷ []
  primary_words (parenthesis tuples) = sign LeftParen ∷ tuples_words tuples ++ sign RightParen ∷ []
  primary_words (absolute s) = sign Bar ∷ sum_words s ++ sign Bar ∷ []

  pub lists_words : Lists → List Word
  lists_words (one_list args) = arguments_words args
  lists_words (or_list lists args) = lists_words lists ++ sign Semicolon ∷ arguments_words args

  pub arguments_words : Arguments → List Word
  arguments_words no_arguments = []
  arguments_words (arguments ts) = terms_words ts

  pub terms_words : Terms → List Word
  terms_words (one_term t) = term_words t
  terms_words (and_term ts t) = terms_words ts ++ sign Comma ∷ term_words t

  pub tuples_words : Tuples → List Word
  tuples_words (one_tuple t) = tuple_words t
  tuples_words (or_tuple ts t) = tuples_words ts ++ sign Semicolon ∷ tuple_words t

  pub tuple_words : Tuple → List Word
  tuple_words empty_tuple = []
  tuple_words (tuple ts) = terms_words ts
  tuple_words (tuple_comma ts) = terms_words ts ++ sign Comma ∷ []

-- The greatest number without a `-`.
abbrev pub greatest_numeral : ℕ
greatest_numeral = 9223372036854775807

-- How many choices pools have is counted up to one more than the most.
abbrev pub counted : ℕ → ℕ
counted n = min n (suc most_choices)

-- a part of which no term is higher than it may be: an atom is by one higher than its arguments
abbrev pub fitting : Part → Option Part
fitting p = if nat_le p.height (suc most_height) then Some p else None

-- a term without parts
abbrev pub leaf : TextTerm → Part
leaf t = record { term = t; height = 1; choices = 1 }

-- a term round one part
abbrev pub round : (TextTerm → TextTerm) → Part → Option Part
round make p = fitting (record { term = make p.term; height = suc p.height; choices = p.choices })

-- a term of two parts
abbrev pub joined : (TextTerm → TextTerm → TextTerm) → Part → Part → Option Part
joined make p q = fitting (record { term = make p.term q.term; height = suc (max p.height q.height); choices = counted (p.choices * q.choices) })

abbrev pub no_terms : Row
no_terms = record { terms = []; height = 0; choices = 1 }

abbrev pub with_term : Row → Part → Row
with_term row p = record { terms = row.terms ++ p.term ∷ []; height = max row.height p.height; choices = counted (row.choices * p.choices) }

abbrev pub only_list : Row → Rows
only_list row = record { lists = row.terms ∷ []; height = row.height; choices = row.choices }

abbrev pub with_list : Rows → Row → Rows
with_list rows row = record { lists = rows.lists ++ row.terms ∷ []; height = max rows.height row.height; choices = counted (rows.choices + row.choices) }

-- a name with its alternatives
abbrev pub named : List ℕ → Rows → Option Part
named f rows = fitting (record { term = Function f rows.lists; height = suc rows.height; choices = rows.choices })

abbrev pub tuple_of : Row → Option Part
tuple_of row = named [] (only_list row)

-- what the terms of a parenthesis are without a last comma: one term is itself
abbrev pub grouped : List TextTerm → Row → Option Part
grouped (t ∷ []) row = Some (record { term = t; height = row.height; choices = row.choices })
grouped terms row = tuple_of row

-- the alternatives of a parenthesis so far
abbrev pub with_alternative : Row → Part → Row
with_alternative row p = record { terms = row.terms ++ p.term ∷ []; height = max row.height p.height; choices = counted (row.choices + p.choices) }

abbrev pub no_alternative : Row
no_alternative = record { terms = []; height = 0; choices = 0 }

-- what a parenthesis is: one alternative is itself, and more are a pool
abbrev pub pooled : List TextTerm → Row → Option Part
pooled (t ∷ []) row = Some (record { term = t; height = row.height; choices = row.choices })
pooled terms row = fitting (record { term = Pool row.terms; height = suc row.height; choices = row.choices })

abbrev pub both : {A B C : Type 0} → (A → B → Option C) → Option A → Option B → Option C
both f (Some a) (Some b) = f a b
both f a b = None

-- The part that a derivation spells, or None where a term is higher or a number is greater than it may be.
abbrev mutual
  pub term_part : Term → Option Part
  term_part (single s) = sum_part s
  term_part (interval low high) = both (joined Interval) (sum_part low) (sum_part high)

  pub sum_part : Sum → Option Part
  sum_part (product p) = product_part p
  sum_part (plus s p) = both (joined (Binary Add)) (sum_part s) (product_part p)
  sum_part (minus s p) = both (joined (Binary Sub)) (sum_part s) (product_part p)

  pub product_part : Product → Option Part
  product_part (unary u) = unary_part u
  product_part (times p u) = both (joined (Binary Mul)) (product_part p) (unary_part u)
  product_part (over p u) = both (joined (Binary Div)) (product_part p) (unary_part u)
  product_part (modulo p u) = both (joined (Binary Rem)) (product_part p) (unary_part u)

  pub unary_part : Unary → Option Part
  unary_part (primary p) = primary_part p
  unary_part (negative u) = option_and_then (round Neg) (unary_part u)
  unary_part least = Some (leaf (Number (neg_ℤ (pos (2 ^ 63)))))

  pub primary_part : Primary → Option Part
  primary_part (numeral n) = if nat_le n greatest_numeral then Some (leaf (Number (pos n))) else None
  primary_part (string s) = Some (leaf (Text s))
  primary_part (constant f) = Some (leaf (Function f ([] ∷ [])))
  primary_part (function f lists) = option_and_then (named f) (lists_rows lists)
  primary_part (parenthesis tuples) = option_and_then (λ row. pooled row.terms row) (tuples_row tuples)
  primary_part (absolute s) = option_and_then (round Abs) (sum_part s)

  pub lists_rows : Lists → Option Rows
  lists_rows (one_list args) = option_map only_list (arguments_row args)
  lists_rows (or_list lists args) = both (λ rows row. Some (with_list rows row)) (lists_rows lists) (arguments_row args)

  pub arguments_row : Arguments → Option Row
  arguments_row no_arguments = Some no_terms
  arguments_row (arguments ts) = terms_row ts

  pub terms_row : Terms → Option Row
  terms_row (one_term t) = option_map (with_term no_terms) (term_part t)
  terms_row (and_term ts t) = both (λ row p. Some (with_term row p)) (terms_row ts) (term_part t)

  pub tuples_row : Tuples → Option Row
  tuples_row (one_tuple t) = option_map (with_alternative no_alternative) (tuple_part t)
  tuples_row (or_tuple ts t) = both (λ row p. Some (with_alternative row p)) (tuples_row ts) (tuple_part t)

  pub tuple_part : Tuple → Option Part
  tuple_part empty_tuple = tuple_of no_terms
  tuple_part (tuple ts) = option_and_then (λ row. grouped row.terms row) (terms_row ts)
  tuple_part (tuple_comma ts) = option_and_then tuple_of (terms_row ts)
