-- What is printed of a spelled term spells it.
use Rattle.std.proofs.Common.{[], ◌∷◌, Option, Some, None}
use Rattle.std.specs.Option.{IfSome, option_map, option_and_then}
use Rattle.ms_text.specs.declared.token.TokenKind.TheVariants.{DotDot, Comma, Semicolon, RightParen, Plus, Minus, Star, Slash, Backslash, Bar}
use Rattle.ms_tree.specs.declared.op.Op.TheVariants.{Add, Sub, Mul, Div, Rem}
use Rattle.ms_grammar.specs.declared.term.TextTerm.{Interval, Neg, Abs, Binary}
use Rattle.ms_grammar.specs.declared.part.Part.{Part}
use Rattle.ms_grammar.specs.declared.part.Row.{Row}
use Rattle.ms_grammar.specs.Words.{sign}
use Rattle.ms_grammar.specs.Terms as g
use Rattle.ms_ast.specs.Law.{HaveNames}
use Rattle.ms_ast.proofs.Names.{names_split}
use Rattle.ms_ast.proofs.Somes.{both_some, then_some, map_some, weaker}
use Rattle.ms_ast.proofs.Lines.{IsShown}
use Rattle.ms_ast.proofs.Operations.{numeral_shown, least_shown, string_shown, constant_shown, interval_shown, binary_shown, neg_shown, abs_shown}
use Rattle.ms_ast.proofs.Rows.{TermsShown, TermsMany, TuplesShown, TuplesMany, ArgumentsShown, ListsShown, ListsMany, one_term_shown, more_terms_shown, one_tuple_shown, more_tuples_shown, no_arguments_shown, arguments_are_shown, one_list_shown, one_list_many, more_lists_shown, function_shown, empty_tuple_shown, many_tuple_shown, many_grouped_shown, one_grouped_shown, comma_tuple_shown, one_pooled_shown, pool_shown}

-- one found part in a row, and as the one alternative
one_grouped : (o : Option Part) → IfSome o IsShown → IfSome (option_and_then (λ row. g.grouped row.terms row) (option_map (g.with_term g.no_terms) o)) IsShown
one_grouped None h = tt
one_grouped (Some p) h = one_grouped_shown p h

one_with_comma : (o : Option Part) → IfSome o IsShown → IfSome (option_and_then g.tuple_of (option_map (g.with_term g.no_terms) o)) IsShown
one_with_comma None h = tt
one_with_comma (Some p) h = comma_tuple_shown p h

one_pooled : (o : Option Part) → IfSome o IsShown → IfSome (option_and_then (λ row. g.pooled row.terms row) (option_map (g.with_alternative g.no_alternative) o)) IsShown
one_pooled None h = tt
one_pooled (Some p) h = one_pooled_shown p h

many_terms : (a : Option Row) (b : Option Part) → IfSome a TermsShown → IfSome b IsShown → IfSome (g.both (λ row p. Some (g.with_term row p)) a b) TermsMany
many_terms a b h k = both_some (λ row p. Some (g.with_term row p)) TermsShown IsShown TermsMany more_terms_shown a b h k

mutual
  pub term_shown : (t : g.Term) → HaveNames (g.term_words t) → IfSome (g.term_part t) IsShown
  term_shown (g.single s) n = sum_shown s n
  term_shown (g.interval low high) n =
      let ns = names_split (g.sum_words low) (sign DotDot ∷ g.sum_words high) n in
      both_some (g.joined Interval) IsShown IsShown IsShown interval_shown (g.sum_part low) (g.sum_part high) (sum_shown low ns.0) (sum_shown high ns.1)

  sum_shown : (s : g.Sum) → HaveNames (g.sum_words s) → IfSome (g.sum_part s) IsShown
  sum_shown (g.product p) n = product_shown p n
  sum_shown (g.plus s p) n =
      let ns = names_split (g.sum_words s) (sign Plus ∷ g.product_words p) n in
      both_some (g.joined (Binary Add)) IsShown IsShown IsShown (binary_shown Add) (g.sum_part s) (g.product_part p) (sum_shown s ns.0) (product_shown p ns.1)
  sum_shown (g.minus s p) n =
      let ns = names_split (g.sum_words s) (sign Minus ∷ g.product_words p) n in
      both_some (g.joined (Binary Sub)) IsShown IsShown IsShown (binary_shown Sub) (g.sum_part s) (g.product_part p) (sum_shown s ns.0) (product_shown p ns.1)

  product_shown : (p : g.Product) → HaveNames (g.product_words p) → IfSome (g.product_part p) IsShown
  product_shown (g.unary u) n = unary_shown u n
  product_shown (g.times p u) n =
      let ns = names_split (g.product_words p) (sign Star ∷ g.unary_words u) n in
      both_some (g.joined (Binary Mul)) IsShown IsShown IsShown (binary_shown Mul) (g.product_part p) (g.unary_part u) (product_shown p ns.0) (unary_shown u ns.1)
  product_shown (g.over p u) n =
      let ns = names_split (g.product_words p) (sign Slash ∷ g.unary_words u) n in
      both_some (g.joined (Binary Div)) IsShown IsShown IsShown (binary_shown Div) (g.product_part p) (g.unary_part u) (product_shown p ns.0) (unary_shown u ns.1)
  product_shown (g.modulo p u) n =
      let ns = names_split (g.product_words p) (sign Backslash ∷ g.unary_words u) n in
      both_some (g.joined (Binary Rem)) IsShown IsShown IsShown (binary_shown Rem) (g.product_part p) (g.unary_part u) (product_shown p ns.0) (unary_shown u ns.1)

  unary_shown : (u : g.Unary) → HaveNames (g.unary_words u) → IfSome (g.unary_part u) IsShown
  unary_shown (g.primary p) n = primary_shown p n
  unary_shown (g.negative u) n = then_some (g.round Neg) IsShown IsShown neg_shown (g.unary_part u) (unary_shown u n)
  unary_shown g.least n = least_shown

  pub primary_shown : (p : g.Primary) → HaveNames (g.primary_words p) → IfSome (g.primary_part p) IsShown
  primary_shown (g.numeral k) n = numeral_shown k
  primary_shown (g.string s) n = string_shown s
  primary_shown (g.constant f) n = constant_shown f n.0
  primary_shown (g.function f (g.one_list g.no_arguments)) n = constant_shown f n.0
  primary_shown (g.function f (g.one_list (g.arguments ts))) n =
      let ns = names_split (g.terms_words ts) (sign RightParen ∷ []) n.1 in
      then_some (g.named f) ListsMany IsShown (function_shown f n.0) (option_map g.only_list (g.terms_row ts)) (map_some g.only_list TermsShown ListsMany one_list_many (g.terms_row ts) (terms_shown ts ns.0))
  primary_shown (g.function f (g.or_list lists args)) n =
      let ns = names_split (g.lists_words (g.or_list lists args)) (sign RightParen ∷ []) n.1 in
      let ms = names_split (g.lists_words lists) (sign Semicolon ∷ g.arguments_words args) ns.0 in
      then_some (g.named f) ListsMany IsShown (function_shown f n.0) (g.lists_rows (g.or_list lists args))
      (both_some (λ rows row. Some (g.with_list rows row)) ListsShown ArgumentsShown ListsMany more_lists_shown (g.lists_rows lists) (g.arguments_row args) (lists_shown lists ms.0) (arguments_shown args ms.1))
  primary_shown (g.parenthesis (g.one_tuple t)) n =
      let ns = names_split (g.tuple_words t) (sign RightParen ∷ []) n in
      one_pooled (g.tuple_part t) (tuple_shown t ns.0)
  primary_shown (g.parenthesis (g.or_tuple ts t)) n =
      let ns = names_split (g.tuples_words (g.or_tuple ts t)) (sign RightParen ∷ []) n in
      let ms = names_split (g.tuples_words ts) (sign Semicolon ∷ g.tuple_words t) ns.0 in
      then_some (λ row. g.pooled row.terms row) TuplesMany IsShown pool_shown (g.tuples_row (g.or_tuple ts t))
      (both_some (λ row p. Some (g.with_alternative row p)) TuplesShown IsShown TuplesMany more_tuples_shown (g.tuples_row ts) (g.tuple_part t) (tuples_shown ts ms.0) (tuple_shown t ms.1))
  primary_shown (g.absolute s) n =
      let ns = names_split (g.sum_words s) (sign Bar ∷ []) n in
      then_some (g.round Abs) IsShown IsShown abs_shown (g.sum_part s) (sum_shown s ns.0)

  pub lists_shown : (ls : g.Lists) → HaveNames (g.lists_words ls) → IfSome (g.lists_rows ls) ListsShown
  lists_shown (g.one_list args) n = map_some g.only_list ArgumentsShown ListsShown one_list_shown (g.arguments_row args) (arguments_shown args n)
  lists_shown (g.or_list lists args) n =
      let ms = names_split (g.lists_words lists) (sign Semicolon ∷ g.arguments_words args) n in
      both_some (λ rows row. Some (g.with_list rows row)) ListsShown ArgumentsShown ListsShown (λ rows row h k. (more_lists_shown rows row h k).shown) (g.lists_rows lists) (g.arguments_row args) (lists_shown lists ms.0) (arguments_shown args ms.1)

  pub arguments_shown : (a : g.Arguments) → HaveNames (g.arguments_words a) → IfSome (g.arguments_row a) ArgumentsShown
  arguments_shown g.no_arguments n = no_arguments_shown
  arguments_shown (g.arguments ts) n = weaker (g.terms_row ts) TermsShown ArgumentsShown arguments_are_shown (terms_shown ts n)

  pub terms_shown : (ts : g.Terms) → HaveNames (g.terms_words ts) → IfSome (g.terms_row ts) TermsShown
  terms_shown (g.one_term t) n = map_some (g.with_term g.no_terms) IsShown TermsShown one_term_shown (g.term_part t) (term_shown t n)
  terms_shown (g.and_term ts t) n =
      let ns = names_split (g.terms_words ts) (sign Comma ∷ g.term_words t) n in
      weaker (g.terms_row (g.and_term ts t)) TermsMany TermsShown (λ row h. h.shown) (many_terms (g.terms_row ts) (g.term_part t) (terms_shown ts ns.0) (term_shown t ns.1))

  tuples_shown : (ts : g.Tuples) → HaveNames (g.tuples_words ts) → IfSome (g.tuples_row ts) TuplesShown
  tuples_shown (g.one_tuple t) n = map_some (g.with_alternative g.no_alternative) IsShown TuplesShown one_tuple_shown (g.tuple_part t) (tuple_shown t n)
  tuples_shown (g.or_tuple ts t) n =
      let ms = names_split (g.tuples_words ts) (sign Semicolon ∷ g.tuple_words t) n in
      both_some (λ row p. Some (g.with_alternative row p)) TuplesShown IsShown TuplesShown (λ row p h k. (more_tuples_shown row p h k).shown) (g.tuples_row ts) (g.tuple_part t) (tuples_shown ts ms.0) (tuple_shown t ms.1)

  tuple_shown : (t : g.Tuple) → HaveNames (g.tuple_words t) → IfSome (g.tuple_part t) IsShown
  tuple_shown g.empty_tuple n = empty_tuple_shown
  tuple_shown (g.tuple (g.one_term t)) n = one_grouped (g.term_part t) (term_shown t n)
  tuple_shown (g.tuple (g.and_term ts t)) n =
      let ns = names_split (g.terms_words ts) (sign Comma ∷ g.term_words t) n in
      then_some (λ row. g.grouped row.terms row) TermsMany IsShown many_grouped_shown (g.terms_row (g.and_term ts t)) (many_terms (g.terms_row ts) (g.term_part t) (terms_shown ts ns.0) (term_shown t ns.1))
  tuple_shown (g.tuple_comma (g.one_term t)) n =
      let ns = names_split (g.term_words t) (sign Comma ∷ []) n in
      one_with_comma (g.term_part t) (term_shown t ns.0)
  tuple_shown (g.tuple_comma (g.and_term ts t)) n =
      let ms = names_split (g.terms_words (g.and_term ts t)) (sign Comma ∷ []) n in
      let ns = names_split (g.terms_words ts) (sign Comma ∷ g.term_words t) ms.0 in
      then_some g.tuple_of TermsMany IsShown many_tuple_shown (g.terms_row (g.and_term ts t)) (many_terms (g.terms_row ts) (g.term_part t) (terms_shown ts ns.0) (term_shown t ns.1))
