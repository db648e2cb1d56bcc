-- What is printed of a spelled value spells it.
use Rattle.std.proofs.Common.{◌≡◌, ℕ, zero, suc, ◌≤◌, ℤ, pos, neg_ℤ, max, nat_le, false, List, [], ◌∷◌, ◌++◌, map, Option, Some, None, refl, sym, ap, ◌∙◌, subst, arith, append_assoc}
use Rattle.std.specs.Prelude.{negsuc}
use Rattle.std.specs.Option.{IfSome, option_map, option_and_then}
use Rattle.std.proofs.lemmas.Bool.{leb-true}
use Rattle.std.proofs.lemmas.List.{map-append}
use Rattle.ms_text.specs.declared.token.TokenKind.TheVariants.{Comma, LeftParen, RightParen, Minus}
use Rattle.ms_text.specs.Tokens.{begins_with}
use Rattle.ms_grammar.specs.declared.value.Value.{Value, Number, Text, Function}
use Rattle.ms_grammar.specs.declared.value.Value.TheVariants.{rolls-Number, rolls-Text, rolls-Function}
use Rattle.ms_grammar.specs.declared.value.Value.TheOpen.{Value-F}
use Rattle.ms_grammar.specs.declared.value.Value.TheFolds.{fold-roll-Value}
use Rattle.ms_grammar.specs.declared.part.ValuePart.{ValuePart}
use Rattle.ms_grammar.specs.declared.part.ValueRow.{ValueRow}
use Rattle.ms_grammar.specs.Words.{name, number, quoted, sign}
use Rattle.ms_base.specs.Limits.{most_height}
use Rattle.ms_grammar.specs.Terms.{greatest_numeral, both}
use Rattle.ms_grammar.specs.Values.{Spelling, Spellings, numeral, negative, string, constant, no_arguments, function, empty_tuple, tuple, tuple_comma, one_value, and_value, value_words, values_words, value_part, values_row, value_leaf, value_named, value_grouped, no_values, with_value}
use Rattle.ms_ast.specs.Ink.{Ink, word, ink_words, ink_text, mark, in_parens, side_by_side, comma}
use Rattle.ms_ast.specs.Values.{value_ink, value_ink_of, integer_ink, function_ink, tuple_inside}
use Rattle.ms_ast.specs.Law.{IsName, HaveNames}
use Rattle.ms_ast.proofs.Inks.{ink_words_append}
use Rattle.ms_ast.proofs.Names.{names_split}
use Rattle.ms_ast.proofs.Somes.{both_some, then_some, map_some, weaker, kept}
use Rattle.ms_ast.proofs.Apart.{Joins, AllJoin, AllJoin-append, side_joins, behind_sign, sign_starts, nothing_joins, nothing_starts}
use Rattle.ms_ast.proofs.Signs.{comma_sign, minus_sign, left_paren_sign, comma_between, parens_join}
use Rattle.ms_ast.proofs.StringTokens.{string_sign}
use Rattle.ms_ast.proofs.NumberTokens.{number_no_equal}
use Rattle.ms_ast.proofs.NameTokens.{name_no_equal}
use Rattle.ms_ast.proofs.Operations.{name_joins, number_joins, joins_between, sign_joins}
use Rattle.ms_ast.proofs.Lines.{Spelled, in_parens_words}
use Rattle.ms_ast.proofs.Rows.{side_words, one_words, more_words, Two, two}

number_value : (n : ℤ) → value_ink (Number n) ≡ integer_ink n
number_value n = ap value_ink (sym (rolls-Number n)) ∙ fold-roll-Value (List Ink) value_ink_of (Value-F.Number n)

text_value : (s : List ℕ) → value_ink (Text s) ≡ word (quoted s) ∷ []
text_value s = ap value_ink (sym (rolls-Text s)) ∙ fold-roll-Value (List Ink) value_ink_of (Value-F.Text s)

function_value : (f : List ℕ) (vs : List Value) → value_ink (Function f vs) ≡ function_ink f (map value_ink vs)
function_value f vs = ap value_ink (sym (rolls-Function f vs)) ∙ fold-roll-Value (List Ink) value_ink_of (Value-F.Function f vs)

-- The ink spells the value, may stand before whatever no name goes on in, and doesn't begin with `=`.
pub record InkShows (ink : List Ink) (p : ValuePart) : Type 0 where
  pub written : Spelled Spelling ValuePart value_words value_part (ink_words ink) p
  pub joins : Joins ink
  pub no_equal : (more : List Ink) → begins_with 61 (ink_text (ink ++ more)) ≡ false

abbrev pub ValueShown : ValuePart → Type 0
ValueShown p = InkShows (value_ink p.value) p

by_ink : (p : ValuePart) (ink : List Ink) → value_ink p.value ≡ ink → InkShows ink p → ValueShown p
by_ink p ink e h = subst (λ is. InkShows is p) (sym e) h

numeral_value : (n : ℕ) → IfSome (value_part (numeral n)) ValueShown
numeral_value n = kept ValueShown (nat_le n greatest_numeral) (value_leaf (Number (pos n))) (λ e low.
    let small : n ≤ greatest_numeral = leb-true n greatest_numeral low in
    by_ink (value_leaf (Number (pos n))) (word (number n) ∷ []) (number_value (pos n)) (record {
      written = record { derivation = numeral n; words_are = refl; spells = e };
      joins = number_joins n (omega arith) [] nothing_starts nothing_joins;
      no_equal = λ more. number_no_equal n (ink_text more) (omega arith);
    }))

negative_value : (n : ℕ) → IfSome (value_part (negative n)) ValueShown
negative_value zero =
    by_ink (value_leaf (Number (pos 0))) (word (number 0) ∷ []) (number_value (pos 0)) (record {
      written = record { derivation = numeral 0; words_are = refl; spells = refl };
      joins = number_joins 0 (omega arith) [] nothing_starts nothing_joins;
      no_equal = λ more. number_no_equal 0 (ink_text more) (omega arith);
    })
negative_value (suc n) = kept ValueShown (nat_le (suc n) (suc greatest_numeral)) (value_leaf (Number (neg_ℤ (pos (suc n))))) (λ e low.
    let small : suc n ≤ suc greatest_numeral = leb-true (suc n) (suc greatest_numeral) low in
    by_ink (value_leaf (Number (negsuc n))) (mark Minus ∷ word (number (suc n)) ∷ []) (number_value (negsuc n)) (record {
      written = record { derivation = negative (suc n); words_are = refl; spells = e };
      joins = behind_sign (sign Minus) minus_sign (word (number (suc n)) ∷ []) (number_joins (suc n) small [] nothing_starts nothing_joins);
      no_equal = λ more. refl;
    }))

string_value : (s : List ℕ) → ValueShown (value_leaf (Text s))
string_value s = by_ink (value_leaf (Text s)) (word (quoted s) ∷ []) (text_value s) (record {
  written = record { derivation = string s; words_are = refl; spells = refl };
  joins = sign_joins (quoted s) (string_sign s);
  no_equal = λ more. refl;
})

constant_value : (f : List ℕ) → IsName f → IfSome (value_part (constant f)) ValueShown
constant_value [] n = let none : ◌≡◌ {A = Option ℕ} None (Some 0) = n.all_of_it in cc
constant_value (b ∷ bs) n = by_ink (record { value = Function (b ∷ bs) []; height = 1 }) (word (name (b ∷ bs)) ∷ []) (function_value (b ∷ bs) []) (record {
  written = record { derivation = constant (b ∷ bs); words_are = refl; spells = refl };
  joins = name_joins (b ∷ bs) n [] nothing_starts nothing_joins;
  no_equal = λ more. name_no_equal (b ∷ bs) (ink_text more) n;
})

empty_tuple_value : IfSome (value_part empty_tuple) ValueShown
empty_tuple_value = by_ink (record { value = Function [] []; height = 1 }) (in_parens []) (function_value [] []) (record {
  written = record { derivation = empty_tuple; words_are = refl; spells = refl };
  joins = parens_join [] nothing_joins;
  no_equal = λ more. refl;
})

-- values side by side, at least one
record ValuesShown (row : ValueRow) : Type 0 where
  written : Spelled Spellings ValueRow values_words values_row (side_words Comma (map value_ink row.values)) row
  all : AllJoin (map value_ink row.values)
  first : Value
  more : List Value
  are : row.values ≡ first ∷ more

record ValuesMany (row : ValueRow) : Type 0 where
  shown : ValuesShown row
  two_are : Two Value row.values

one_value_shown : (p : ValuePart) → ValueShown p → ValuesShown (with_value no_values p)
one_value_shown p s = record {
  written = record {
    derivation = one_value s.written.derivation;
    words_are = s.written.words_are ∙ one_words Comma (value_ink p.value);
    spells = ap (option_map (with_value no_values)) s.written.spells;
  };
  all = (s.joins, tt);
  first = p.value;
  more = [];
  are = refl;
}

more_values_shown : (row : ValueRow) (p : ValuePart) → ValuesShown row → ValueShown p → ValuesMany (with_value row p)
more_values_shown row p h s =
    let inks : map value_ink row.values ≡ map value_ink (h.first ∷ h.more) = ap (map value_ink) h.are in
    record {
      shown = record {
        written = record {
          derivation = and_value h.written.derivation s.written.derivation;
          words_are = more_words Comma (value_ink h.first) (map value_ink h.more) (value_ink p.value) (values_words h.written.derivation) (value_words s.written.derivation) (h.written.words_are ∙ ap (side_words Comma) inks) s.written.words_are
              ∙ ap (side_words Comma) (sym (map-append value_ink row.values (p.value ∷ []) ∙ ap (λ is. is ++ value_ink p.value ∷ []) inks));
          spells = λ i. both (λ r q. Some (with_value r q)) (h.written.spells i) (s.written.spells i);
        };
        all = subst AllJoin (sym (map-append value_ink row.values (p.value ∷ []))) (AllJoin-append (map value_ink row.values) (value_ink p.value ∷ []) h.all (s.joins, tt));
        first = h.first;
        more = h.more ++ p.value ∷ [];
        are = ap (λ vs. vs ++ p.value ∷ []) h.are;
      };
      two_are = two row.values p.value h.first h.more h.are;
    }

applied_ink : (b : ℕ) (bs : List ℕ) (vs : List Value) (first : Value) (more : List Value) → vs ≡ first ∷ more → function_ink (b ∷ bs) (map value_ink vs) ≡ word (name (b ∷ bs)) ∷ in_parens (side_by_side comma (map value_ink vs))
applied_ink b bs vs first more e = subst (λ us. function_ink (b ∷ bs) (map value_ink us) ≡ word (name (b ∷ bs)) ∷ in_parens (side_by_side comma (map value_ink us))) (sym e) refl

function_shown : (f : List ℕ) → IsName f → (row : ValueRow) → ValuesShown row → IfSome (value_named f row) ValueShown
function_shown [] n row h = let none : ◌≡◌ {A = Option ℕ} None (Some 0) = n.all_of_it in cc
function_shown (b ∷ bs) n row h =
    let inside : List Ink = side_by_side comma (map value_ink row.values) in
    let r : ValuePart = record { value = Function (b ∷ bs) row.values; height = suc row.height } in
    kept ValueShown (nat_le (suc row.height) most_height) r (λ e low.
    by_ink r (word (name (b ∷ bs)) ∷ in_parens inside) (function_value (b ∷ bs) row.values ∙ applied_ink b bs row.values h.first h.more h.are) (record {
      written = record {
        derivation = function (b ∷ bs) h.written.derivation;
        words_are = ap (λ ws. name (b ∷ bs) ∷ sign LeftParen ∷ (ws ++ sign RightParen ∷ [])) h.written.words_are ∙ sym (ap (λ ws. name (b ∷ bs) ∷ ws) (in_parens_words inside));
        spells = ap (option_and_then (value_named (b ∷ bs))) h.written.spells ∙ e;
      };
      joins = name_joins (b ∷ bs) n (in_parens inside) (sign_starts (sign LeftParen) left_paren_sign (inside ++ mark RightParen ∷ [])) (parens_join inside (side_joins comma comma_between (map value_ink row.values) h.all));
      no_equal = λ more. name_no_equal (b ∷ bs) (ink_text (in_parens inside ++ more)) n;
    }))

many_inside : (vs : List Value) → Two Value vs → tuple_inside (map value_ink vs) ≡ side_by_side comma (map value_ink vs)
many_inside vs h = subst (λ us. tuple_inside (map value_ink us) ≡ side_by_side comma (map value_ink us)) (sym h.are) refl

many_grouped : (row : ValueRow) (vs : List Value) → Two Value vs → value_grouped vs row ≡ value_named [] row
many_grouped row vs h = ap (λ us. value_grouped us row) h.are

many_tuple : (row : ValueRow) → ValuesMany row → IfSome (value_named [] row) ValueShown
many_tuple row h =
    let inside : List Ink = side_by_side comma (map value_ink row.values) in
    let r : ValuePart = record { value = Function [] row.values; height = suc row.height } in
    let w = h.shown.written in
    kept ValueShown (nat_le (suc row.height) most_height) r (λ e low.
    by_ink r (in_parens inside) (function_value [] row.values ∙ ap in_parens (many_inside row.values h.two_are)) (record {
      written = record {
        derivation = tuple w.derivation;
        words_are = ap (λ ws. sign LeftParen ∷ (ws ++ sign RightParen ∷ [])) w.words_are ∙ sym (in_parens_words inside);
        spells = ap (option_and_then (λ r. value_grouped r.values r)) w.spells ∙ many_grouped row row.values h.two_are ∙ e;
      };
      joins = parens_join inside (side_joins comma comma_between (map value_ink row.values) h.shown.all);
      no_equal = λ more. refl;
    }))

many_group : (row : ValueRow) → ValuesMany row → IfSome (value_grouped row.values row) ValueShown
many_group row h = subst (λ o. IfSome o ValueShown) (sym (many_grouped row row.values h.two_are)) (many_tuple row h)

one_comma : (p : ValuePart) → ValueShown p → IfSome (value_named [] (with_value no_values p)) ValueShown
one_comma p s =
    let row : ValueRow = with_value no_values p in
    let inside : List Ink = value_ink p.value ++ comma in
    let r : ValuePart = record { value = Function [] (p.value ∷ []); height = suc row.height } in
    let regroup : sign LeftParen ∷ (ink_words (value_ink p.value) ++ sign Comma ∷ sign RightParen ∷ []) ≡ ink_words (in_parens inside) =
    ap (λ ws. sign LeftParen ∷ ws) (sym (append_assoc (ink_words (value_ink p.value)) (sign Comma ∷ []) (sign RightParen ∷ [])) ∙ ap (λ ws. ws ++ sign RightParen ∷ []) (sym (ink_words_append (value_ink p.value) comma)))
    ∙ sym (in_parens_words inside) in
    kept ValueShown (nat_le (suc row.height) most_height) r (λ e low.
    by_ink r (in_parens inside) (function_value [] (p.value ∷ [])) (record {
      written = record {
        derivation = tuple_comma (one_value s.written.derivation);
        words_are = ap (λ ws. sign LeftParen ∷ (ws ++ sign Comma ∷ sign RightParen ∷ [])) s.written.words_are ∙ regroup;
        spells = ap (λ o. option_and_then (value_named []) (option_map (with_value no_values) o)) s.written.spells ∙ e;
      };
      joins = parens_join inside (joins_between (value_ink p.value) (sign Comma) [] comma_sign s.joins nothing_joins);
      no_equal = λ more. refl;
    }))

same_value : (p : ValuePart) (h : ℕ) → h ≡ p.height → ◌≡◌ {A = ValuePart} (record { value = p.value; height = h }) p
same_value p h e = λ i. record { value = p.value; height = e i }

one_group : (o : Option ValuePart) → IfSome o ValueShown → IfSome (option_and_then (λ row. value_grouped row.values row) (option_map (with_value no_values) o)) ValueShown
one_group None h = tt
one_group (Some p) h = subst ValueShown (sym (same_value p (max 0 p.height) (omega arith))) h

one_with_comma : (o : Option ValuePart) → IfSome o ValueShown → IfSome (option_and_then (value_named []) (option_map (with_value no_values) o)) ValueShown
one_with_comma None h = tt
one_with_comma (Some p) h = one_comma p h

many_values : (a : Option ValueRow) (b : Option ValuePart) → IfSome a ValuesShown → IfSome b ValueShown → IfSome (both (λ row p. Some (with_value row p)) a b) ValuesMany
many_values a b h k = both_some (λ row p. Some (with_value row p)) ValuesShown ValueShown ValuesMany more_values_shown a b h k

mutual
  pub value_shown : (v : Spelling) → HaveNames (value_words v) → IfSome (value_part v) ValueShown
  value_shown (numeral n) ns = numeral_value n
  value_shown (negative n) ns = negative_value n
  value_shown (string s) ns = string_value s
  value_shown (constant f) ns = constant_value f ns.0
  value_shown (no_arguments f) ns = constant_value f ns.0
  value_shown (function f vs) ns =
      let ms = names_split (values_words vs) (sign RightParen ∷ []) ns.1 in
      then_some (value_named f) ValuesShown ValueShown (function_shown f ns.0) (values_row vs) (values_shown vs ms.0)
  value_shown empty_tuple ns = empty_tuple_value
  value_shown (tuple (one_value v)) ns =
      let ms = names_split (value_words v) (sign RightParen ∷ []) ns in
      one_group (value_part v) (value_shown v ms.0)
  value_shown (tuple (and_value vs v)) ns =
      let ms = names_split (values_words (and_value vs v)) (sign RightParen ∷ []) ns in
      let ks = names_split (values_words vs) (sign Comma ∷ value_words v) ms.0 in
      then_some (λ row. value_grouped row.values row) ValuesMany ValueShown many_group (values_row (and_value vs v)) (many_values (values_row vs) (value_part v) (values_shown vs ks.0) (value_shown v ks.1))
  value_shown (tuple_comma (one_value v)) ns =
      let ms = names_split (value_words v) (sign Comma ∷ sign RightParen ∷ []) ns in
      one_with_comma (value_part v) (value_shown v ms.0)
  value_shown (tuple_comma (and_value vs v)) ns =
      let ms = names_split (values_words (and_value vs v)) (sign Comma ∷ sign RightParen ∷ []) ns in
      let ks = names_split (values_words vs) (sign Comma ∷ value_words v) ms.0 in
      then_some (value_named []) ValuesMany ValueShown many_tuple (values_row (and_value vs v)) (many_values (values_row vs) (value_part v) (values_shown vs ks.0) (value_shown v ks.1))

  values_shown : (vs : Spellings) → HaveNames (values_words vs) → IfSome (values_row vs) ValuesShown
  values_shown (one_value v) ns = map_some (with_value no_values) ValueShown ValuesShown one_value_shown (value_part v) (value_shown v ns)
  values_shown (and_value vs v) ns =
      let ks = names_split (values_words vs) (sign Comma ∷ value_words v) ns in
      weaker (values_row (and_value vs v)) ValuesMany ValuesShown (λ row h. h.shown) (many_values (values_row vs) (value_part v) (values_shown vs ks.0) (value_shown v ks.1))
