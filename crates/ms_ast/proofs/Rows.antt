-- Lists of terms as they are printed.
use Rattle.std.proofs.Common.{◌≡◌, ℕ, suc, ◌*◌, ◌+◌, false, List, [], ◌∷◌, ◌++◌, map, Option, Some, None, refl, sym, ap, ◌∙◌, subst, arith, append_assoc, append-nil}
use Rattle.std.specs.Option.{IfSome, option_map, option_and_then}
use Rattle.std.proofs.lemmas.List.{map-append}
use Rattle.ms_text.specs.declared.token.TokenKind.{TokenKind}
use Rattle.ms_text.specs.declared.token.TokenKind.TheVariants.{Comma, Semicolon, LeftParen, RightParen}
use Rattle.ms_grammar.specs.declared.term.TextTerm.{TextTerm, Function, Pool}
use Rattle.ms_grammar.specs.declared.part.Part.{Part}
use Rattle.ms_grammar.specs.declared.part.Row.{Row}
use Rattle.ms_grammar.specs.declared.part.Rows.{Rows}
use Rattle.ms_grammar.specs.Words.{Word, name, sign}
use Rattle.ms_grammar.specs.Terms as g
use Rattle.ms_grammar.specs.Terms.{counted, leaf, named, tuple_of, only_list, with_term, with_list, with_alternative, no_terms, no_alternative, grouped, pooled}
use Rattle.ms_ast.specs.declared.line.Line.TheVariants.{Interval, Primary}
use Rattle.ms_ast.specs.Ink.{Ink, word, ink_words, mark, in_parens, each_after, side_by_side, comma, semicolon}
use Rattle.ms_ast.specs.Terms.{printed, on_line, parenthesis, list_ink, lists_ink, tuple_inside, are_no_arguments, alternatives_ink}
use Rattle.ms_ast.specs.Law.{IsName}
use Rattle.ms_ast.proofs.Inks.{ink_words_append}
use Rattle.ms_ast.proofs.TermTexts.{no_arguments_map, named_with_arguments}
use Rattle.ms_ast.proofs.Printing.{function_printed, pool_printed}
use Rattle.ms_ast.proofs.Apart.{Joins, AllJoin, AllJoin-append, side_joins, sign_starts, nothing_joins}
use Rattle.ms_ast.proofs.Signs.{comma_sign, left_paren_sign, comma_between, semicolon_between, parens_join}
use Rattle.ms_ast.proofs.Operations.{name_joins, joins_between}
use Rattle.ms_ast.proofs.Lines.{Spelled, OnLine, IsShown, Few, counted_few, as_whole, alone_in_row, alone_as_alternative, in_parens_words, plain_shown, parens_shown, fitting_shown, shown_by}

-- one more side by side
each_push : (b : List Ink) (inks : List (List Ink)) (x : List Ink) → each_after b (inks ++ x ∷ []) ≡ each_after b inks ++ (b ++ x)
each_push b [] x = ap (λ t. b ++ t) (append-nil x)
each_push b (ink ∷ inks) x =
    ap (λ t. b ++ (ink ++ t)) (each_push b inks x)
    ∙ ap (λ t. b ++ t) (sym (append_assoc ink (each_after b inks) (b ++ x)))
    ∙ sym (append_assoc b (ink ++ each_after b inks) (b ++ x))

side_push : (b first : List Ink) (inks : List (List Ink)) (x : List Ink) → side_by_side b ((first ∷ inks) ++ x ∷ []) ≡ side_by_side b (first ∷ inks) ++ (b ++ x)
side_push b first inks x = ap (λ t. first ++ t) (each_push b inks x) ∙ sym (append_assoc first (each_after b inks) (b ++ x))

-- the words of several with a sign between each two
abbrev pub side_words : TokenKind → List (List Ink) → List Word
side_words between inks = ink_words (side_by_side (mark between ∷ []) inks)

pub one_words : (between : TokenKind) (x : List Ink) → ink_words x ≡ side_words between (x ∷ [])
one_words between x = ap ink_words (sym (append-nil x))

pub more_words : (between : TokenKind) (first : List Ink) (inks : List (List Ink)) (x : List Ink) (ws vs : List Word) → ws ≡ side_words between (first ∷ inks) → vs ≡ ink_words x → ws ++ sign between ∷ vs ≡ side_words between ((first ∷ inks) ++ x ∷ [])
more_words between first inks x ws vs e f =
    (λ i. e i ++ sign between ∷ f i)
    ∙ sym (ap ink_words (side_push (mark between ∷ []) first inks x) ∙ ink_words_append (side_by_side (mark between ∷ []) (first ∷ inks)) (mark between ∷ x))

abbrev pub term_inks : List TextTerm → List (List Ink)
term_inks ts = map (λ p. p.ink) (map printed ts)

abbrev pub insides : List TextTerm → List (List Ink)
insides ts = map (λ p. p.inside) (map printed ts)

abbrev pub list_inks : List (List TextTerm) → List (List Ink)
list_inks lists = map list_ink (map (map printed) lists)

term_inks-push : (ts : List TextTerm) (t : TextTerm) → term_inks (ts ++ t ∷ []) ≡ term_inks ts ++ (printed t).ink ∷ []
term_inks-push ts t = ap (map (λ p. p.ink)) (map-append printed ts (t ∷ [])) ∙ map-append (λ p. p.ink) (map printed ts) (printed t ∷ [])

insides-push : (ts : List TextTerm) (t : TextTerm) → insides (ts ++ t ∷ []) ≡ insides ts ++ (printed t).inside ∷ []
insides-push ts t = ap (map (λ p. p.inside)) (map-append printed ts (t ∷ [])) ∙ map-append (λ p. p.inside) (map printed ts) (printed t ∷ [])

list_inks-push : (lists : List (List TextTerm)) (ts : List TextTerm) → list_inks (lists ++ ts ∷ []) ≡ list_inks lists ++ list_ink (map printed ts) ∷ []
list_inks-push lists ts = ap (map list_ink) (map-append (map printed) lists (ts ∷ [])) ∙ map-append list_ink (map (map printed) lists) (map printed ts ∷ [])

-- terms side by side, at least one
pub record TermsShown (row : Row) : Type 0 where
  pub written : Spelled g.Terms Row g.terms_words g.terms_row (side_words Comma (term_inks row.terms)) row
  pub all : AllJoin (term_inks row.terms)
  pub few : Few row.choices
  pub first : TextTerm
  pub more : List TextTerm
  pub are : row.terms ≡ first ∷ more

-- at least two
pub record TermsMany (row : Row) : Type 0 where
  pub shown : TermsShown row
  pub first : TextTerm
  pub second : TextTerm
  pub more : List TextTerm
  pub are : row.terms ≡ first ∷ second ∷ more

pub one_term_shown : (p : Part) → IsShown p → TermsShown (with_term no_terms p)
one_term_shown p s =
    let whole : OnLine Interval (ink_words (printed p.term).ink) p = as_whole (printed p.term).line (ink_words (printed p.term).ink) p s.written in
    record {
      written = record {
        derivation = g.one_term whole.derivation;
        words_are = whole.words_are ∙ one_words Comma (printed p.term).ink;
        spells = ap (option_map (with_term no_terms)) whole.spells;
      };
      all = (s.joins, tt);
      few = counted_few (1 * p.choices);
      first = p.term;
      more = [];
      are = refl;
    }

pushed : (ts : List TextTerm) (t first : TextTerm) (more : List TextTerm) → ts ≡ first ∷ more → ts ++ t ∷ [] ≡ first ∷ (more ++ t ∷ [])
pushed ts t first more e = ap (λ us. us ++ t ∷ []) e

-- a list that isn't empty, and one more, are two
pub record Two (A : Type 0) (ts : List A) : Type 0 where
  pub first : A
  pub second : A
  pub more : List A
  pub are : ts ≡ first ∷ second ∷ more

pub two : {A : Type 0} (ts : List A) (t first : A) (more : List A) → ts ≡ first ∷ more → Two A (ts ++ t ∷ [])
two ts t first [] e = record { first = first; second = t; more = []; are = ap (λ us. us ++ t ∷ []) e }
two ts t first (u ∷ us) e = record { first = first; second = u; more = us ++ t ∷ []; are = ap (λ us. us ++ t ∷ []) e }

pub more_terms_shown : (row : Row) (p : Part) → TermsShown row → IsShown p → TermsMany (with_term row p)
more_terms_shown row p h s =
    let whole : OnLine Interval (ink_words (printed p.term).ink) p = as_whole (printed p.term).line (ink_words (printed p.term).ink) p s.written in
    let inks : term_inks row.terms ≡ term_inks (h.first ∷ h.more) = ap term_inks h.are in
    let both_are : Two TextTerm (row.terms ++ p.term ∷ []) = two row.terms p.term h.first h.more h.are in
    record {
      shown = record {
        written = record {
          derivation = g.and_term h.written.derivation whole.derivation;
          words_are = more_words Comma (printed h.first).ink (term_inks h.more) (printed p.term).ink (g.terms_words h.written.derivation) (g.term_words whole.derivation) (h.written.words_are ∙ ap (side_words Comma) inks) whole.words_are
              ∙ ap (side_words Comma) (sym (term_inks-push row.terms p.term ∙ ap (λ is. is ++ (printed p.term).ink ∷ []) inks));
          spells = λ i. g.both (λ r q. Some (with_term r q)) (h.written.spells i) (whole.spells i);
        };
        all = subst AllJoin (sym (term_inks-push row.terms p.term)) (AllJoin-append (term_inks row.terms) ((printed p.term).ink ∷ []) h.all (s.joins, tt));
        few = counted_few (row.choices * p.choices);
        first = h.first;
        more = h.more ++ p.term ∷ [];
        are = pushed row.terms p.term h.first h.more h.are;
      };
      first = both_are.first;
      second = both_are.second;
      more = both_are.more;
      are = both_are.are;
    }

-- the alternatives of a parenthesis, at least one
pub record TuplesShown (row : Row) : Type 0 where
  pub written : Spelled g.Tuples Row g.tuples_words g.tuples_row (side_words Semicolon (insides row.terms)) row
  pub all : AllJoin (insides row.terms)
  pub few : Few row.choices
  pub first : TextTerm
  pub more : List TextTerm
  pub are : row.terms ≡ first ∷ more

pub record TuplesMany (row : Row) : Type 0 where
  pub shown : TuplesShown row
  pub two_are : Two TextTerm row.terms

pub one_tuple_shown : (p : Part) → IsShown p → TuplesShown (with_alternative no_alternative p)
one_tuple_shown p s = record {
  written = record {
    derivation = g.one_tuple s.inside.derivation;
    words_are = s.inside.words_are ∙ one_words Semicolon (printed p.term).inside;
    spells = ap (option_map (with_alternative no_alternative)) s.inside.spells;
  };
  all = (s.joins_inside, tt);
  few = counted_few (0 + p.choices);
  first = p.term;
  more = [];
  are = refl;
}

pub more_tuples_shown : (row : Row) (p : Part) → TuplesShown row → IsShown p → TuplesMany (with_alternative row p)
more_tuples_shown row p h s =
    let inks : insides row.terms ≡ insides (h.first ∷ h.more) = ap insides h.are in
    record {
      shown = record {
        written = record {
          derivation = g.or_tuple h.written.derivation s.inside.derivation;
          words_are = more_words Semicolon (printed h.first).inside (insides h.more) (printed p.term).inside (g.tuples_words h.written.derivation) (g.tuple_words s.inside.derivation) (h.written.words_are ∙ ap (side_words Semicolon) inks) s.inside.words_are
              ∙ ap (side_words Semicolon) (sym (insides-push row.terms p.term ∙ ap (λ is. is ++ (printed p.term).inside ∷ []) inks));
          spells = λ i. g.both (λ r q. Some (with_alternative r q)) (h.written.spells i) (s.inside.spells i);
        };
        all = subst AllJoin (sym (insides-push row.terms p.term)) (AllJoin-append (insides row.terms) ((printed p.term).inside ∷ []) h.all (s.joins_inside, tt));
        few = counted_few (row.choices + p.choices);
        first = h.first;
        more = h.more ++ p.term ∷ [];
        are = pushed row.terms p.term h.first h.more h.are;
      };
      two_are = two row.terms p.term h.first h.more h.are;
    }

-- a list of arguments, which may be empty
pub record ArgumentsShown (row : Row) : Type 0 where
  pub written : Spelled g.Arguments Row g.arguments_words g.arguments_row (ink_words (list_ink (map printed row.terms))) row
  pub joins : Joins (list_ink (map printed row.terms))
  pub few : Few row.choices

pub no_arguments_shown : ArgumentsShown no_terms
no_arguments_shown = record { written = record { derivation = g.no_arguments; words_are = refl; spells = refl }; joins = nothing_joins; few = omega arith }

pub arguments_are_shown : (row : Row) → TermsShown row → ArgumentsShown row
arguments_are_shown row h = record {
  written = record { derivation = g.arguments h.written.derivation; words_are = h.written.words_are; spells = h.written.spells };
  joins = side_joins comma comma_between (term_inks row.terms) h.all;
  few = h.few;
}

-- lists of arguments, at least one
pub record ListsShown (rows : Rows) : Type 0 where
  pub written : Spelled g.Lists Rows g.lists_words g.lists_rows (side_words Semicolon (list_inks rows.lists)) rows
  pub all : AllJoin (list_inks rows.lists)
  pub few : Few rows.choices
  pub first : List TextTerm
  pub more : List (List TextTerm)
  pub are : rows.lists ≡ first ∷ more

pub record ListsMany (rows : Rows) : Type 0 where
  pub shown : ListsShown rows
  pub some : are_no_arguments rows.lists ≡ false

pub one_list_shown : (row : Row) → ArgumentsShown row → ListsShown (only_list row)
one_list_shown row h = record {
  written = record {
    derivation = g.one_list h.written.derivation;
    words_are = h.written.words_are ∙ one_words Semicolon (list_ink (map printed row.terms));
    spells = ap (option_map only_list) h.written.spells;
  };
  all = (h.joins, tt);
  few = h.few;
  first = row.terms;
  more = [];
  are = refl;
}

pub one_list_many : (row : Row) → TermsShown row → ListsMany (only_list row)
one_list_many row h = record {
  shown = one_list_shown row (arguments_are_shown row h);
  some = ap (λ ts. are_no_arguments (ts ∷ [])) h.are;
}

lists_pushed : (lists : List (List TextTerm)) (ts first : List TextTerm) (more : List (List TextTerm)) → lists ≡ first ∷ more → lists ++ ts ∷ [] ≡ first ∷ (more ++ ts ∷ [])
lists_pushed lists ts first more e = ap (λ us. us ++ ts ∷ []) e

some_arguments : (first ts : List TextTerm) (more : List (List TextTerm)) → are_no_arguments (first ∷ (more ++ ts ∷ [])) ≡ false
some_arguments [] ts [] = refl
some_arguments [] ts (us ∷ more) = refl
some_arguments (t ∷ us) ts more = refl

pub more_lists_shown : (rows : Rows) (row : Row) → ListsShown rows → ArgumentsShown row → ListsMany (with_list rows row)
more_lists_shown rows row h s =
    let inks : list_inks rows.lists ≡ list_inks (h.first ∷ h.more) = ap list_inks h.are in
    record {
      shown = record {
        written = record {
          derivation = g.or_list h.written.derivation s.written.derivation;
          words_are = more_words Semicolon (list_ink (map printed h.first)) (list_inks h.more) (list_ink (map printed row.terms)) (g.lists_words h.written.derivation) (g.arguments_words s.written.derivation) (h.written.words_are ∙ ap (side_words Semicolon) inks) s.written.words_are
              ∙ ap (side_words Semicolon) (sym (list_inks-push rows.lists row.terms ∙ ap (λ is. is ++ list_ink (map printed row.terms) ∷ []) inks));
          spells = λ i. g.both (λ r q. Some (with_list r q)) (h.written.spells i) (s.written.spells i);
        };
        all = subst AllJoin (sym (list_inks-push rows.lists row.terms)) (AllJoin-append (list_inks rows.lists) (list_ink (map printed row.terms) ∷ []) h.all (s.joins, tt));
        few = counted_few (rows.choices + row.choices);
        first = h.first;
        more = h.more ++ row.terms ∷ [];
        are = lists_pushed rows.lists row.terms h.first h.more h.are;
      };
      some = ap are_no_arguments (lists_pushed rows.lists row.terms h.first h.more h.are) ∙ some_arguments h.first row.terms h.more;
    }

-- a name with its arguments
pub named_printed : (b : ℕ) (bs : List ℕ) (lists : List (List TextTerm)) → are_no_arguments lists ≡ false → printed (Function (b ∷ bs) lists) ≡ on_line Primary (word (name (b ∷ bs)) ∷ in_parens (lists_ink (map (map printed) lists)))
named_printed b bs lists some = function_printed (b ∷ bs) lists ∙ ap (on_line Primary) (named_with_arguments (b ∷ bs) (map (map printed) lists) (no_arguments_map printed lists ∙ some))

pub function_shown : (f : List ℕ) → IsName f → (rows : Rows) → ListsMany rows → IfSome (named f rows) IsShown
function_shown [] n rows h = let none : ◌≡◌ {A = Option ℕ} None (Some 0) = n.all_of_it in cc
function_shown (b ∷ bs) n rows h =
    let r : Part = record { term = Function (b ∷ bs) rows.lists; height = suc rows.height; choices = rows.choices } in
    let inside : List Ink = lists_ink (map (map printed) rows.lists) in
    let ink : List Ink = word (name (b ∷ bs)) ∷ in_parens inside in
    let w = h.shown.written in
    fitting_shown r (on_line Primary ink) (named_printed b bs rows.lists h.some) (λ e.
    plain_shown Primary ink r
    (record {
      derivation = g.function (b ∷ bs) w.derivation;
      words_are = ap (λ ws. name (b ∷ bs) ∷ sign LeftParen ∷ (ws ++ sign RightParen ∷ [])) w.words_are ∙ sym (ap (λ ws. name (b ∷ bs) ∷ ws) (in_parens_words inside));
      spells = ap (option_and_then (named (b ∷ bs))) w.spells ∙ e;
    })
    h.shown.few
    (name_joins (b ∷ bs) n (in_parens inside) (sign_starts (sign LeftParen) left_paren_sign (inside ++ mark RightParen ∷ []))
    (parens_join inside (side_joins semicolon semicolon_between (list_inks rows.lists) h.shown.all))))

-- tuples
pub empty_tuple_shown : IsShown (leaf (Function [] ([] ∷ [])))
empty_tuple_shown =
    shown_by (leaf (Function [] ([] ∷ []))) (parenthesis []) (function_printed [] ([] ∷ []))
    (parens_shown [] (leaf (Function [] ([] ∷ []))) (record { derivation = g.empty_tuple; words_are = refl; spells = refl }) (omega arith) nothing_joins)

tuple_of_two : (ts : List TextTerm) → Two TextTerm ts → tuple_inside (map printed ts) ≡ list_ink (map printed ts)
tuple_of_two ts h = subst (λ us. tuple_inside (map printed us) ≡ list_ink (map printed us)) (sym h.are) refl

grouped_two : (row : Row) (ts : List TextTerm) → Two TextTerm ts → grouped ts row ≡ tuple_of row
grouped_two row ts h = ap (λ us. grouped us row) h.are

pooled_two : (row : Row) (ts : List TextTerm) → Two TextTerm ts → pooled ts row ≡ g.fitting (record { term = Pool row.terms; height = suc row.height; choices = row.choices })
pooled_two row ts h = ap (λ us. pooled us row) h.are

pub many_tuple_shown : (row : Row) → TermsMany row → IfSome (tuple_of row) IsShown
many_tuple_shown row h =
    let r : Part = record { term = Function [] (row.terms ∷ []); height = suc row.height; choices = row.choices } in
    let inside : List Ink = list_ink (map printed row.terms) in
    let both_are : Two TextTerm row.terms = record { first = h.first; second = h.second; more = h.more; are = h.are } in
    let w = h.shown.written in
    fitting_shown r (parenthesis inside) (function_printed [] (row.terms ∷ []) ∙ ap parenthesis (tuple_of_two row.terms both_are)) (λ e.
    parens_shown inside r
    (record {
      derivation = g.tuple w.derivation;
      words_are = w.words_are;
      spells = ap (option_and_then (λ r. grouped r.terms r)) w.spells ∙ grouped_two row row.terms both_are ∙ e;
    })
    h.shown.few (side_joins comma comma_between (term_inks row.terms) h.shown.all))

-- terms without a last comma
pub many_grouped_shown : (row : Row) → TermsMany row → IfSome (grouped row.terms row) IsShown
many_grouped_shown row h =
    let both_are : Two TextTerm row.terms = record { first = h.first; second = h.second; more = h.more; are = h.are } in
    subst (λ o. IfSome o IsShown) (sym (grouped_two row row.terms both_are)) (many_tuple_shown row h)

pub one_grouped_shown : (p : Part) → IsShown p → IfSome (grouped (with_term no_terms p).terms (with_term no_terms p)) IsShown
one_grouped_shown p s = subst IsShown (sym (alone_in_row p s.few)) s

-- a tuple of one
pub comma_tuple_shown : (p : Part) → IsShown p → IfSome (tuple_of (with_term no_terms p)) IsShown
comma_tuple_shown p s =
    let row : Row = with_term no_terms p in
    let r : Part = record { term = Function [] ((p.term ∷ []) ∷ []); height = suc row.height; choices = row.choices } in
    let inside : List Ink = (printed p.term).ink ++ comma in
    let whole : OnLine Interval (ink_words (printed p.term).ink) p = as_whole (printed p.term).line (ink_words (printed p.term).ink) p s.written in
    fitting_shown r (parenthesis inside) (function_printed [] ((p.term ∷ []) ∷ [])) (λ e.
    parens_shown inside r
    (record {
      derivation = g.tuple_comma (g.one_term whole.derivation);
      words_are = ap (λ ws. ws ++ sign Comma ∷ []) whole.words_are ∙ sym (ink_words_append (printed p.term).ink comma);
      spells = ap (λ o. option_and_then tuple_of (option_map (with_term no_terms) o)) whole.spells ∙ e;
    })
    (counted_few (1 * p.choices))
    (joins_between (printed p.term).ink (sign Comma) [] comma_sign s.joins nothing_joins))

-- parentheses
pub one_pooled_shown : (p : Part) → IsShown p → IfSome (pooled (with_alternative no_alternative p).terms (with_alternative no_alternative p)) IsShown
one_pooled_shown p s = subst IsShown (sym (alone_as_alternative p s.few)) s

pub pool_shown : (row : Row) → TuplesMany row → IfSome (pooled row.terms row) IsShown
pool_shown row h =
    let r : Part = record { term = Pool row.terms; height = suc row.height; choices = row.choices } in
    let inside : List Ink = alternatives_ink (map printed row.terms) in
    let w = h.shown.written in
    subst (λ o. IfSome o IsShown) (sym (pooled_two row row.terms h.two_are))
    (fitting_shown r (on_line Primary (in_parens inside)) (pool_printed row.terms) (λ e.
    plain_shown Primary (in_parens inside) r
    (record {
      derivation = g.parenthesis w.derivation;
      words_are = ap (λ ws. sign LeftParen ∷ (ws ++ sign RightParen ∷ [])) w.words_are ∙ sym (in_parens_words inside);
      spells = ap (option_and_then (λ r. pooled r.terms r)) w.spells ∙ pooled_two row row.terms h.two_are ∙ e;
    })
    h.shown.few
    (parens_join inside (side_joins semicolon semicolon_between (insides row.terms) h.shown.all))))
