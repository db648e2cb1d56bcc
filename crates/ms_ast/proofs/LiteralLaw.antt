-- What is printed of atoms, literals and conditions spells them.
use Rattle.std.proofs.Common.{◌≡◌, ℕ, suc, nat_le, Bool, true, false, List, [], ◌∷◌, ◌++◌, map, Option, Some, None, refl, sym, ap, ◌∙◌, subst, if◌then◌else◌}
use Rattle.std.specs.Option.{IfSome, option_map, option_and_then}
use Rattle.ms_text.specs.declared.token.TokenKind.{TokenKind}
use Rattle.ms_text.specs.declared.token.TokenKind.TheVariants.{Not, Comma, Semicolon, Colon, LeftParen, RightParen}
use Rattle.ms_grammar.specs.declared.term.TextTerm.{TextTerm, Function}
use Rattle.ms_grammar.specs.declared.statement.Cmp.{Cmp}
use Rattle.ms_grammar.specs.declared.statement.Cmp.TheVariants.{Eq, Ne, Lt, Le, Gt, Ge}
use Rattle.ms_grammar.specs.declared.statement.TextLit.{TextLit}
use Rattle.ms_grammar.specs.declared.statement.TextLit.TheVariants.{Positive, Negated}
use Rattle.ms_grammar.specs.declared.part.Part.{Part}
use Rattle.ms_grammar.specs.declared.part.Rows.{Rows}
use Rattle.ms_grammar.specs.declared.part.Counted.{Counted}
use Rattle.ms_grammar.specs.Words.{name, sign}
use Rattle.ms_grammar.specs.Terms as g
use Rattle.ms_base.specs.Limits.{most_height}
use Rattle.ms_grammar.specs.Terms.{leaf, named, fitting}
use Rattle.ms_grammar.specs.Statements as st
use Rattle.ms_grammar.specs.Statements.{Atom, atom_words, atom_spelled, as_atom, bounded, term_spelled, Literal, literal_words, literal_spelled, Conditions, conditions_words, conditions_spelled, cmp_of, alone, beside, join, row_of, with_value}
use Rattle.ms_ast.specs.declared.line.Line.TheVariants.{Interval}
use Rattle.ms_ast.specs.Ink.{Ink, blank, word, ink_words, mark, in_parens, side_by_side, semicolon, comma_blank, apart}
use Rattle.ms_ast.specs.Terms.{printed, term_ink, lists_ink}
use Rattle.ms_ast.specs.Statements.{cmp_kind, literal_ink, conditions_ink}
use Rattle.ms_ast.specs.Law.{IsName, HaveNames}
use Rattle.ms_ast.proofs.Inks.{ink_words_append}
use Rattle.ms_ast.proofs.Printing.{function_printed}
use Rattle.ms_ast.proofs.Names.{names_split, names_each}
use Rattle.ms_ast.proofs.Somes.{both_some, then_some, map_some, kept}
use Rattle.ms_ast.proofs.Apart.{IsToken, Joins, Starts, joins_before, behind_blank, behind_word_blank, blank_starts, nothing_joins, nothing_starts, sign_starts, side_joins}
use Rattle.ms_ast.proofs.Signs.{not_blank, colon_blank, cmp_blank, left_paren_sign, comma_blank_between, semicolon_between, parens_join}
use Rattle.ms_ast.proofs.Operations.{constant_shown, name_joins}
use Rattle.ms_ast.proofs.Lines.{Spelled, OnLine, IsShown, as_whole, in_parens_words}
use Rattle.ms_ast.proofs.Rows.{TermsShown, ArgumentsShown, ListsShown, ListsMany, one_list_many, more_lists_shown, named_printed, list_inks}
use Rattle.ms_ast.proofs.TermLaw.{term_shown, terms_shown, lists_shown, arguments_shown}
use Rattle.ms_ast.proofs.Parts.{IsPrinted, ArePrinted, more_printed, row_printed, separated_printed}
use Rattle.ms_ast.proofs.Makers.{test_with}

abbrev pub TermIs : Counted TextTerm → Type 0
TermIs = IsPrinted g.Term TextTerm g.term_words term_spelled term_ink

pub term_is : (t : g.Term) → HaveNames (g.term_words t) → IfSome (term_spelled t) TermIs
term_is t n = then_some bounded IsShown TermIs (λ p s.
    let whole : OnLine Interval (ink_words (term_ink p.term)) p = as_whole (printed p.term).line (ink_words (term_ink p.term)) p s.written in
    kept TermIs (nat_le p.height most_height) (record { value = p.term; choices = p.choices; elements = 0 }) (λ e low. record {
      written = record { derivation = whole.derivation; words_are = whole.words_are; spells = ap (option_and_then bounded) whole.spells ∙ e };
      joins = s.joins;
    })) (g.term_part t) (term_shown t n)

-- atoms
abbrev pub AtomIs : Counted TextTerm → Type 0
AtomIs = IsPrinted Atom TextTerm atom_words atom_spelled term_ink

constant_words : (f : List ℕ) → IsName f → name f ∷ [] ≡ ink_words (term_ink (Function f ([] ∷ [])))
constant_words [] n = let none : ◌≡◌ {A = Option ℕ} None (Some 0) = n.all_of_it in cc
constant_words (b ∷ bs) n = sym (ap (λ p. ink_words p.ink) (function_printed (b ∷ bs) ([] ∷ [])))

constant_atom : (f : List ℕ) → IsName f → AtomIs (as_atom (leaf (Function f ([] ∷ []))))
constant_atom f n =
    let s : IsShown (leaf (Function f ([] ∷ []))) = constant_shown f n in
    record {
      written = record { derivation = st.plain f; words_are = constant_words f n; spells = refl };
      joins = s.joins;
    }

atom_kept : (b : Bool) (p : Part) → ((if b then Some p else None) ≡ Some p → AtomIs (as_atom p)) → IfSome (option_map as_atom (if b then Some p else None)) AtomIs
atom_kept true p h = h refl
atom_kept false p h = tt

applied_atom : (f : List ℕ) → IsName f → (rows : Rows) → ListsMany rows → IfSome (option_map as_atom (named f rows)) AtomIs
applied_atom [] n rows h = let none : ◌≡◌ {A = Option ℕ} None (Some 0) = n.all_of_it in cc
applied_atom (b ∷ bs) n rows h =
    let r : Part = record { term = Function (b ∷ bs) rows.lists; height = suc rows.height; choices = rows.choices } in
    let inside : List Ink = lists_ink (map (map printed) rows.lists) in
    let ink : List Ink = word (name (b ∷ bs)) ∷ in_parens inside in
    let is : term_ink (Function (b ∷ bs) rows.lists) ≡ ink = ap (λ p. p.ink) (named_printed b bs rows.lists h.some) in
    let w = h.shown.written in
    let joins : Joins ink = name_joins (b ∷ bs) n (in_parens inside) (sign_starts (sign LeftParen) left_paren_sign (inside ++ mark RightParen ∷ []))
    (parens_join inside (side_joins semicolon semicolon_between (list_inks rows.lists) h.shown.all)) in
    atom_kept (nat_le r.height (suc most_height)) r (λ e. record {
      written = record {
        derivation = st.applied (b ∷ bs) w.derivation;
        words_are = ap (λ ws. name (b ∷ bs) ∷ sign LeftParen ∷ (ws ++ sign RightParen ∷ [])) w.words_are ∙ sym (ap (λ ws. name (b ∷ bs) ∷ ws) (in_parens_words inside)) ∙ ap ink_words (sym is);
        spells = ap (λ o. option_map as_atom (option_and_then (named (b ∷ bs)) o)) w.spells ∙ ap (option_map as_atom) e;
      };
      joins = subst Joins (sym is) joins;
    })

applied_some : (f : List ℕ) → IsName f → (o : Option Rows) → IfSome o ListsMany → IfSome (option_map as_atom (option_and_then (named f) o)) AtomIs
applied_some f n None h = tt
applied_some f n (Some rows) h = applied_atom f n rows h

pub atom_is : (a : Atom) → HaveNames (atom_words a) → IfSome (atom_spelled a) AtomIs
atom_is (st.plain f) n = constant_atom f n.0
atom_is (st.applied f (g.one_list g.no_arguments)) n = constant_atom f n.0
atom_is (st.applied f (g.one_list (g.arguments ts))) n =
    let ns = names_split (g.terms_words ts) (sign RightParen ∷ []) n.1 in
    applied_some f n.0 (option_map g.only_list (g.terms_row ts)) (map_some g.only_list TermsShown ListsMany one_list_many (g.terms_row ts) (terms_shown ts ns.0))
atom_is (st.applied f (g.or_list lists args)) n =
    let ns = names_split (g.lists_words (g.or_list lists args)) (sign RightParen ∷ []) n.1 in
    let ms = names_split (g.lists_words lists) (sign Semicolon ∷ g.arguments_words args) ns.0 in
    applied_some f n.0 (g.lists_rows (g.or_list lists args))
    (both_some (λ rows row. Some (g.with_list rows row)) ListsShown ArgumentsShown ListsMany more_lists_shown (g.lists_rows lists) (g.arguments_row args) (lists_shown lists ms.0) (arguments_shown args ms.1))

-- literals
abbrev pub LiteralIs : Counted TextLit → Type 0
LiteralIs = IsPrinted Literal TextLit literal_words literal_spelled literal_ink

pub cmp_back : (cmp : Cmp) → cmp_of (cmp_kind cmp) ≡ Some cmp
cmp_back Eq = refl
cmp_back Ne = refl
cmp_back Lt = refl
cmp_back Le = refl
cmp_back Gt = refl
cmp_back Ge = refl

pub apart_joins : (kind : TokenKind) → ((tail : List ℕ) → IsToken (sign kind) (32 ∷ tail)) → (ink : List Ink) → Joins ink → Joins (apart kind ++ ink)
apart_joins kind s ink j = behind_blank (mark kind ∷ blank ∷ ink) (behind_word_blank (sign kind) s ink j)

positive_is : (c : Counted TextTerm) → AtomIs c → LiteralIs (with_value Positive c)
positive_is c h = record {
  written = record { derivation = st.positive h.written.derivation; words_are = h.written.words_are; spells = ap (option_map (with_value Positive)) h.written.spells };
  joins = h.joins;
}

negated_is : (c : Counted TextTerm) → AtomIs c → LiteralIs (with_value Negated c)
negated_is c h = record {
  written = record { derivation = st.negated h.written.derivation; words_are = ap (λ ws. sign Not ∷ ws) h.written.words_are; spells = ap (option_map (with_value Negated)) h.written.spells };
  joins = behind_word_blank (sign Not) not_blank (term_ink c.value) h.joins;
}

test_is : (cmp : Cmp) (c d : Counted TextTerm) → TermIs c → TermIs d → LiteralIs (beside (test_with cmp) c d)
test_is cmp c d h k = record {
  written = record {
    derivation = st.test h.written.derivation (cmp_kind cmp) k.written.derivation;
    words_are = (λ i. h.written.words_are i ++ sign (cmp_kind cmp) ∷ k.written.words_are i) ∙ sym (ink_words_append (term_ink c.value) (apart (cmp_kind cmp) ++ term_ink d.value));
    spells = (λ i. option_and_then (λ cmp. join (test_with cmp) (h.written.spells i) (k.written.spells i)) (cmp_back cmp i));
  };
  joins = joins_before (term_ink c.value) (apart (cmp_kind cmp) ++ term_ink d.value) h.joins (blank_starts (mark (cmp_kind cmp) ∷ blank ∷ term_ink d.value)) (apart_joins (cmp_kind cmp) (cmp_blank cmp) (term_ink d.value) k.joins);
}

test_some : (o : Option Cmp) (a b : Option (Counted TextTerm)) → IfSome a TermIs → IfSome b TermIs → IfSome (option_and_then (λ cmp. join (test_with cmp) a b) o) LiteralIs
test_some None a b h k = tt
test_some (Some cmp) a b h k = both_some (λ x y. Some (beside (test_with cmp) x y)) TermIs TermIs LiteralIs (test_is cmp) a b h k

pub literal_is : (l : Literal) → HaveNames (literal_words l) → IfSome (literal_spelled l) LiteralIs
literal_is (st.positive a) n = map_some (with_value Positive) AtomIs LiteralIs positive_is (atom_spelled a) (atom_is a n)
literal_is (st.negated a) n = map_some (with_value Negated) AtomIs LiteralIs negated_is (atom_spelled a) (atom_is a n)
literal_is (st.test l kind r) n =
    let ns = names_split (g.term_words l) (sign kind ∷ g.term_words r) n in
    test_some (cmp_of kind) (term_spelled l) (term_spelled r) (term_is l ns.0) (term_is r ns.1)

-- conditions
pub record ConditionsAre (c : Counted (List TextLit)) : Type 0 where
  pub written : Spelled Conditions (Counted (List TextLit)) conditions_words conditions_spelled (ink_words (conditions_ink c.value)) c
  pub joins : Joins (conditions_ink c.value)
  pub starts : Starts (conditions_ink c.value)

no_conditions : ConditionsAre (alone [])
no_conditions = record { written = record { derivation = st.no_colon; words_are = refl; spells = refl }; joins = nothing_joins; starts = nothing_starts }

abbrev LiteralsAre : Counted (List TextLit) → Type 0
LiteralsAre = ArePrinted Literal TextLit literal_words literal_spelled literal_ink

some_conditions : (c : Counted TextLit) (cs : Counted (List TextLit)) → LiteralIs c → LiteralsAre cs → ConditionsAre (beside (λ x xs. x ∷ xs) c cs)
some_conditions c cs h hs =
    let all : LiteralsAre (beside (λ x xs. x ∷ xs) c cs) = more_printed Literal TextLit literal_words literal_spelled literal_ink c cs h hs in
    let inks : List (List Ink) = map literal_ink (c.value ∷ cs.value) in
    record {
      written = record {
        derivation = st.colon all.derivations;
        words_are = ap (λ ws. sign Colon ∷ ws) (separated_printed Literal TextLit literal_words literal_spelled literal_ink comma_blank Comma refl (beside (λ x xs. x ∷ xs) c cs) all);
        spells = all.spells;
      };
      joins = apart_joins Colon colon_blank (side_by_side comma_blank inks) (side_joins comma_blank comma_blank_between inks all.all);
      starts = blank_starts (mark Colon ∷ blank ∷ side_by_side comma_blank inks);
    }

pub conditions_are : (c : Conditions) → HaveNames (conditions_words c) → IfSome (conditions_spelled c) ConditionsAre
conditions_are st.no_colon n = no_conditions
conditions_are (st.colon []) n = no_conditions
conditions_are (st.colon (l ∷ ls)) n =
    let ns = names_each Comma (map literal_words (l ∷ ls)) n in
    both_some (λ c cs. Some (beside (λ x xs. x ∷ xs) c cs)) LiteralIs LiteralsAre ConditionsAre some_conditions (literal_spelled l) (row_of literal_spelled ls)
    (literal_is l ns.0) (row_printed Literal TextLit literal_words literal_spelled literal_ink literal_is ls ns.1)
