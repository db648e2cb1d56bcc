-- What is spelled is what the function of the words gives: terms, literals and elements.
use Rattle.std.proofs.Common.{◌≡◌, ℕ, zero, suc, ◌<◌, ◌≤◌, Bool, true, false, List, [], ◌∷◌, ◌++◌, map, length, Option, Some, None, refl, sym, ap, ◌∙◌, subst, arith, append_assoc, append-nil, length-append}
use Rattle.std.specs.Option.{IfSome, option_map, option_and_then}
use Rattle.ms_text.specs.declared.token.TokenKind.{TokenKind}
use Rattle.ms_text.specs.declared.token.TokenKind.TheVariants.{Not, DotDot, Dot, Comma, Semicolon, Colon, If, LeftParen, RightBrace, Plus, Minus, Star, Slash, Backslash, Equal, EqualEqual, NotEqual, LessGreater, Less, LessEqual, Greater, GreaterEqual}
use Rattle.ms_grammar.specs.declared.term.TextTerm.{TextTerm}
use Rattle.ms_grammar.specs.declared.statement.Cmp.{Cmp}
use Rattle.ms_grammar.specs.declared.statement.TextLit.{TextLit}
use Rattle.ms_grammar.specs.declared.statement.TextLit.TheVariants.{Positive, Negated}
use Rattle.ms_grammar.specs.declared.part.Part.{Part}
use Rattle.ms_grammar.specs.declared.part.Counted.{Counted}
use Rattle.ms_grammar.specs.Words.{Word, name, number, quoted, sign, separated}
use Rattle.ms_grammar.specs.Reading.{carries_on, EndsTerm, ends_part, EndsPart}
use Rattle.ms_grammar.specs.Terms as g
use Rattle.ms_grammar.specs.Statements as st
use Rattle.ms_grammar.specs.Statements.{Atom, atom_words, atom_spelled, as_atom, bounded, term_spelled, Literal, literal_words, literal_spelled, Conditions, conditions_words, conditions_spelled, SetPart, set_part_words, set_part_spelled, TuplePart, tuple_part_words, tuple_part_spelled, cmp_of, alone, as_element, beside, join, row_of, with_value}
use Rattle.ms_read_term.specs.Machine.{run, at_start}
use Rattle.ms_read_term.proofs.Complete.{complete}
use Rattle.ms_ast.proofs.Somes.{both_some, then_some, map_some, weaker}
use Rattle.ms_ast.proofs.WordReader.{Found, mapped, after, or_else, read_atom, bounded_found, read_term, literal_by, literal_behind, literal_from, read_literal, row_behind, read_row, read_some, is_comma, read_conditions, read_set_part, read_tuple_part}
use Rattle.ms_ast.proofs.Makers.{test_with, set_element, agg_element}

-- what is found satisfies what is known of each thing that may be found
pub found_is : {A : Type 0} (o : Option A) (P : A → Type 0) → ((x : A) → o ≡ Some x → P x) → IfSome o P
found_is None P h = tt
found_is (Some x) P h = h x refl

-- what ends a part ends a term, and is free comparison
pub kind_ends_term : (kind : TokenKind) → ends_part kind ≡ true → carries_on kind ≡ false
kind_ends_term DotDot e = absurd (let false' : ⊥ = cc in false')
kind_ends_term LeftParen e = absurd (let false' : ⊥ = cc in false')
kind_ends_term Plus e = absurd (let false' : ⊥ = cc in false')
kind_ends_term Minus e = absurd (let false' : ⊥ = cc in false')
kind_ends_term Star e = absurd (let false' : ⊥ = cc in false')
kind_ends_term Slash e = absurd (let false' : ⊥ = cc in false')
kind_ends_term Backslash e = absurd (let false' : ⊥ = cc in false')
kind_ends_term kind e = refl

pub part_ends_term : (ws : List Word) → EndsPart ws → EndsTerm ws
part_ends_term [] e = tt
part_ends_term (sign kind ∷ ws) e = kind_ends_term kind e
part_ends_term (name f ∷ ws) e = tt
part_ends_term (number n ∷ ws) e = tt
part_ends_term (quoted s ∷ ws) e = tt

pub kind_is_no_cmp : (kind : TokenKind) → ends_part kind ≡ true → cmp_of kind ≡ None
kind_is_no_cmp Equal e = absurd (let false' : ⊥ = cc in false')
kind_is_no_cmp EqualEqual e = absurd (let false' : ⊥ = cc in false')
kind_is_no_cmp NotEqual e = absurd (let false' : ⊥ = cc in false')
kind_is_no_cmp LessGreater e = absurd (let false' : ⊥ = cc in false')
kind_is_no_cmp Less e = absurd (let false' : ⊥ = cc in false')
kind_is_no_cmp LessEqual e = absurd (let false' : ⊥ = cc in false')
kind_is_no_cmp Greater e = absurd (let false' : ⊥ = cc in false')
kind_is_no_cmp GreaterEqual e = absurd (let false' : ⊥ = cc in false')
kind_is_no_cmp kind e = refl

pub cmp_ends_term : (kind : TokenKind) (cmp : Cmp) → cmp_of kind ≡ Some cmp → carries_on kind ≡ false
cmp_ends_term DotDot cmp e = absurd (let false' : ⊥ = cc in false')
cmp_ends_term LeftParen cmp e = absurd (let false' : ⊥ = cc in false')
cmp_ends_term Plus cmp e = absurd (let false' : ⊥ = cc in false')
cmp_ends_term Minus cmp e = absurd (let false' : ⊥ = cc in false')
cmp_ends_term Star cmp e = absurd (let false' : ⊥ = cc in false')
cmp_ends_term Slash cmp e = absurd (let false' : ⊥ = cc in false')
cmp_ends_term Backslash cmp e = absurd (let false' : ⊥ = cc in false')
cmp_ends_term kind cmp e = refl

-- no term begins with a comparison, nor with what ends a part
pub cmp_begins_none : (kind : TokenKind) (cmp : Cmp) (ws : List Word) → cmp_of kind ≡ Some cmp → run at_start (sign kind ∷ ws) ≡ None
cmp_begins_none Equal cmp ws e = refl
cmp_begins_none EqualEqual cmp ws e = refl
cmp_begins_none NotEqual cmp ws e = refl
cmp_begins_none LessGreater cmp ws e = refl
cmp_begins_none Less cmp ws e = refl
cmp_begins_none LessEqual cmp ws e = refl
cmp_begins_none Greater cmp ws e = refl
cmp_begins_none GreaterEqual cmp ws e = refl
cmp_begins_none kind cmp ws e = cc

end_kind_begins_none : (kind : TokenKind) (ws : List Word) → ends_part kind ≡ true → run at_start (sign kind ∷ ws) ≡ None
end_kind_begins_none Comma ws e = refl
end_kind_begins_none Semicolon ws e = refl
end_kind_begins_none Colon ws e = refl
end_kind_begins_none If ws e = refl
end_kind_begins_none Dot ws e = refl
end_kind_begins_none RightBrace ws e = refl
end_kind_begins_none kind ws e = cc

pub end_begins_none : (ws : List Word) → EndsPart ws → run at_start ws ≡ None
end_begins_none [] e = refl
end_begins_none (sign kind ∷ ws) e = end_kind_begins_none kind ws e
end_begins_none (name f ∷ ws) e = absurd e
end_begins_none (number n ∷ ws) e = absurd e
end_begins_none (quoted s ∷ ws) e = absurd e

-- a term, as it is run and bounded
pub record TermRuns (ws rest : List Word) (c : Counted TextTerm) : Type 0 where
  pub part : Part
  pub runs : run at_start (ws ++ rest) ≡ Some (part, rest)
  pub bounded_is : bounded part ≡ Some c

pub term_runs : (t : g.Term) (rest : List Word) → EndsTerm rest → IfSome (term_spelled t) (TermRuns (g.term_words t) rest)
term_runs t rest ends = then_some bounded (λ p. run at_start (g.term_words t ++ rest) ≡ Some (p, rest)) (TermRuns (g.term_words t) rest)
    (λ p e. found_is (bounded p) (TermRuns (g.term_words t) rest) (λ c b. record { part = p; runs = e; bounded_is = b }))
    (g.term_part t) (found_is (g.term_part t) (λ p. run at_start (g.term_words t ++ rest) ≡ Some (p, rest)) (λ p e. complete t rest p ends e))

pub bounded_found_is : (p : Part) (c : Counted TextTerm) (ws : List Word) → bounded p ≡ Some c → bounded_found p ws ≡ Some (c, ws)
bounded_found_is p c ws e = ap (option_map (λ c. (c, ws))) e

pub term_read : (ws rest : List Word) (c : Counted TextTerm) → TermRuns ws rest c → read_term (ws ++ rest) ≡ Some (c, rest)
term_read ws rest c h = ap (λ o. after o bounded_found) h.runs ∙ bounded_found_is h.part c rest h.bounded_is

pub term_reads : (t : g.Term) (rest : List Word) → EndsTerm rest → IfSome (term_spelled t) (λ c. read_term (g.term_words t ++ rest) ≡ Some (c, rest))
term_reads t rest ends = weaker (term_spelled t) (TermRuns (g.term_words t) rest) (λ c. read_term (g.term_words t ++ rest) ≡ Some (c, rest)) (λ c h. term_read (g.term_words t) rest c h) (term_runs t rest ends)

-- atoms
pub record AtomRuns (ws rest : List Word) (c : Counted TextTerm) : Type 0 where
  pub part : Part
  pub runs : run at_start (ws ++ rest) ≡ Some (part, rest)
  pub is : as_atom part ≡ c

pub atom_runs : (a : Atom) (rest : List Word) → EndsTerm rest → IfSome (atom_spelled a) (AtomRuns (atom_words a) rest)
atom_runs (st.plain f) rest ends = map_some as_atom (λ p. run at_start (atom_words (st.plain f) ++ rest) ≡ Some (p, rest)) (AtomRuns (atom_words (st.plain f)) rest)
    (λ p e. record { part = p; runs = e; is = refl }) (g.primary_part (g.constant f))
    (found_is (g.primary_part (g.constant f)) (λ p. run at_start (atom_words (st.plain f) ++ rest) ≡ Some (p, rest)) (λ p e. complete (g.single (g.product (g.unary (g.primary (g.constant f))))) rest p ends e))
atom_runs (st.applied f lists) rest ends = map_some as_atom (λ p. run at_start (atom_words (st.applied f lists) ++ rest) ≡ Some (p, rest)) (AtomRuns (atom_words (st.applied f lists)) rest)
    (λ p e. record { part = p; runs = e; is = refl }) (g.primary_part (g.function f lists))
    (found_is (g.primary_part (g.function f lists)) (λ p. run at_start (atom_words (st.applied f lists) ++ rest) ≡ Some (p, rest)) (λ p e. complete (g.single (g.product (g.unary (g.primary (g.function f lists))))) rest p ends e))

pub atom_read : (ws rest : List Word) (c : Counted TextTerm) → AtomRuns ws rest c → read_atom (ws ++ rest) ≡ Some (c, rest)
atom_read ws rest c h = ap (mapped as_atom) h.runs ∙ ap (λ x. Some (x, rest)) h.is

-- literals
abbrev pub LiteralRead : List Word → List Word → Counted TextLit → Type 0
LiteralRead ws rest c = read_literal (ws ++ rest) ≡ Some (c, rest)

literal_at_end : (p : Part) (rest : List Word) → EndsPart rest → literal_behind p rest ≡ Some (with_value Positive (as_atom p), rest)
literal_at_end p [] e = refl
literal_at_end p (sign kind ∷ ws) e = ap (λ o. literal_by o p (sign kind ∷ ws) ws) (kind_is_no_cmp kind e)
literal_at_end p (name f ∷ ws) e = absurd e
literal_at_end p (number n ∷ ws) e = absurd e
literal_at_end p (quoted s ∷ ws) e = absurd e

positive_read : (ws rest : List Word) → EndsPart rest → (c : Counted TextTerm) → AtomRuns ws rest c → LiteralRead ws rest (with_value Positive c)
positive_read ws rest e c h = ap (λ o. literal_from o (ws ++ rest)) h.runs ∙ literal_at_end h.part rest e ∙ ap (λ x. Some (with_value Positive x, rest)) h.is

negated_read : (ws rest : List Word) (c : Counted TextTerm) → AtomRuns ws rest c → LiteralRead (sign Not ∷ ws) rest (with_value Negated c)
negated_read ws rest c h = ap (mapped (with_value Negated)) (atom_read ws rest c h)

test_read : (ls rs rest : List Word) (kind : TokenKind) (cmp : Cmp) → cmp_of kind ≡ Some cmp → (c d : Counted TextTerm) → TermRuns ls (sign kind ∷ (rs ++ rest)) c → read_term (rs ++ rest) ≡ Some (d, rest) → LiteralRead (ls ++ sign kind ∷ rs) rest (beside (test_with cmp) c d)
test_read ls rs rest kind cmp is c d h k =
    ap read_literal (append_assoc ls (sign kind ∷ rs) rest)
    ∙ ap (λ o. literal_from o (ls ++ sign kind ∷ (rs ++ rest))) h.runs
    ∙ ap (λ o. literal_by o h.part (sign kind ∷ (rs ++ rest)) (rs ++ rest)) is
    ∙ ap (λ o. after o (λ c rest. mapped (beside (test_with cmp) c) (read_term rest))) (bounded_found_is h.part c (rs ++ rest) h.bounded_is)
    ∙ ap (mapped (beside (test_with cmp) c)) k

test_reads : (l r : g.Term) (kind : TokenKind) (rest : List Word) → EndsPart rest → (o : Option Cmp) → cmp_of kind ≡ o → IfSome (option_and_then (λ cmp. join (test_with cmp) (term_spelled l) (term_spelled r)) o) (LiteralRead (g.term_words l ++ sign kind ∷ g.term_words r) rest)
test_reads l r kind rest e None is = tt
test_reads l r kind rest e (Some cmp) is =
    both_some (λ x y. Some (beside (test_with cmp) x y)) (TermRuns (g.term_words l) (sign kind ∷ (g.term_words r ++ rest))) (λ d. read_term (g.term_words r ++ rest) ≡ Some (d, rest)) (LiteralRead (g.term_words l ++ sign kind ∷ g.term_words r) rest)
    (λ c d h k. test_read (g.term_words l) (g.term_words r) rest kind cmp is c d h k)
    (term_spelled l) (term_spelled r) (term_runs l (sign kind ∷ (g.term_words r ++ rest)) (cmp_ends_term kind cmp is)) (term_reads r rest (part_ends_term rest e))

pub literal_reads : (l : Literal) (rest : List Word) → EndsPart rest → IfSome (literal_spelled l) (LiteralRead (literal_words l) rest)
literal_reads (st.positive a) rest e = map_some (with_value Positive) (AtomRuns (atom_words a) rest) (LiteralRead (atom_words a) rest) (λ c h. positive_read (atom_words a) rest e c h) (atom_spelled a) (atom_runs a rest (part_ends_term rest e))
literal_reads (st.negated a) rest e = map_some (with_value Negated) (AtomRuns (atom_words a) rest) (LiteralRead (sign Not ∷ atom_words a) rest) (λ c h. negated_read (atom_words a) rest c h) (atom_spelled a) (atom_runs a rest (part_ends_term rest e))
literal_reads (st.test l kind r) rest e = test_reads l r kind rest e (cmp_of kind) refl

-- lists
abbrev pub AllSeparate : (Word → Bool) → {D : Type 0} → List (Word × D) → Type 0
AllSeparate separates [] = Unit {0}
AllSeparate separates (m ∷ more) = (separates m.0 ≡ true) × AllSeparate separates more

abbrev pub NoSeparator : (Word → Bool) → List Word → Type 0
NoSeparator separates [] = Unit {0}
NoSeparator separates (w ∷ ws) = separates w ≡ false

module _ {D V : Type 0} (words : D → List Word) (spelled : D → Option (Counted V)) (read : List Word → Found (Counted V)) (separates : Word → Bool) (Ends : List Word → Type 0) where
  abbrev pub more_words_of : List (Word × D) → List Word
  more_words_of [] = []
  more_words_of (m ∷ more) = m.0 ∷ (words m.1 ++ more_words_of more)

  abbrev pub Reads : Type 0
  Reads = (d : D) (rest : List Word) → Ends rest → IfSome (spelled d) (λ c. read (words d ++ rest) ≡ Some (c, rest))

  abbrev RowRead : ℕ → List Word → List Word → Counted (List V) → Type 0
  RowRead n ws rest c = read_row read separates n (ws ++ rest) ≡ Some (c, rest)

  last_read : (n : ℕ) (ws rest : List Word) → NoSeparator separates rest → (c : Counted V) → read (ws ++ rest) ≡ Some (c, rest) → RowRead (suc n) ws rest (beside (λ x xs. x ∷ xs) c (alone []))
  last_read n ws [] h c e = ap (λ o. after o (row_behind read separates (read_row read separates n))) e
  last_read n ws (w ∷ rest) h c e =
      ap (λ o. after o (row_behind read separates (read_row read separates n))) e
      ∙ ap (λ b. elim b [ true ↦ mapped (beside (λ x xs. x ∷ xs) c) (read_row read separates n rest) | false ↦ Some (beside (λ x xs. x ∷ xs) c (alone []), w ∷ rest) ]) h

  next_read : (n : ℕ) (ws : List Word) (w : Word) (more rest : List Word) → separates w ≡ true → (c : Counted V) (cs : Counted (List V)) → read (ws ++ w ∷ (more ++ rest)) ≡ Some (c, w ∷ (more ++ rest)) → read_row read separates n (more ++ rest) ≡ Some (cs, rest) → RowRead (suc n) (ws ++ w ∷ more) rest (beside (λ x xs. x ∷ xs) c cs)
  next_read n ws w more rest h c cs e f =
      ap (read_row read separates (suc n)) (append_assoc ws (w ∷ more) rest)
      ∙ ap (λ o. after o (row_behind read separates (read_row read separates n))) e
      ∙ ap (λ b. elim b [ true ↦ mapped (beside (λ x xs. x ∷ xs) c) (read_row read separates n (more ++ rest)) | false ↦ Some (beside (λ x xs. x ∷ xs) c (alone []), w ∷ (more ++ rest)) ]) h
      ∙ ap (mapped (beside (λ x xs. x ∷ xs) c)) f

  pub row_reads : Reads → ((w : Word) (ws : List Word) → separates w ≡ true → Ends (w ∷ ws)) → (d : D) (more : List (Word × D)) → AllSeparate separates more → (n : ℕ) → length more < n → (rest : List Word) → Ends rest → NoSeparator separates rest
      → IfSome (row_of spelled (d ∷ map (λ m. m.1) more)) (RowRead n (words d ++ more_words_of more) rest)
  row_reads reads ends d more all zero few rest e free = absurd (omega arith)
  row_reads reads ends d [] all (suc n) few rest e free =
      both_some (λ c cs. Some (beside (λ x xs. x ∷ xs) c cs)) (λ c. read (words d ++ rest) ≡ Some (c, rest)) (λ cs. cs ≡ alone []) (RowRead (suc n) (words d ++ []) rest)
      (λ c cs h k. subst (λ ws. RowRead (suc n) ws rest (beside (λ x xs. x ∷ xs) c cs)) (sym (append-nil (words d))) (subst (λ x. RowRead (suc n) (words d) rest (beside (λ x xs. x ∷ xs) c x)) (sym k) (last_read n (words d) rest free c h)))
      (spelled d) (Some (alone [])) (reads d rest e) refl
  row_reads reads ends d (m ∷ more) all (suc n) few rest e free =
      both_some (λ c cs. Some (beside (λ x xs. x ∷ xs) c cs)) (λ c. read (words d ++ m.0 ∷ ((words m.1 ++ more_words_of more) ++ rest)) ≡ Some (c, m.0 ∷ ((words m.1 ++ more_words_of more) ++ rest))) (RowRead n (words m.1 ++ more_words_of more) rest) (RowRead (suc n) (words d ++ m.0 ∷ (words m.1 ++ more_words_of more)) rest)
      (λ c cs h k. next_read n (words d) m.0 (words m.1 ++ more_words_of more) rest all.0 c cs h k)
      (spelled d) (row_of spelled (m.1 ∷ map (λ m. m.1) more))
      (reads d (m.0 ∷ ((words m.1 ++ more_words_of more) ++ rest)) (ends m.0 ((words m.1 ++ more_words_of more) ++ rest) all.0))
      (row_reads reads ends m.1 more all.1 n (omega arith) rest e free)

  more_words_long : (more : List (Word × D)) → length more ≤ length (more_words_of more)
  more_words_long [] = omega arith
  more_words_long (m ∷ more) = omega (arith, more_words_long more, length-append (words m.1) (more_words_of more))

  -- with as many turns as there are words
  pub some_reads : Reads → ((w : Word) (ws : List Word) → separates w ≡ true → Ends (w ∷ ws)) → (d : D) (more : List (Word × D)) → AllSeparate separates more → (rest : List Word) → Ends rest → NoSeparator separates rest
      → IfSome (row_of spelled (d ∷ map (λ m. m.1) more)) (λ c. read_some read separates ((words d ++ more_words_of more) ++ rest) ≡ Some (c, rest))
  some_reads reads ends d more all rest e free =
      let long : length more < suc (length ((words d ++ more_words_of more) ++ rest)) = omega (arith, more_words_long more, length-append (words d ++ more_words_of more) rest, length-append (words d) (more_words_of more)) in
      row_reads reads ends d more all (suc (length ((words d ++ more_words_of more) ++ rest))) long rest e free

  -- with one separator
  abbrev behind_sign : TokenKind → List D → List (Word × D)
  behind_sign kind ds = map (λ e. (sign kind, e)) ds

  separated_is : (kind : TokenKind) (d : D) (ds : List D) → separated (sign kind) (map words (d ∷ ds)) ≡ words d ++ more_words_of (behind_sign kind ds)
  separated_is kind d [] = sym (append-nil (words d))
  separated_is kind d (e ∷ es) = ap (λ ws. words d ++ sign kind ∷ ws) (separated_is kind e es)

  back : (kind : TokenKind) (ds : List D) → map (λ m. m.1) (behind_sign kind ds) ≡ ds
  back kind [] = refl
  back kind (d ∷ ds) = ap (λ es. d ∷ es) (back kind ds)

  all_separate : (kind : TokenKind) → separates (sign kind) ≡ true → (ds : List D) → AllSeparate separates (behind_sign kind ds)
  all_separate kind h [] = tt
  all_separate kind h (d ∷ ds) = (h, all_separate kind h ds)

  pub separated_reads : Reads → ((w : Word) (ws : List Word) → separates w ≡ true → Ends (w ∷ ws)) → (kind : TokenKind) → separates (sign kind) ≡ true → (d : D) (ds : List D) (rest : List Word) → Ends rest → NoSeparator separates rest
      → IfSome (row_of spelled (d ∷ ds)) (λ c. read_some read separates (separated (sign kind) (map words (d ∷ ds)) ++ rest) ≡ Some (c, rest))
  separated_reads reads ends kind h d ds rest e free =
      subst (λ ws. IfSome (row_of spelled (d ∷ ds)) (λ c. read_some read separates (ws ++ rest) ≡ Some (c, rest))) (sym (separated_is kind d ds))
      (subst (λ es. IfSome (row_of spelled (d ∷ es)) (λ c. read_some read separates ((words d ++ more_words_of (behind_sign kind ds)) ++ rest) ≡ Some (c, rest))) (back kind ds)
      (some_reads reads ends d (behind_sign kind ds) (all_separate kind h ds) rest e free))

pub any_from_some : {A : Type 0} (o other : Found A) (x : A) (rest : List Word) → o ≡ Some (x, rest) → or_else o other ≡ Some (x, rest)
any_from_some o other x rest e = ap (λ p. or_else p other) e

-- a comma, or a separator, ends what stands before it
pub comma_ends : (w : Word) (ws : List Word) → is_comma w ≡ true → EndsPart (w ∷ ws)
comma_ends (sign Comma) ws e = refl
comma_ends (sign kind) ws e = absurd (let false' : ⊥ = cc in false')
comma_ends (name f) ws e = absurd (let false' : ⊥ = cc in false')
comma_ends (number n) ws e = absurd (let false' : ⊥ = cc in false')
comma_ends (quoted s) ws e = absurd (let false' : ⊥ = cc in false')

comma_ends_term : (w : Word) (ws : List Word) → is_comma w ≡ true → EndsTerm (w ∷ ws)
comma_ends_term w ws e = part_ends_term (w ∷ ws) (comma_ends w ws e)

-- what ends an element
pub data ElementEnd : List Word → Type 0 where
  next_element : {ws : List Word} → ElementEnd (sign Semicolon ∷ ws)
  last_element : {ws : List Word} → ElementEnd (sign RightBrace ∷ ws)

element_ends_part : {rest : List Word} → ElementEnd rest → EndsPart rest
element_ends_part next_element = refl
element_ends_part last_element = refl

element_no_comma : {rest : List Word} → ElementEnd rest → NoSeparator is_comma rest
element_no_comma next_element = refl
element_no_comma last_element = refl

abbrev ConditionsRead : List Word → List Word → Counted (List TextLit) → Type 0
ConditionsRead ws rest c = read_conditions (ws ++ rest) ≡ Some (c, rest)

no_colon_read : {rest : List Word} → ElementEnd rest → ConditionsRead [] rest (alone [])
no_colon_read next_element = refl
no_colon_read last_element = refl

colon_read : {rest : List Word} → ElementEnd rest → ConditionsRead (sign Colon ∷ []) rest (alone [])
colon_read next_element = refl
colon_read last_element = refl

conditions_read : (c : Conditions) (rest : List Word) → ElementEnd rest → IfSome (conditions_spelled c) (ConditionsRead (conditions_words c) rest)
conditions_read st.no_colon rest e = no_colon_read e
conditions_read (st.colon []) rest e = colon_read e
conditions_read (st.colon (l ∷ ls)) rest e =
    weaker (row_of literal_spelled (l ∷ ls)) (λ c. read_some read_literal is_comma (separated (sign Comma) (map literal_words (l ∷ ls)) ++ rest) ≡ Some (c, rest)) (ConditionsRead (conditions_words (st.colon (l ∷ ls))) rest)
    (λ c h. any_from_some (read_some read_literal is_comma (separated (sign Comma) (map literal_words (l ∷ ls)) ++ rest)) (Some (alone [], separated (sign Comma) (map literal_words (l ∷ ls)) ++ rest)) c rest h)
    (separated_reads literal_words literal_spelled read_literal is_comma EndsPart literal_reads comma_ends Comma refl l ls rest (element_ends_part e) (element_no_comma e))

conditions_end : (c : Conditions) (rest : List Word) → ElementEnd rest → EndsTerm (conditions_words c ++ rest)
conditions_end st.no_colon rest e = part_ends_term rest (element_ends_part e)
conditions_end (st.colon ls) rest e = refl

conditions_no_comma : (c : Conditions) (rest : List Word) → ElementEnd rest → NoSeparator is_comma (conditions_words c ++ rest)
conditions_no_comma st.no_colon rest e = element_no_comma e
conditions_no_comma (st.colon ls) rest e = refl

-- elements
set_part_some : (a : Option (Counted TextTerm)) (b : Option (Counted (List TextLit))) (as_words conds rest : List Word) → IfSome a (AtomRuns as_words (conds ++ rest)) → IfSome b (ConditionsRead conds rest) → IfSome (option_map as_element (join set_element a b)) (λ c. read_set_part ((as_words ++ conds) ++ rest) ≡ Some (c, rest))
set_part_some None None as_words conds rest h k = tt
set_part_some None (Some d) as_words conds rest h k = tt
set_part_some (Some c) None as_words conds rest h k = tt
set_part_some (Some c) (Some d) as_words conds rest h k =
    ap read_set_part (append_assoc as_words conds rest)
    ∙ ap (λ o. after o (λ a rest. mapped (λ conds. as_element (beside set_element a conds)) (read_conditions rest))) (atom_read as_words (conds ++ rest) c h)
    ∙ ap (mapped (λ conds. as_element (beside set_element c conds))) k

tuple_part_some : (a : Option (Counted (List TextTerm))) (b : Option (Counted (List TextLit))) (terms conds rest : List Word) → IfSome a (λ c. read_some read_term is_comma (terms ++ (conds ++ rest)) ≡ Some (c, conds ++ rest)) → IfSome b (ConditionsRead conds rest) → IfSome (option_map as_element (join agg_element a b)) (λ c. read_tuple_part ((terms ++ conds) ++ rest) ≡ Some (c, rest))
tuple_part_some None None terms conds rest h k = tt
tuple_part_some None (Some d) terms conds rest h k = tt
tuple_part_some (Some c) None terms conds rest h k = tt
tuple_part_some (Some c) (Some d) terms conds rest h k =
    ap read_tuple_part (append_assoc terms conds rest)
    ∙ ap (λ o. after o (λ ts rest. mapped (λ conds. as_element (beside agg_element ts conds)) (read_conditions rest))) h
    ∙ ap (mapped (λ conds. as_element (beside agg_element c conds))) k

pub set_part_reads : (e : SetPart) (rest : List Word) → ElementEnd rest → IfSome (set_part_spelled e) (λ c. read_set_part (set_part_words e ++ rest) ≡ Some (c, rest))
set_part_reads e rest h = set_part_some (atom_spelled e.atom) (conditions_spelled e.conditions) (atom_words e.atom) (conditions_words e.conditions) rest (atom_runs e.atom (conditions_words e.conditions ++ rest) (conditions_end e.conditions rest h)) (conditions_read e.conditions rest h)

pub tuple_part_reads : (e : TuplePart) (rest : List Word) → ElementEnd rest → IfSome (tuple_part_spelled e) (λ c. read_tuple_part (tuple_part_words e ++ rest) ≡ Some (c, rest))
tuple_part_reads e rest h = tuple_part_some (row_of term_spelled (e.first ∷ e.more)) (conditions_spelled e.conditions) (separated (sign Comma) (map g.term_words (e.first ∷ e.more))) (conditions_words e.conditions) rest
    (separated_reads g.term_words term_spelled read_term is_comma EndsTerm term_reads comma_ends_term Comma refl e.first e.more (conditions_words e.conditions ++ rest) (conditions_end e.conditions rest h) (conditions_no_comma e.conditions rest h))
    (conditions_read e.conditions rest h)
