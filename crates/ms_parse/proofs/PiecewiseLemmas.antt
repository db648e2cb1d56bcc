-- Statement after statement, up to the end or to a piece that is none.
use Rattle.std.proofs.Common.{◌≡◌, ℕ, List, [], ◌∷◌, ◌++◌, length, Option, Some, None, refl, sym, ap, ◌∙◌, subst, inl, inr, append-nil, append_assoc}
use Rattle.std.proofs.lemmas.List.{drop_at}
use Rattle.std.proofs.lemmas.List.Elements.{All-drop}
use Rattle.ms_text.specs.declared.token.Token.{Token}
use Rattle.ms_text.specs.Tokens.{LieWithin}
use Rattle.ms_grammar.specs.declared.statement.Statement.{Statement}
use Rattle.ms_grammar.specs.Statements.{pieces_of, IsStatement, AreStatements, IsBadLine, first_line}
use Rattle.ms_parse.specs.Gives.{AreExactly}
use Rattle.ms_parse.specs.Pieces.{IsFirstPiece}
use Rattle.ms_words.proofs.SignLemmas.{LiesWithin}

-- The statements of the tokens go on with those of the rest.
pub record GoOn (text : List ℕ) (rest : List Token) (statements all : List Statement) : Type 0 where
  pub more : List Statement
  pub are : AreStatements text (pieces_of rest) more
  pub joined : all ≡ statements ++ more

-- The statements are those of the tokens before the rest, and there are no others.
pub record IsReadUpTo (text : List ℕ) (tokens : List Token) (statements : List Statement) (rest : List Token) : Type 0 where
  pub goes_on : (more : List Statement) → AreStatements text (pieces_of rest) more → AreStatements text (pieces_of tokens) (statements ++ more)
  pub only : (all : List Statement) → AreStatements text (pieces_of tokens) all → GoOn text rest statements all
  pub bad_line : (line : ℕ) → IsBadLine text (pieces_of rest) line → IsBadLine text (pieces_of tokens) line
  pub within : LieWithin (length text) rest

rest_within : (n : ℕ) (tokens piece after : List Token) → IsFirstPiece tokens piece after → LieWithin n tokens → LieWithin n after
rest_within n tokens piece after h w = rw (← drop_at piece after _ refl) (All-drop (LiesWithin n) (length piece) (piece ++ after) (rw h.joined at w))

-- what is found is the statement of the piece, and there is no other
abbrev pub Only : List ℕ → List Token → Option Statement → Type 0
Only text piece found = (s : Statement) → IsStatement text piece s → found ≡ Some s

-- one more piece, before the statements and the bad line of those after it
AreStatements-cons : (text : List ℕ) (tokens piece after : List Token) (s : Statement) (more : List Statement) → pieces_of tokens ≡ piece ∷ pieces_of after → IsStatement text piece s → AreStatements text (pieces_of after) more → AreStatements text (pieces_of tokens) (s ∷ more)
unfolding AreStatements
AreStatements-cons text tokens piece after s more e h m = rw e (h, m)

-- the statements of pieces begin with that of the first one
record Uncons (text : List ℕ) (piece : List Token) (pieces : List (List Token)) (all : List Statement) : Type 0 where
  pub first : Statement
  pub more : List Statement
  pub is : IsStatement text piece first
  pub are : AreStatements text pieces more
  pub all_is : all ≡ first ∷ more

uncons : (text : List ℕ) (piece : List Token) (pieces : List (List Token)) (all : List Statement) → AreStatements text (piece ∷ pieces) all → Uncons text piece pieces all
unfolding AreStatements
uncons text piece pieces [] h = absurd h
uncons text piece pieces (s ∷ ss) h = record { first = s; more = ss; is = h.0; are = h.1; all_is = refl }

IsBadLine-more : (text : List ℕ) (tokens piece after : List Token) (s : Statement) (line : ℕ) → pieces_of tokens ≡ piece ∷ pieces_of after → IsStatement text piece s → IsBadLine text (pieces_of after) line → IsBadLine text (pieces_of tokens) line
unfolding IsBadLine
IsBadLine-more text tokens piece after s line e h b = rw e (inr (s, h, b))

IsBadLine-first : (text : List ℕ) (tokens piece after : List Token) (line : ℕ) → pieces_of tokens ≡ piece ∷ pieces_of after → ((s : Statement) → IsStatement text piece s → ⊥) → line ≡ first_line piece → IsBadLine text (pieces_of tokens) line
unfolding IsBadLine
IsBadLine-first text tokens piece after line e none at = rw e (inl (none, at))

no_statements : (text : List ℕ) (rest : List Token) (all : List Statement) → rest ≡ [] → AreStatements text (pieces_of rest) all → all ≡ []
unfolding AreStatements pieces_of
no_statements text rest all e h = none all (rw e at h)
  where
    none : (all : List Statement) → AreStatements text [] all → all ≡ []
    none [] h = refl
    none (s ∷ ss) h = absurd h

-- nothing has been read
pub read_up_to_start : (text : List ℕ) (tokens : List Token) → LieWithin (length text) tokens → IsReadUpTo text tokens [] tokens
read_up_to_start text tokens within = record {
  goes_on = λ more m. m;
  only = λ all h. record { more = all; are = h; joined = refl };
  bad_line = λ line b. b;
  within = within;
}

module _ (text : List ℕ) (tokens : List Token) (statements : List Statement) (rest : List Token) (read : IsReadUpTo text tokens statements rest) where
  -- the statements go on behind one more piece
  go_on : (piece after : List Token) (s : Statement) (all : List Statement) → IsFirstPiece rest piece after → Only text piece (Some s) → GoOn text rest statements all → GoOn text after (statements ++ s ∷ []) all
  go_on piece after s all first only g =
      let P : List (List Token) → Type 0 = λ ps. AreStatements text ps g.more in
      let u = uncons text piece (pieces_of after) g.more (subst P first.pieces g.are) in
      let same : s ≡ u.first = cc (only u.first u.is) in
      record {
        more = u.more;
        are = u.are;
        joined = g.joined ∙ ap (λ ss. statements ++ ss) (u.all_is ∙ ap (λ (x : Statement). x ∷ u.more) (sym same)) ∙ sym (append_assoc statements (s ∷ []) u.more);
      }

  -- the next piece is a statement
  pub read_up_to_more : (piece after : List Token) (s : Statement) → IsFirstPiece rest piece after → IsStatement text piece s → Only text piece (Some s) → IsReadUpTo text tokens (statements ++ s ∷ []) after
  read_up_to_more piece after s first is only = record {
    goes_on = λ more m. rw append_assoc (read.goes_on (s ∷ more) (AreStatements-cons text rest piece after s more first.pieces is m));
    only = λ all h. go_on piece after s all first only (read.only all h);
    bad_line = λ line b. read.bad_line line (IsBadLine-more text rest piece after s line first.pieces is b);
    within = rest_within _ rest piece after first read.within;
  }

  nothing_left : rest ≡ [] → AreStatements text (pieces_of rest) []
  unfolding AreStatements pieces_of
  nothing_left e = rw e tt

  -- no token is left
  pub statements_at_end : rest ≡ [] → AreExactly text (pieces_of tokens) statements
  statements_at_end e = record {
    are = let P : List Statement → Type 0 = λ ss. AreStatements text (pieces_of tokens) ss in
        subst P (append-nil statements) (read.goes_on [] (nothing_left e));
    only = λ others h.
        let g = read.only others h in
        g.joined ∙ ap (λ ss. statements ++ ss) (no_statements text rest g.more e g.are) ∙ append-nil statements;
  }

  -- the next piece is no statement
  pub bad_line_at : (piece after : List Token) (line : ℕ) → IsFirstPiece rest piece after → Only text piece None → line ≡ first_line piece → IsBadLine text (pieces_of tokens) line
  bad_line_at piece after line first only at =
      read.bad_line line (IsBadLine-first text rest piece after line first.pieces (λ s h. let f : ⊥ = cc (only s h) in f) at)
