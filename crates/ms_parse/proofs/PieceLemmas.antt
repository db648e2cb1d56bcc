-- The first piece ends after the first dot, or with the tokens.
use Rattle.std.proofs.Common.{◌≡◌, ℕ, suc, ◌+◌, ◌<◌, Bool, true, false, List, [], ◌∷◌, length, take, drop, cond, ltb, refl, ap, arith, Some, None, sym, ◌∙◌, ◌==◌, take-append-drop, length-drop}
use Rattle.std.specs.Option.{option_map_or}
use Rattle.std.proofs.lemmas.Bool.Decides.{nat_tests}
use Rattle.ms_text.specs.declared.token.Token.{Token}
use Rattle.ms_text.specs.declared.token.TokenKind.{TokenKind}
use Rattle.ms_text.specs.declared.token.TokenKind.TheVariants.{Dot}
use Rattle.ms_grammar.specs.Statements.{pieces_of, before_pieces, in_first}
use Rattle.ms_parse.specs.Pieces.{is_dot, piece_len, IsFirstPiece}

-- the length by how many tokens stand before the first dot, and how many there are
abbrev len_by : ℕ → ℕ → ℕ
len_by before all = option_map_or (λ n. n + 1) (cond (ltb before all) (Some before) None) all

len_by-more : (before all : ℕ) → len_by (1 + before) (suc all) ≡ suc (len_by before all)
len_by-more before all = grind (arith, nat_tests)

len_by-none : (all : ℕ) → len_by 0 (suc all) ≡ 1
len_by-none all = grind (arith, nat_tests)

piece_len-dot : (t : Token) (ts : List Token) → is_dot t.kind ≡ true → piece_len (t ∷ ts) ≡ 1
piece_len-dot t ts e = rw e (len_by-none _)

piece_len-other : (t : Token) (ts : List Token) → is_dot t.kind ≡ false → piece_len (t ∷ ts) ≡ suc (piece_len ts)
piece_len-other t ts e = rw e (len_by-more _ _)

before_pieces-dot : (k : TokenKind) (t : Token) (pieces : List (List Token)) → is_dot k ≡ true → before_pieces k t pieces ≡ (t ∷ []) ∷ pieces
before_pieces-dot Dot t pieces e = refl
before_pieces-dot _ t pieces e = cc

before_pieces-other : (k : TokenKind) (t : Token) (pieces : List (List Token)) → is_dot k ≡ false → before_pieces k t pieces ≡ in_first t pieces
before_pieces-other Dot t pieces e = cc
before_pieces-other _ t pieces e = refl

-- The first piece has n of the tokens.
abbrev HasPiece : List Token → ℕ → Type 0
HasPiece ts n = pieces_of ts ≡ take n ts ∷ pieces_of (drop n ts)

has_piece-dot : (t : Token) (ts : List Token) → is_dot t.kind ≡ true → HasPiece (t ∷ ts) 1
unfolding pieces_of
has_piece-dot t ts e = before_pieces-dot t.kind t _ e

has_piece-other : (t : Token) (ts : List Token) (n : ℕ) → is_dot t.kind ≡ false → HasPiece ts n → HasPiece (t ∷ ts) (suc n)
unfolding pieces_of
has_piece-other t ts n e h = before_pieces-other t.kind t _ e ∙ ap (in_first t) h

has_piece-last : (t : Token) → is_dot t.kind ≡ false → HasPiece (t ∷ []) 1
unfolding pieces_of
has_piece-last t e = before_pieces-other t.kind t _ e

-- by the test of the first token
has_piece : (t : Token) (ts : List Token) (b : Bool) → is_dot t.kind ≡ b → HasPiece (t ∷ ts) (piece_len (t ∷ ts))
has_piece t ts true e = rw (piece_len-dot t ts e) (has_piece-dot t ts e)
has_piece t [] false e = rw (piece_len-other t [] e) (has_piece-last t e)
has_piece t (u ∷ us) false e = rw (piece_len-other t (u ∷ us) e) (has_piece-other t (u ∷ us) _ e (has_piece u us _ refl))

-- the first piece has a token
piece_len-positive : (t : Token) (ts : List Token) (b : Bool) → is_dot t.kind ≡ b → 0 < piece_len (t ∷ ts)
piece_len-positive t ts true e = rw (piece_len-dot t ts e) (omega arith)
piece_len-positive t ts false e = rw (piece_len-other t ts e) (omega arith)

first_piece-cons : (t : Token) (ts : List Token) → IsFirstPiece (t ∷ ts) (take (piece_len (t ∷ ts)) (t ∷ ts)) (drop (piece_len (t ∷ ts)) (t ∷ ts))
first_piece-cons t ts = record {
  pieces = has_piece t ts _ refl;
  joined = sym (take-append-drop (piece_len (t ∷ ts)) (t ∷ ts));
  shorter = let positive = piece_len-positive t ts _ refl in rw length-drop (omega arith);
}

-- tokens that are split where the first piece ends
pub first_piece : (ts piece after : List Token) (n : ℕ) → (length ts == 0) ≡ false → n ≡ piece_len ts → piece ≡ take n ts → after ≡ drop n ts → IsFirstPiece ts piece after
first_piece [] piece after n e p q r = cc
first_piece (t ∷ ts) piece after n e p q r = rw (q, r, p) (first_piece-cons t ts)

-- what the test for a dot tells
pub kind_of_dot : (kind : TokenKind) → is_dot kind ≡ true → kind ≡ Dot
kind_of_dot Dot e = refl
kind_of_dot _ e = cc

pub other_kind : (kind : TokenKind) → is_dot kind ≡ false → kind ≡ Dot → ⊥
other_kind kind e dot = let f : ⊥ = cc (ap is_dot dot) in f
