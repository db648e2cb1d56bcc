-- What is still to be printed of a term: a list of pieces, of which the last one is printed next.
use Rattle.std.specs.Prelude.{◌≡◌, ℕ, ◌+◌, ◌*◌, ◌<◌, List, [], ◌∷◌, ◌++◌, length, ⊤}
use Rattle.ms_tree.specs.Tree.{Tree}
use Rattle.ms_tree.specs.Size.{tree_size}
use Rattle.ms_tree.specs.Text.{tree_text}
use Rattle.ms_term.specs.declared.printing.Piece.{Piece}
use Rattle.ms_term.specs.declared.printing.Piece.TheVariants.{Term, Next, Closing}
use Rattle.ms_term.specs.Closings.{closing_bytes}
use Rattle.ms_term.specs.Fronts.{IsFrontOf}
use Rattle.ms_term.specs.Terms.{term_at}

-- a term, a term after a `,`, or what ends a function
abbrev pub piece_text : List Tree → Piece → List ℕ
piece_text ts (Term i) = tree_text (term_at ts i)
piece_text ts (Next i) = 44 ∷ tree_text (term_at ts i)
piece_text ts (Closing c) = closing_bytes c

-- of all pieces, from the last one on
abbrev pub pieces_text : List Tree → List Piece → List ℕ
pieces_text ts [] = []
pieces_text ts (p ∷ ps) = pieces_text ts ps ++ piece_text ts p

-- a piece is larger than the pieces that its printing leaves
abbrev pub piece_size : List Tree → Piece → ℕ
piece_size ts (Term i) = 2 * tree_size (term_at ts i)
piece_size ts (Next i) = 2 * tree_size (term_at ts i)
piece_size ts (Closing c) = 1

abbrev pub pieces_size : List Tree → List Piece → ℕ
pieces_size ts [] = 0
pieces_size ts (p ∷ ps) = piece_size ts p + pieces_size ts ps

abbrev pub PieceBelow : ℕ → Piece → Type 0
PieceBelow n (Term i) = i < n
PieceBelow n (Next i) = i < n
PieceBelow n (Closing c) = ⊤

-- the terms of the pieces are names below n
abbrev pub PiecesBelow : ℕ → List Piece → Type 0
PiecesBelow n [] = ⊤
PiecesBelow n (p ∷ ps) = PieceBelow n p × PiecesBelow n ps

-- A text was to be printed, and then the old pieces. A front of it was appended, and the new pieces are
-- what remains of both; they are smaller.
pub record IsBegun (ts : List Tree) (text : List ℕ) (size : ℕ) (old_pieces new_pieces : List Piece) (old new : List ℕ) : Type 0 where
  pub kept : IsFrontOf old new
  pub same : new ++ pieces_text ts new_pieces ≡ old ++ (text ++ pieces_text ts old_pieces)
  pub smaller : pieces_size ts new_pieces < size + pieces_size ts old_pieces
  pub below : PiecesBelow (length ts) new_pieces
