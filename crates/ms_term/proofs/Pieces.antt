-- The pieces of a term that are still to be printed.
use Rattle.std.proofs.Common.{◌≡◌, ℕ, ◌+◌, ◌*◌, ◌<◌, List, [], ◌∷◌, ◌++◌, drop, get_or, length, map, reverse, refl, sym, ap, ◌∙◌, append_assoc, append-nil, subst, arith}
use Rattle.std.proofs.lemmas.List.{map-append, reverse-append}
use Rattle.std.specs.Prelude.{Result, Ok, Err, OnOk}
use Rattle.ms_tree.specs.Size.{sizes}
use Rattle.ms_tree.specs.Text.{tree_text, arguments_text, after_text, closing_text}
use Rattle.ms_tree.specs.Tree.{Tree}
use Rattle.ms_term.specs.declared.printing.Piece.{Piece}
use Rattle.ms_term.specs.declared.printing.Piece.TheVariants.{Term, Next, Closing}
use Rattle.ms_term.specs.declared.text.Closing as end
use Rattle.ms_term.specs.Closings.{closing_bytes}
use Rattle.ms_term.specs.Fronts.{IsFrontOf, AppendsFront}
use Rattle.ms_term.specs.Pieces.{IsBegun, piece_text, pieces_text, piece_size, pieces_size, PieceBelow, PiecesBelow}
use Rattle.ms_term.specs.Terms.{term_at, terms_at, AllBelow}
use Rattle.ms_term.proofs.FrontLaws.{front_push, front_then, next_front}

pub on_ok : {T E : Type 0} (r : Result T E) (P Q : Type 0) → OnOk r P → (P → Q) → OnOk r Q
on_ok (Ok x) P Q p f = f p
on_ok (Err e) P Q p f = tt

pub pieces_text-append : (ts : List Tree) (ps qs : List Piece) → pieces_text ts (ps ++ qs) ≡ pieces_text ts qs ++ pieces_text ts ps
pieces_text-append ts [] qs = sym (append-nil (pieces_text ts qs))
pieces_text-append ts (p ∷ ps) qs =
    ap (λ xs. xs ++ piece_text ts p) (pieces_text-append ts ps qs) ∙ append_assoc (pieces_text ts qs) (pieces_text ts ps) (piece_text ts p)

pub pieces_size-append : (ts : List Tree) (ps qs : List Piece) → pieces_size ts (ps ++ qs) ≡ pieces_size ts ps + pieces_size ts qs
pieces_size-append ts [] qs = omega arith
pieces_size-append ts (p ∷ ps) qs = omega (arith, pieces_size-append ts ps qs)

pub PiecesBelow-append : (n : ℕ) (ps qs : List Piece) → PiecesBelow n ps → PiecesBelow n qs → PiecesBelow n (ps ++ qs)
PiecesBelow-append n [] qs a b = b
PiecesBelow-append n (p ∷ ps) qs a b = (a.0, PiecesBelow-append n ps qs a.1 b)

PiecesBelow-front : (n : ℕ) (ps qs : List Piece) → PiecesBelow n (ps ++ qs) → PiecesBelow n ps
PiecesBelow-front n [] qs a = tt
PiecesBelow-front n (p ∷ ps) qs a = (a.0, PiecesBelow-front n ps qs a.1)

PiecesBelow-back : (n : ℕ) (ps qs : List Piece) → PiecesBelow n (ps ++ qs) → PiecesBelow n qs
PiecesBelow-back n [] qs a = a
PiecesBelow-back n (p ∷ ps) qs a = PiecesBelow-back n ps qs a.1

-- arguments after the first, the last one first
next_pieces : List ℕ → List Piece
next_pieces is = map (λ i. Next i) (reverse is)

next_pieces-more : (i : ℕ) (is : List ℕ) → next_pieces (i ∷ is) ≡ next_pieces is ++ Next i ∷ []
unfolding next_pieces
next_pieces-more i is = ap (λ js. map (λ j. Next j) js) (reverse-append (i ∷ []) is) ∙ map-append (λ j. Next j) (reverse is) (i ∷ [])

next_pieces-text : (ts : List Tree) (is : List ℕ) → pieces_text ts (next_pieces is) ≡ after_text (terms_at ts is)
unfolding next_pieces
next_pieces-text ts [] = refl
next_pieces-text ts (i ∷ is) =
    ap (λ ps. pieces_text ts ps) (next_pieces-more i is)
    ∙ (pieces_text-append ts (next_pieces is) (Next i ∷ []) ∙ ap (λ xs. (44 ∷ tree_text (term_at ts i)) ++ xs) (next_pieces-text ts is))

next_pieces-size : (ts : List Tree) (is : List ℕ) → pieces_size ts (next_pieces is) ≡ 2 * sizes (terms_at ts is)
unfolding next_pieces
next_pieces-size ts [] = refl
next_pieces-size ts (i ∷ is) =
    let more = ap (λ ps. pieces_size ts ps) (next_pieces-more i is) in
    omega (arith, more, pieces_size-append ts (next_pieces is) (Next i ∷ []), next_pieces-size ts is)

next_pieces-below : (n : ℕ) (is : List ℕ) → AllBelow n is → PiecesBelow n (next_pieces is)
unfolding next_pieces
next_pieces-below n [] below = tt
next_pieces-below n (i ∷ is) below =
    subst (PiecesBelow n) (sym (next_pieces-more i is)) (PiecesBelow-append n (next_pieces is) (Next i ∷ []) (next_pieces-below n is below.1) (below.0, tt))

-- an argument was put on the pieces
pub next_put : (old now total : List Piece) (is rest : List ℕ) (i : ℕ) → old ++ map (λ j. Next j) (reverse is) ≡ total → is ≡ rest ++ i ∷ [] → now ≡ old ++ Next i ∷ []
    → now ++ map (λ j. Next j) (reverse rest) ≡ total
next_put old now total is rest i before splits put =
    let turned : reverse is ≡ i ∷ reverse rest = ap (λ js. reverse js) splits ∙ reverse-append rest (i ∷ []) in
    ap (λ ps. ps ++ map (λ j. Next j) (reverse rest)) put
    ∙ (append_assoc old (Next i ∷ []) (map (λ j. Next j) (reverse rest))
    ∙ (sym (ap (λ js. old ++ map (λ j. Next j) js) turned) ∙ before))

-- all are
pub all_put : (old begun : List Piece) (is all : List ℕ) → old ++ map (λ j. Next j) (reverse is) ≡ begun ++ map (λ j. Next j) (reverse all) → length is ≡ 0 → old ≡ begun ++ map (λ j. Next j) (reverse all)
all_put old begun [] all before ended = sym (append-nil old) ∙ before
all_put old begun (i ∷ is) all before ended = absurd (omega (arith, ended))

-- what stands before the arguments is printed, and these are left
opened_same : (old name named opened rest after : List ℕ) → named ≡ old ++ name → opened ≡ named ++ 40 ∷ [] → opened ++ (rest ++ after) ≡ old ++ ((name ++ 40 ∷ rest) ++ after)
opened_same old name named opened rest after a b =
    ap (λ xs. xs ++ (rest ++ after)) (b ∙ ap (λ xs. xs ++ 40 ∷ []) a)
    ∙ (append_assoc (old ++ name) (40 ∷ []) (rest ++ after)
    ∙ (append_assoc old name (40 ∷ (rest ++ after))
    ∙ ap (λ xs. old ++ xs) (sym (append_assoc name (40 ∷ rest) after))))

opened_kept : (old name named opened : List ℕ) → named ≡ old ++ name → opened ≡ named ++ 40 ∷ [] → IsFrontOf old opened
opened_kept old name named opened a b = front_then old named opened (front_push old named name a) (front_push named opened (40 ∷ []) b)

module _ (ts : List Tree) (name : List ℕ) (i : ℕ) (is : List ℕ) (c : end.Closing) (old_pieces : List Piece) (closes : closing_bytes c ≡ closing_text name (terms_at ts is)) where
  left : List Piece
  left = Closing c ∷ (next_pieces is ++ Term i ∷ [])

  left_text : pieces_text ts (old_pieces ++ left) ≡ (tree_text (term_at ts i) ++ (after_text (terms_at ts is) ++ closing_text name (terms_at ts is))) ++ pieces_text ts old_pieces
  unfolding left
  left_text =
      let first = tree_text (term_at ts i) in
      let inner : pieces_text ts (next_pieces is ++ Term i ∷ []) ≡ first ++ after_text (terms_at ts is) = pieces_text-append ts (next_pieces is) (Term i ∷ []) ∙ ap (λ xs. first ++ xs) (next_pieces-text ts is) in
      let both : pieces_text ts left ≡ first ++ (after_text (terms_at ts is) ++ closing_text name (terms_at ts is)) =
      ap (λ xs. xs ++ closing_bytes c) inner ∙ (ap (λ xs. (first ++ after_text (terms_at ts is)) ++ xs) closes ∙ append_assoc first (after_text (terms_at ts is)) (closing_text name (terms_at ts is))) in
      pieces_text-append ts old_pieces left ∙ ap (λ xs. xs ++ pieces_text ts old_pieces) both

  left_size : pieces_size ts (old_pieces ++ left) < 2 * (1 + sizes (terms_at ts (i ∷ is))) + pieces_size ts old_pieces
  unfolding left
  left_size =
      omega (arith, pieces_size-append ts old_pieces left, pieces_size-append ts (next_pieces is) (Term i ∷ []), next_pieces-size ts is)

  left_below : (n : ℕ) → AllBelow n (i ∷ is) → PiecesBelow n old_pieces → PiecesBelow n (old_pieces ++ left)
  unfolding left
  left_below n below old_below =
      PiecesBelow-append n old_pieces left old_below (tt, PiecesBelow-append n (next_pieces is) (Term i ∷ []) (next_pieces-below n is below.1) (below.0, tt))

  begun : (new_pieces : List Piece) (old named opened : List ℕ) → AllBelow (length ts) (i ∷ is) → PiecesBelow (length ts) old_pieces → named ≡ old ++ name → opened ≡ named ++ 40 ∷ []
      → new_pieces ≡ old_pieces ++ left → IsBegun ts (name ++ arguments_text name (terms_at ts (i ∷ is))) (2 * (1 + sizes (terms_at ts (i ∷ is)))) old_pieces new_pieces old opened
  begun new_pieces old named opened below old_below a b e =
      let rest = tree_text (term_at ts i) ++ (after_text (terms_at ts is) ++ closing_text name (terms_at ts is)) in
      record {
        kept = opened_kept old name named opened a b;
        same = ap (λ ps. opened ++ pieces_text ts ps) e ∙ (ap (λ xs. opened ++ xs) left_text ∙ opened_same old name named opened rest (pieces_text ts old_pieces) a b);
        smaller = subst (λ ps. pieces_size ts ps < 2 * (1 + sizes (terms_at ts (i ∷ is))) + pieces_size ts old_pieces) (sym e) left_size;
        below = subst (PiecesBelow (length ts)) (sym e) (left_below (length ts) below old_below);
      }

pub function_begun : (ts : List Tree) (name is after : List ℕ) (first : ℕ) (c : end.Closing) (old_pieces new_pieces : List Piece) (old named opened : List ℕ)
    → 0 < length is → first ≡ get_or is 0 first → after ≡ drop 1 is → AllBelow (length ts) is → PiecesBelow (length ts) old_pieces → named ≡ old ++ name → opened ≡ named ++ 40 ∷ []
    → closing_bytes c ≡ closing_text name (terms_at ts after)
    → new_pieces ≡ old_pieces ++ Closing c ∷ (map (λ i. Next i) (reverse after) ++ Term first ∷ [])
    → IsBegun ts (name ++ arguments_text name (terms_at ts is)) (2 * (1 + sizes (terms_at ts is))) old_pieces new_pieces old opened
unfolding next_pieces left
function_begun ts name [] after first c old_pieces new_pieces old named opened h is rest below old_below a b closes e = absurd (omega arith)
function_begun ts name (k ∷ ks) after first c old_pieces new_pieces old named opened h is rest below old_below a b closes e =
    begun ts name k ks c old_pieces (closes ∙ ap (λ js. closing_text name (terms_at ts js)) rest) new_pieces old named opened below old_below a b
    (e ∙ (ap (λ js. old_pieces ++ Closing c ∷ (map (λ i. Next i) (reverse js) ++ Term first ∷ [])) rest ∙ ap (λ j. old_pieces ++ Closing c ∷ (map (λ i. Next i) (reverse ks) ++ Term j ∷ [])) is))

-- there was no memory for the pieces
pub opened_front : (ts : List Tree) (name is old named opened : List ℕ) → 0 < length is → named ≡ old ++ name → opened ≡ named ++ 40 ∷ [] → AppendsFront old opened (name ++ arguments_text name (terms_at ts is))
opened_front ts name [] old named opened h a b = absurd (omega arith)
opened_front ts name (k ∷ ks) old named opened h a b =
    let rest = tree_text (term_at ts k) ++ (after_text (terms_at ts ks) ++ closing_text name (terms_at ts ks)) in
    record {
      kept = opened_kept old name named opened a b;
      front = record {
        rest = rest;
        is = ap (λ xs. opened ++ xs) (sym (append-nil rest)) ∙ (opened_same old name named opened rest [] a b ∙ ap (λ xs. old ++ xs) (append-nil (name ++ 40 ∷ rest)));
      };
    }

-- the last piece was taken off
module _ (ts : List Tree) (pieces taken : List Piece) (p : Piece) (splits : pieces ≡ taken ++ p ∷ []) where
  taken_text : pieces_text ts pieces ≡ piece_text ts p ++ pieces_text ts taken
  taken_text = ap (λ ps. pieces_text ts ps) splits ∙ pieces_text-append ts taken (p ∷ [])

  pub last_below : (n : ℕ) → PiecesBelow n pieces → PieceBelow n p
  last_below n below = (PiecesBelow-back n taken (p ∷ []) (subst (PiecesBelow n) splits below)).0

  pub taken_below : (n : ℕ) → PiecesBelow n pieces → PiecesBelow n taken
  taken_below n below = PiecesBelow-front n taken (p ∷ []) (subst (PiecesBelow n) splits below)

  pub smaller_after : (next : List Piece) → pieces_size ts next < piece_size ts p + pieces_size ts taken → pieces_size ts next < pieces_size ts pieces
  smaller_after next less =
      let whole = ap (λ ps. pieces_size ts ps) splits in
      omega (arith, whole, pieces_size-append ts taken (p ∷ []))

  pub same_after : (next : List Piece) (old now new text : List ℕ) → now ++ pieces_text ts pieces ≡ old ++ text
      → new ++ pieces_text ts next ≡ now ++ (piece_text ts p ++ pieces_text ts taken) → new ++ pieces_text ts next ≡ old ++ text
  same_after next old now new text before step = step ∙ (ap (λ xs. now ++ xs) (sym taken_text) ∙ before)

  pub piece_front : (old now new text : List ℕ) → IsFrontOf old now → now ++ pieces_text ts pieces ≡ old ++ text → AppendsFront now new (piece_text ts p) → AppendsFront old new text
  piece_front old now new text kept before front =
      next_front old now new (piece_text ts p) (pieces_text ts taken) text kept (ap (λ xs. now ++ xs) (sym taken_text) ∙ before) front
