-- All that a script says, piece by piece.
use Rattle.std.proofs.Common.{◌≡◌, ◌↔◌, ℕ, ◌+◌, ◌<◌, Bool, true, List, [], ◌∷◌, ◌++◌, length, take, get_or, Option, Some, None, IsTrue, IsSome, refl, sym, ap, ◌∙◌, subst, arith, append-nil, append_assoc}
use Rattle.std.specs.List.{flat_map}
use Rattle.std.proofs.lemmas.List.{take_more}
use Rattle.std.proofs.lemmas.List.Concat.{flat_map-append}
use Rattle.ms_call.specs.Items.{Item, Open, with_item, HaveItems, HasItems, lines_in}
use Rattle.ms_lines.specs.declared.Lines.{Lines}
use Rattle.ms_lines.specs.declared.Fed.{Fed}
use Rattle.ms_lines.specs.declared.Fed.TheVariants.{Command as is_fed, BadCommand, NotYet}
use Rattle.ms_lines.specs.Feeding.{item_of, HasLeft, SaysThen, SaysAtEnd, IsShorter, LosesLine}
use Rattle.ms_lines.specs.Whole.{items_of, SaysAll, HasTold, HasToldAtEnd}

-- one more item
item_before : (item : Option Item) (items others : List Item) → with_item item items ++ others ≡ with_item item (items ++ others)
item_before None items others = refl
item_before (Some i) items others = refl

pub items_of-push : (feds : List Fed) (fed : Fed) (others : List Item) → items_of (feds ++ fed ∷ []) ++ others ≡ items_of feds ++ with_item (item_of fed) others
items_of-push [] fed others = item_before (item_of fed) [] others
items_of-push (f ∷ feds) fed others =
    item_before (item_of f) (items_of (feds ++ fed ∷ [])) others
    ∙ ap (with_item (item_of f)) (items_of-push feds fed others)
    ∙ sym (item_before (item_of f) (items_of feds) (with_item (item_of fed) others))

module _ (bytes : List ℕ) (said : List Fed) (lines after : Lines) (fed : Fed) (next : List Fed) (pushed : next ≡ said ++ fed ∷ []) where
  pub told_item : HasTold bytes said lines → SaysThen lines (item_of fed) after → HasTold bytes next after
  told_item h s ended more items left = (
    λ a.
        let b = (h ended more items left).0 a in
        let c = (s ended more b.0 left).0 b.2 in
        (c.0, b.1 ∙ ap (λ is. items_of said ++ is) c.1 ∙ sym (items_of-push said fed c.0) ∙ ap (λ feds. items_of feds ++ c.0) (sym pushed), c.2),
    λ b.
        (h ended more items left).1
        (with_item (item_of fed) b.0, b.1 ∙ ap (λ feds. items_of feds ++ b.0) pushed ∙ items_of-push said fed b.0, (s ended more (with_item (item_of fed) b.0) left).1 (b.0, refl, b.2)),
  )

  pub told_item_at_end : HasToldAtEnd bytes said lines → SaysAtEnd lines (item_of fed) after → HasToldAtEnd bytes next after
  told_item_at_end h s items left = (
    λ a.
        let b = (h items left).0 a in
        let c = (s b.0 left).0 b.2 in
        (c.0, b.1 ∙ ap (λ is. items_of said ++ is) c.1 ∙ sym (items_of-push said fed c.0) ∙ ap (λ feds. items_of feds ++ c.0) (sym pushed), c.2),
    λ b.
        (h items left).1
        (with_item (item_of fed) b.0, b.1 ∙ ap (λ feds. items_of feds ++ b.0) pushed ∙ items_of-push said fed b.0, (s (with_item (item_of fed) b.0) left).1 (b.0, refl, b.2)),
  )

-- nothing more
pub told_nothing : (bytes : List ℕ) (said : List Fed) (lines after : Lines) → HasTold bytes said lines → SaysThen lines None after → HasTold bytes said after
told_nothing bytes said lines after h s ended more items left = (
  λ a.
      let b = (h ended more items left).0 a in
      let c = (s ended more b.0 left).0 b.2 in
      (c.0, b.1 ∙ ap (λ is. items_of said ++ is) c.1, c.2),
  λ b. (h ended more items left).1 (b.0, b.1, (s ended more b.0 left).1 (b.0, refl, b.2)),
)

pub told_nothing_at_end : (bytes : List ℕ) (said : List Fed) (lines after : Lines) → HasToldAtEnd bytes said lines → SaysAtEnd lines None after → HasToldAtEnd bytes said after
told_nothing_at_end bytes said lines after h s items left = (
  λ a.
      let b = (h items left).0 a in
      let c = (s b.0 left).0 b.2 in
      (c.0, b.1 ∙ ap (λ is. items_of said ++ is) c.1, c.2),
  λ b. (h items left).1 (b.0, b.1, (s b.0 left).1 (b.0, refl, b.2)),
)

-- one more piece
pub told_piece : (bytes piece : List ℕ) (said : List Fed) (lines after : Lines) → after ≡ record lines { rest = lines.rest ++ piece } → HasTold bytes said lines → HasTold (bytes ++ piece) said after
told_piece bytes piece said lines after e h ended more items left =
    let front : lines_in ended (bytes ++ piece ++ more) ≡ lines_in ended (bytes ++ (piece ++ more)) = ap (lines_in ended) (append_assoc bytes piece more) in
    let text : after.text ≡ lines.text = ap (λ l. l.text) e in
    let rest : lines_in ended (after.rest ++ more) ≡ lines_in ended (lines.rest ++ (piece ++ more)) = ap (λ l. lines_in ended (l.rest ++ more)) e ∙ ap (lines_in ended) (append_assoc lines.rest piece more) in (
      λ a.
          let b = (h ended (piece ++ more) items left).0 (subst (λ ls. HaveItems None ls items left) front a) in
          (b.0, b.1, subst (λ t. HaveItems t (lines_in ended (after.rest ++ more)) b.0 left) (sym text) (subst (λ ls. HaveItems lines.text ls b.0 left) (sym rest) b.2)),
      λ b.
          subst (λ ls. HaveItems None ls items left) (sym front)
          ((h ended (piece ++ more) items left).1 (b.0, b.1, subst (λ ls. HaveItems lines.text ls b.0 left) rest (subst (λ t. HaveItems t (lines_in ended (after.rest ++ more)) b.0 left) text b.2))),
    )

-- a script of which nothing came
pub told_first : (lines : Lines) → lines ≡ record { text = None; rest = [] } → HasTold [] [] lines
told_first lines e ended more items left = (
  λ a. (items, refl, subst (λ l. HasLeft l ended more items left) (sym e) a),
  λ b. subst (λ is. HaveItems None (lines_in ended more) is left) (sym b.1) (subst (λ l. HasLeft l ended more b.0 left) e b.2),
)

-- no piece is left
pub told_at_end : (bytes : List ℕ) (said : List Fed) (lines : Lines) → HasTold bytes said lines → HasToldAtEnd bytes said lines
told_at_end bytes said lines h items left =
    let same : bytes ++ [] ≡ bytes = append-nil bytes in (
      λ a. (h true [] items left).0 (subst (λ bs. HasItems None bs items left) (sym same) a),
      λ b. subst (λ bs. HasItems None bs items left) same ((h true [] items left).1 b),
    )

-- nothing is left to read
nothing_left : (lines : Lines) → lines.rest ≡ [] → (items : List Item) (left : Open) → HasLeft lines true [] items left → (items ≡ []) × (left ≡ lines.text)
unfolding HaveItems lines_in
nothing_left lines e items left h = subst (λ rest. HaveItems lines.text (lines_in true (rest ++ [])) items left) e h

left_open : (lines : Lines) → lines.rest ≡ [] → HasLeft lines true [] [] lines.text
unfolding HaveItems lines_in
left_open lines e = subst (λ rest. HaveItems lines.text (lines_in true (rest ++ [])) [] lines.text) (sym e) (refl, refl)

pub says_all : (bytes : List ℕ) (said : List Fed) (lines : Lines) → HasToldAtEnd bytes said lines → lines.rest ≡ [] → (unfinished : Bool) → IsTrue unfinished ↔ IsSome lines.text → SaysAll bytes (items_of said) unfinished
says_all bytes said lines h none unfinished is = record {
  left = lines.text;
  has = (h (items_of said) lines.text).1 ([], sym (append-nil (items_of said)), left_open lines none);
  only = λ others other a.
      let b = (h others other).0 a in
      let c = nothing_left lines none b.0 other b.2 in
      (b.1 ∙ ap (λ is. items_of said ++ is) c.0 ∙ append-nil (items_of said), c.1);
  is_open = is;
}

-- an item shortens the rest
pub item_shortens : (fed : Fed) (before after : List ℕ) → (fed ≡ NotYet → ⊥) → LosesLine fed before after → length after < length before
item_shortens (is_fed c) before after some h = omega (arith, h)
item_shortens BadCommand before after some h = omega (arith, h)
item_shortens NotYet before after some h = absurd (some refl)

pub last_shortens : (fed : Fed) (before after : List ℕ) → (fed ≡ NotYet → ⊥) → IsShorter fed before after → length after < length before
last_shortens (is_fed c) before after some h = h
last_shortens BadCommand before after some h = h
last_shortens NotYet before after some h = absurd (some refl)

-- the bytes of one more piece
pub pieces_more : (pieces : List (List ℕ)) (i : ℕ) (piece : List ℕ) → i < length pieces → piece ≡ get_or pieces i piece → flat_map (λ p. p) (take (i + 1) pieces) ≡ flat_map (λ p. p) (take i pieces) ++ piece
pieces_more pieces i piece inside is =
    ap (flat_map (λ p. p)) (take_more pieces i piece inside)
    ∙ flat_map-append (λ p. p) (take i pieces) (get_or pieces i piece ∷ [])
    ∙ ap (λ p. flat_map (λ p. p) (take i pieces) ++ p) (append-nil (get_or pieces i piece) ∙ sym is)
