-- What a reader's state says of the words that were read: they are spelled by what is pending.
use Rattle.std.proofs.Common.{◌≡◌, ℕ, zero, true, false, List, [], ◌∷◌, Option, Some, None, refl, sym, ◌∙◌, subst}
use Rattle.std.specs.Option.{option_and_then, is_some}
use Rattle.ms_text.specs.declared.token.TokenKind.TheVariants.{Comma, Semicolon, LeftParen, RightParen, Bar as BarToken}
use Rattle.ms_grammar.specs.declared.part.Part.{Part}
use Rattle.ms_grammar.specs.declared.part.Row.{Row}
use Rattle.ms_grammar.specs.declared.part.Rows.{Rows}
use Rattle.ms_grammar.specs.Words.{Word, name, sign}
use Rattle.ms_grammar.specs.Terms.{with_term, grouped, tuple_of}
use Rattle.ms_read_term.specs.declared.level.PendingSum.{PendingSum}
use Rattle.ms_read_term.specs.declared.level.PendingProduct.{PendingProduct}
use Rattle.ms_read_term.specs.declared.level.Level.{Level}
use Rattle.ms_read_term.specs.declared.bracket.Bracket.{Bracket}
use Rattle.ms_read_term.specs.declared.bracket.Bracket.TheVariants.{Arguments as ArgumentsOf, Parenthesis, Bar}
use Rattle.ms_read_term.specs.declared.bracket.Frame.{Frame}
use Rattle.ms_read_term.specs.Closing.{are_none, is_bare, no_level, with_sum, with_low, closed_product, closed_sum, closed_term}
use Rattle.ms_read_term.specs.Brackets.{row_so_far, ended_with, ended_bare, bracket_part, frame_with_in, outside_of_bar_in}
use Rattle.ms_read_term.proofs.Running.{then_some, map_some, some_injective}
use Rattle.ms_read_term.proofs.Spelled.{SpellsPrimary, SpellsUnary, SpellsProduct, SpellsSum, SpellsTerm, SpellsLists, SpellsTuples, Minuses, LowStands, SumStands, ProductStands, RowStands, ListsStand, AlternativesStand, product_spelled, sum_spelled, term_spelled, row_grows, lists_grow, alternatives_grow, arguments_of_terms, arguments_of_none, tuple_of_terms, tuple_of_row, function_spelled, parenthesis_spelled}

-- What stands between two places is the pending operators.
pub record Pending (low : Option Part) (sum : Option PendingSum) (product : Option PendingProduct) (from to : List Word) : Type 0 where
  pub low_to : List Word
  pub sum_to : List Word
  pub low_stands : LowStands low from low_to
  pub sum_stands : SumStands sum low_to sum_to
  pub product_stands : ProductStands product sum_to to

-- the same with the minuses
pub record Before (l : Level) (from to : List Word) : Type 0 where
  pub pending_to : List Word
  pub pending : Pending l.low l.sum l.product from pending_to
  pub minuses : Minuses l.minuses pending_to to

pub nothing_before : (a : List Word) → Before no_level a a
nothing_before a = record { pending_to = a; pending = record { low_to = a; sum_to = a; low_stands = refl; sum_stands = refl; product_stands = refl }; minuses = refl }

pub product_closes : (l : Level) (p q : Part) (a b c : List Word) (h : Pending l.low l.sum l.product a b) → SpellsUnary p b c → closed_product l p ≡ Some q → SpellsProduct q h.sum_to c
product_closes l p q a b c h u e = product_spelled l.product p q h.sum_to b c h.product_stands u e

pub sum_closes : (l : Level) (p q : Part) (a b c : List Word) (h : Pending l.low l.sum l.product a b) → SpellsUnary p b c → closed_sum l p ≡ Some q → SpellsSum q h.low_to c
sum_closes l p q a b c h u e =
    let t = then_some (with_sum l.sum) (closed_product l p) q e in
    sum_spelled l.sum t.from q h.low_to h.sum_to c h.sum_stands (product_closes l p t.from a b c h u t.from_is) t.made_is

pub term_closes : (l : Level) (p q : Part) (a b c : List Word) → Pending l.low l.sum l.product a b → SpellsUnary p b c → closed_term l p ≡ Some q → SpellsTerm q a c
term_closes l p q a b c h u e =
    let t = then_some (with_low l.low) (closed_sum l p) q e in
    term_spelled l.low t.from q a h.low_to c h.low_stands (sum_closes l p t.from a b c h u t.from_is) t.made_is

pub nothing_low : (low : Option Part) (a b : List Word) → is_some low ≡ false → LowStands low a b → a ≡ b
nothing_low None a b e h = h
nothing_low (Some low) a b e h = absurd (let false' : ⊥ = cc in false')

sum_is_term : (low : Option Part) (s : Option Part) (q : Part) → is_some low ≡ false → option_and_then (with_low low) s ≡ Some q → s ≡ Some q
sum_is_term None (Some p) q e h = h
sum_is_term None None q e h = h
sum_is_term (Some low) s q e h = absurd (let false' : ⊥ = cc in false')

-- a term that is no interval is a sum
pub sum_of_term : (l : Level) (p q : Part) (a b c : List Word) → Pending l.low l.sum l.product a b → SpellsUnary p b c → closed_term l p ≡ Some q → is_some l.low ≡ false → SpellsSum q a c
sum_of_term l p q a b c h u e low =
    subst (λ x. SpellsSum q x c) (sym (nothing_low l.low a h.low_to low h.low_stands)) (sum_closes l p q a b c h u (sum_is_term l.low (closed_sum l p) q low e))

bare_parts : (low : Option Part) (sum : Option PendingSum) (product : Option PendingProduct) (m : ℕ) (a b c : List Word) → are_none low sum product m ≡ true → Pending low sum product a b → Minuses m b c → a ≡ c
bare_parts None None None zero a b c e h m = h.low_stands ∙ h.sum_stands ∙ h.product_stands ∙ m
bare_parts low sum product m a b c e h n = absurd (let false' : ⊥ = cc in false')

pub bare_level : (l : Level) (a b : List Word) → is_bare l ≡ true → Before l a b → a ≡ b
bare_level l a b e h = bare_parts l.low l.sum l.product l.minuses a h.pending_to b e h.pending h.minuses

-- What stands between two places is an open bracket with its lists and terms so far.
pub record ArgumentsStand (f : List ℕ) (lists : Option Rows) (row : Option Row) (from to : List Word) : Type 0 where
  pub inside : List Word
  pub row_from : List Word
  pub opens : from ≡ name f ∷ sign LeftParen ∷ inside
  pub lists_stand : ListsStand lists inside row_from
  pub row_stands : RowStands row row_from to

pub record ParenthesisStands (alternatives row : Option Row) (from to : List Word) : Type 0 where
  pub inside : List Word
  pub row_from : List Word
  pub opens : from ≡ sign LeftParen ∷ inside
  pub alternatives_stand : AlternativesStand alternatives inside row_from
  pub row_stands : RowStands row row_from to

abbrev pub BracketStands : Bracket → Option Row → List Word → List Word → Type 0
BracketStands (ArgumentsOf f lists) row a b = ArgumentsStand f lists row a b
BracketStands (Parenthesis alternatives) row a b = ParenthesisStands alternatives row a b
BracketStands Bar row a b = a ≡ sign BarToken ∷ b

pub record FrameStands (f : Frame) (from to : List Word) : Type 0 where
  pub bracket_from : List Word
  pub before : Before f.outside from bracket_from
  pub bracket_stands : BracketStands f.bracket f.row bracket_from to

pub record Next (A B : List Word → Type 0) : Type 0 where
  pub place : List Word
  pub first : A place
  pub second : B place

-- The open brackets, from the innermost one on, stand up to a place.
abbrev pub FramesStand : List Frame → List Word → List Word → Type 0
FramesStand [] whole to = whole ≡ to
FramesStand (f ∷ fs) whole to = Next (λ place. FramesStand fs whole place) (λ place. FrameStands f place to)

-- An open bracket stands with whole lists.
pub record ListsEnded (f : List ℕ) (rows : Rows) (from to : List Word) : Type 0 where
  pub inside : List Word
  pub opens : from ≡ name f ∷ sign LeftParen ∷ inside
  pub lists_spelled : SpellsLists rows inside to

pub record TuplesEnded (row : Row) (from to : List Word) : Type 0 where
  pub inside : List Word
  pub opens : from ≡ sign LeftParen ∷ inside
  pub tuples_spelled : SpellsTuples row inside to

abbrev pub Ended : Bracket → List Word → List Word → Type 0
Ended (ArgumentsOf f (Some rows)) a b = ListsEnded f rows a b
Ended (Parenthesis (Some row)) a b = TuplesEnded row a b
Ended bracket a b = ⊥

-- the lists of a bracket go on behind a semicolon
pub bracket_goes_on : (bracket : Bracket) (a b : List Word) → Ended bracket a (sign Semicolon ∷ b) → BracketStands bracket None a b
bracket_goes_on (ArgumentsOf f (Some rows)) a b h = record { inside = h.inside; row_from = b; opens = h.opens; lists_stand = h.lists_spelled; row_stands = refl }
bracket_goes_on (Parenthesis (Some row)) a b h = record { inside = h.inside; row_from = b; opens = h.opens; alternatives_stand = h.tuples_spelled; row_stands = refl }
bracket_goes_on (ArgumentsOf f None) a b h = absurd h
bracket_goes_on (Parenthesis None) a b h = absurd h
bracket_goes_on Bar a b h = absurd h

pub bracket_closes : (bracket : Bracket) (p : Part) (a b : List Word) → Ended bracket a (sign RightParen ∷ b) → bracket_part bracket ≡ Some p → SpellsPrimary p a b
bracket_closes (ArgumentsOf f (Some rows)) p a b h e = function_spelled f rows p a h.inside b h.opens h.lists_spelled e
bracket_closes (Parenthesis (Some row)) p a b h e = parenthesis_spelled row p a h.inside b h.opens h.tuples_spelled e
bracket_closes (ArgumentsOf f None) p a b h e = absurd h
bracket_closes (Parenthesis None) p a b h e = absurd h
bracket_closes Bar p a b h e = absurd h

pub ends_with : (bracket ended : Bracket) (row : Option Row) (t : Part) (a b c : List Word) → BracketStands bracket row a b → SpellsTerm t b c → ended_with bracket row t ≡ Some ended → Ended ended a c
ends_with (ArgumentsOf f lists) ended row t a b c h s e =
    subst (λ x. Ended x a c) (some_injective _ _ e)
    (record { inside = h.inside; opens = h.opens; lists_spelled = lists_grow lists _ h.inside h.row_from c h.lists_stand (arguments_of_terms _ h.row_from c (row_grows row t h.row_from b c h.row_stands s)) })
ends_with (Parenthesis alternatives) ended row t a b c h s e =
    let m = map_some _ (grouped (with_term (row_so_far row) t).terms (with_term (row_so_far row) t)) ended e in
    subst (λ x. Ended x a c) m.made_is
    (record { inside = h.inside; opens = h.opens; tuples_spelled = alternatives_grow alternatives m.from h.inside h.row_from c h.alternatives_stand (tuple_of_terms _ m.from h.row_from c (row_grows row t h.row_from b c h.row_stands s) m.from_is) })
ends_with Bar ended row t a b c h s e = absurd (let false' : ⊥ = cc in false')

pub ends_bare : (bracket ended : Bracket) (row : Option Row) (a b : List Word) → BracketStands bracket row a b → ended_bare bracket row ≡ Some ended → Ended ended a b
ends_bare (ArgumentsOf f lists) ended None a b h e =
    subst (λ x. Ended x a b) (some_injective _ _ e)
    (record { inside = h.inside; opens = h.opens; lists_spelled = lists_grow lists _ h.inside h.row_from b h.lists_stand (arguments_of_none h.row_from b h.row_stands) })
ends_bare (ArgumentsOf f lists) ended (Some row) a b h e = absurd (let false' : ⊥ = cc in false')
ends_bare (Parenthesis alternatives) ended row a b h e =
    let m = map_some _ (tuple_of (row_so_far row)) ended e in
    subst (λ x. Ended x a b) m.made_is
    (record { inside = h.inside; opens = h.opens; tuples_spelled = alternatives_grow alternatives m.from h.inside h.row_from b h.alternatives_stand (tuple_of_row row m.from h.row_from b h.row_stands m.from_is) })
ends_bare Bar ended row a b h e = absurd (let false' : ⊥ = cc in false')

-- a term with a comma
pub record Grown (f grown : Frame) (from to : List Word) : Type 0 where
  pub outside_is : grown.outside ≡ f.outside
  pub stands : BracketStands grown.bracket grown.row from to

frame_grows_in : (bracket : Bracket) (outside : Level) (row : Option Row) (t : Part) (grown : Frame) (a b c : List Word) → BracketStands bracket row a b → SpellsTerm t b (sign Comma ∷ c) → frame_with_in bracket (record { outside = outside; bracket = bracket; row = row }) t ≡ Some grown → Grown (record { outside = outside; bracket = bracket; row = row }) grown a c
frame_grows_in (ArgumentsOf f lists) outside row t grown a b c h s e =
    subst (λ x. Grown (record { outside = outside; bracket = ArgumentsOf f lists; row = row }) x a c) (some_injective _ _ e)
    (record { outside_is = refl; stands = record { inside = h.inside; row_from = h.row_from; opens = h.opens; lists_stand = h.lists_stand; row_stands = row_grows row t h.row_from b (sign Comma ∷ c) h.row_stands s } })
frame_grows_in (Parenthesis alternatives) outside row t grown a b c h s e =
    subst (λ x. Grown (record { outside = outside; bracket = Parenthesis alternatives; row = row }) x a c) (some_injective _ _ e)
    (record { outside_is = refl; stands = record { inside = h.inside; row_from = h.row_from; opens = h.opens; alternatives_stand = h.alternatives_stand; row_stands = row_grows row t h.row_from b (sign Comma ∷ c) h.row_stands s } })
frame_grows_in Bar outside row t grown a b c h s e = absurd (let false' : ⊥ = cc in false')

pub frame_grows : (f grown : Frame) (t : Part) (a b c : List Word) → FrameStands f a b → SpellsTerm t b (sign Comma ∷ c) → frame_with_in f.bracket f t ≡ Some grown → FrameStands grown a c
frame_grows f grown t a b c h s e =
    let g = frame_grows_in f.bracket f.outside f.row t grown h.bracket_from b c h.bracket_stands s e in
    record { bracket_from = h.bracket_from; before = subst (λ l. Before l a h.bracket_from) (sym g.outside_is) h.before; bracket_stands = g.stands }

pub bar_stands : (bracket : Bracket) (outside l : Level) (row : Option Row) (a b : List Word) → BracketStands bracket row a b → outside_of_bar_in bracket outside ≡ Some l → (a ≡ sign BarToken ∷ b) × (outside ≡ l)
bar_stands Bar outside l row a b h e = (h, some_injective _ _ e)
bar_stands (ArgumentsOf f lists) outside l row a b h e = absurd (let false' : ⊥ = cc in false')
bar_stands (Parenthesis alternatives) outside l row a b h e = absurd (let false' : ⊥ = cc in false')
