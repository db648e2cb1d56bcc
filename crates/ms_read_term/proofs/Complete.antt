-- The words of a derivation are read as the part that it spells.
use Rattle.std.proofs.Common.{◌≡◌, ℕ, suc, ◌+◌, ◌≤◌, ◌==◌, ◌<◌, ◌^◌, nat_le, nat_lt, pos, neg_ℤ, true, false, List, [], ◌∷◌, ◌++◌, Option, Some, None, refl, ap, subst, ◌∙◌, append_assoc, arith, if◌then◌else◌}
use Rattle.std.specs.Prelude.{⊤}
use Rattle.std.proofs.lemmas.Bool.{lt-ltb}
use Rattle.std.specs.Option.{option_and_then}
use Rattle.ms_tree.specs.declared.op.Op.TheVariants.{Add, Sub, Mul, Div, Rem}
use Rattle.ms_text.specs.declared.token.TokenKind.{TokenKind}
use Rattle.ms_text.specs.declared.token.TokenKind.TheVariants.{Dot, DotDot, Comma, Semicolon, LeftParen, RightParen, Plus as PlusToken, Minus as MinusToken, Star, Slash, Backslash, Bar as BarToken}
use Rattle.ms_grammar.specs.declared.term.TextTerm.{Number, Function, Interval, Neg, Abs, Binary}
use Rattle.ms_grammar.specs.declared.part.Part.{Part}
use Rattle.ms_grammar.specs.declared.part.Row.{Row}
use Rattle.ms_grammar.specs.declared.part.Rows.{Rows}
use Rattle.ms_grammar.specs.Words.{Word, name, number, quoted, sign}
use Rattle.ms_grammar.specs.Terms.{Term, Sum, Product, Unary, Primary, Lists, Arguments, Terms as TermRow, Tuples, Tuple, single, interval, product, plus, minus, unary, times, over, modulo, primary, negative, least, numeral, string, constant, function, parenthesis, absolute, one_list, or_list, no_arguments, arguments, one_term, and_term, one_tuple, or_tuple, empty_tuple, tuple, tuple_comma, term_words, sum_words, product_words, unary_words, primary_words, lists_words, arguments_words, terms_words, tuples_words, tuple_words, term_part, sum_part, product_part, unary_part, primary_part, lists_rows, arguments_row, terms_row, tuples_row, tuple_part, leaf, round, joined, with_term, no_terms, only_list, with_list, named, tuple_of, grouped, pooled, with_alternative, no_alternative, greatest_numeral}
use Rattle.ms_grammar.specs.Reading.{EndsTerm, carries_on}
use Rattle.ms_read_term.specs.declared.level.SumSign.{SumSign}
use Rattle.ms_read_term.specs.declared.level.SumSign.TheVariants.{Plus, Minus}
use Rattle.ms_read_term.specs.declared.level.ProductSign.{ProductSign}
use Rattle.ms_read_term.specs.declared.level.ProductSign.TheVariants.{Times, Over, Modulo}
use Rattle.ms_read_term.specs.declared.level.PendingSum.{PendingSum}
use Rattle.ms_read_term.specs.declared.level.PendingProduct.{PendingProduct}
use Rattle.ms_read_term.specs.declared.level.Level.{Level}
use Rattle.ms_read_term.specs.declared.bracket.Bracket.{Bracket}
use Rattle.ms_read_term.specs.declared.bracket.Bracket.TheVariants.{Arguments as ArgumentsOf, Parenthesis, Bar}
use Rattle.ms_read_term.specs.declared.bracket.Frame.{Frame}
use Rattle.ms_read_term.specs.Closing.{negated, no_level, op_of_sum, op_of_product, with_product, with_sum, with_low, closed_product, closed_sum, closed_term}
use Rattle.ms_read_term.specs.Brackets.{row_so_far, with_row, alternatives_so_far, parenthesis_with, ended_with, ended_bare, frame_with_in}
use Rattle.ms_read_term.specs.Machine.{next, refused, wanted, at_start, landed, list_ended, reopened, ended, ended_in, behind, behind_name, begun, least_begun, product_pending, sum_pending, carried, run, kind_of, most_minuses}
use Rattle.ms_read_term.proofs.Running.{both_some, then_some, map_some, if_some, some_injective, made_some, height_of_round, after, run_step, level, at, at_name, stays, Stays, negated_height}

-- what ends a list
data Divider : Type 0 where
  semicolon : Divider
  closing : Divider

abbrev kind_at : Divider → TokenKind
kind_at semicolon = Semicolon
kind_at closing = RightParen

-- a frame with these terms so far
abbrev frame : Level → Bracket → Option Row → Frame
frame outside bracket row = record { outside = outside; bracket = bracket; row = row }

-- A bracket has lists.
abbrev HasLists : Bracket → Type 0
HasLists Bar = ⊥
HasLists bracket = ⊤

-- A run from a product's first word ends behind its last part.
record ReadProduct (frames : List Frame) (low : Option Part) (sum : Option PendingSum) (words rest : List Word) (p : Part) : Type 0 where
  product_left : Option PendingProduct
  part : Part
  runs : run (wanted frames (level low sum None 0)) (words ++ rest) ≡ run (at frames (level low sum product_left 0) part) rest
  closes : with_product product_left part ≡ Some p

record ReadSum (frames : List Frame) (low : Option Part) (words rest : List Word) (p : Part) : Type 0 where
  sum_left : Option PendingSum
  product_left : Option PendingProduct
  part : Part
  runs : run (wanted frames (level low None None 0)) (words ++ rest) ≡ run (at frames (level low sum_left product_left 0) part) rest
  closes : closed_sum (level low sum_left product_left 0) part ≡ Some p

record ReadTerm (frames : List Frame) (words rest : List Word) (p : Part) : Type 0 where
  level_left : Level
  part : Part
  runs : run (wanted frames no_level) (words ++ rest) ≡ run (at frames level_left part) rest
  closes : closed_term level_left part ≡ Some p

record ReadTerms (frames : List Frame) (outside : Level) (bracket : Bracket) (words rest : List Word) (row : Row) : Type 0 where
  before : Option Row
  level_left : Level
  part : Part
  term : Part
  runs : run (wanted (frame outside bracket None ∷ frames) no_level) (words ++ rest) ≡ run (at (frame outside bracket before ∷ frames) level_left part) rest
  closes : closed_term level_left part ≡ Some term
  row_is : with_term (row_so_far before) term ≡ row

-- a part has so few minuses before it that one more can be read
minus_room : (m : ℕ) (p q : Part) → p.height ≤ 201 → 0 < p.height → negated m p ≡ Some q → nat_lt m most_minuses ≡ true
minus_room m p q h above e = let few : m + p.height ≤ 201 = negated_height m p q h e in lt-ltb m most_minuses (omega arith)

landed_at : (frames : List Frame) (l : Level) (m : ℕ) (p q : Part) → negated m p ≡ Some q → landed frames l m p ≡ next (at frames (record l { minuses = 0 }) q)
landed_at frames l m p q e = made_some _ _ q e

-- a name without arguments is a part
named_step : (frames : List Frame) (l : Level) (f : List ℕ) (q : Part) (kind : TokenKind) → stays kind → negated l.minuses (leaf (Function f ([] ∷ []))) ≡ Some q → behind_name frames l f kind ≡ behind frames (record l { minuses = 0 }) q kind
named_step frames l f q LeftParen h e = absurd h
named_step frames l f q Dot h e = made_some _ _ q e
named_step frames l f q kind h e = made_some _ _ q e

named_run : (frames : List Frame) (l : Level) (f : List ℕ) (q : Part) (rest : List Word) → Stays rest → negated l.minuses (leaf (Function f ([] ∷ []))) ≡ Some q → run (at_name frames l f) rest ≡ run (at frames (record l { minuses = 0 }) q) rest
named_run frames l f q [] h e = ap (λ o. carried (λ s. None) (λ p. Some (p, [])) None o) (named_step frames l f q Dot tt e)
named_run frames l f q (w ∷ ws) h e = ap (λ o. after o w ws) (named_step frames l f q (kind_of w) h e)

-- a comma behind a term of a list
comma_step : (bracket : Bracket) (f : Frame) (t : Part) → HasLists bracket → frame_with_in bracket f t ≡ Some (record f { row = Some (with_term (row_so_far f.row) t) })
comma_step (ArgumentsOf f lists) fr t h = refl
comma_step (Parenthesis alternatives) fr t h = refl
comma_step Bar fr t h = absurd h

comma_behind : (frames : List Frame) (outside : Level) (bracket : Bracket) (before : Option Row) (l : Level) (p t : Part) (row : Row) → HasLists bracket → closed_term l p ≡ Some t → with_term (row_so_far before) t ≡ row → behind (frame outside bracket before ∷ frames) l p Comma ≡ next (wanted (frame outside bracket (Some row) ∷ frames) no_level)
comma_behind frames outside bracket before l p t row lists e r =
    made_some _ _ t e
    ∙ made_some (reopened frames) _ _ (comma_step bracket (frame outside bracket before) t lists)
    ∙ ap (λ x. next (wanted (frame outside bracket (Some x) ∷ frames) no_level)) r

-- a divider behind a term of a list
ended_list : (e : Divider) (frames : List Frame) (f : Frame) (l : Level) (p t : Part) (b : Bracket) → closed_term l p ≡ Some t → ended_with f.bracket f.row t ≡ Some b → behind (f ∷ frames) l p (kind_at e) ≡ list_ended frames f.outside (kind_at e) b
ended_list semicolon frames f l p t b e h = made_some _ _ t e ∙ made_some _ _ b h
ended_list closing frames f l p t b e h = made_some _ _ t e ∙ made_some _ _ b h

-- a divider behind a bracket, a divider or a comma
bare_list : (e : Divider) (frames : List Frame) (f : Frame) (b : Bracket) → ended_bare f.bracket f.row ≡ Some b → begun (f ∷ frames) no_level (sign (kind_at e)) ≡ list_ended frames f.outside (kind_at e) b
bare_list semicolon frames f b h = made_some _ _ b h
bare_list closing frames f b h = made_some _ _ b h

minus_run : (frames : List Frame) (low : Option Part) (sum : Option PendingSum) (pr : Option PendingProduct) (m : ℕ) (p q : Part) (ws : List Word) → p.height ≤ 201 → 0 < p.height → negated m p ≡ Some q → run (wanted frames (level low sum pr m)) (sign MinusToken ∷ ws) ≡ run (wanted frames (level low sum pr (suc m))) ws
minus_run frames low sum pr m p q ws h above e =
    run_step (wanted frames (level low sum pr m)) (sign MinusToken) ws _ (ap (λ b. if b then next (wanted frames (level low sum pr (suc m))) else refused) (minus_room m p q h above e))

-- a product behind its operator and its right operand
product_read : (op : ProductSign) (kind : TokenKind) (frames : List Frame) (low : Option Part) (sum : Option PendingSum) (lefts rights rest : List Word) (pl pr p : Part) → ((l : Level) (q : Part) → behind frames l q kind ≡ product_pending frames l q op) → ReadProduct frames low sum lefts (sign kind ∷ (rights ++ rest)) pl → run (wanted frames (level low sum (Some (record { part = pl; sign = op })) 0)) (rights ++ rest) ≡ run (at frames (level low sum (Some (record { part = pl; sign = op })) 0) pr) rest → joined (Binary (op_of_product op)) pl pr ≡ Some p → ReadProduct frames low sum (lefts ++ sign kind ∷ rights) rest p
product_read op kind frames low sum lefts rights rest pl pr p goes l r j = record {
  product_left = Some (record { part = pl; sign = op });
  part = pr;
  runs =
      ap (λ ws. run (wanted frames (level low sum None 0)) ws) (append_assoc lefts (sign kind ∷ rights) rest)
      ∙ l.runs
      ∙ run_step (at frames (level low sum l.product_left 0) l.part) (sign kind) (rights ++ rest) _ (goes (level low sum l.product_left 0) l.part ∙ made_some (λ q. next (wanted frames (level low sum (Some (record { part = q; sign = op })) 0))) (closed_product (level low sum l.product_left 0) l.part) pl l.closes)
      ∙ r;
  closes = j;
}

sum_read : (op : SumSign) (kind : TokenKind) (frames : List Frame) (low : Option Part) (lefts rights rest : List Word) (pl pr p : Part) → ((l : Level) (q : Part) → behind frames l q kind ≡ sum_pending frames l q op) → ReadSum frames low lefts (sign kind ∷ (rights ++ rest)) pl → ReadProduct frames low (Some (record { part = pl; sign = op })) rights rest pr → joined (Binary (op_of_sum op)) pl pr ≡ Some p → ReadSum frames low (lefts ++ sign kind ∷ rights) rest p
sum_read op kind frames low lefts rights rest pl pr p goes l r j = record {
  sum_left = Some (record { part = pl; sign = op });
  product_left = r.product_left;
  part = r.part;
  runs =
      ap (λ ws. run (wanted frames (level low None None 0)) ws) (append_assoc lefts (sign kind ∷ rights) rest)
      ∙ l.runs
      ∙ run_step (at frames (level low l.sum_left l.product_left 0) l.part) (sign kind) (rights ++ rest) _ (goes (level low l.sum_left l.product_left 0) l.part ∙ made_some (λ q. next (wanted frames (level low (Some (record { part = q; sign = op })) None 0))) (closed_sum (level low l.sum_left l.product_left 0) l.part) pl l.closes)
      ∙ r.runs;
  closes = ap (option_and_then (with_sum (Some (record { part = pl; sign = op })))) r.closes ∙ j;
}

sum_of_product : (frames : List Frame) (low : Option Part) (words rest : List Word) (p : Part) → ReadProduct frames low None words rest p → ReadSum frames low words rest p
sum_of_product frames low words rest p r = record {
  sum_left = None;
  product_left = r.product_left;
  part = r.part;
  runs = r.runs;
  closes = ap (option_and_then (with_sum None)) r.closes;
}

term_of_sum : (frames : List Frame) (words rest : List Word) (p : Part) → ReadSum frames None words rest p → ReadTerm frames words rest p
term_of_sum frames words rest p r = record {
  level_left = level None r.sum_left r.product_left 0;
  part = r.part;
  runs = r.runs;
  closes = ap (option_and_then (with_low None)) r.closes;
}

interval_read : (frames : List Frame) (lefts rights rest : List Word) (pl ph p : Part) → ReadSum frames None lefts (sign DotDot ∷ (rights ++ rest)) pl → ReadSum frames (Some pl) rights rest ph → joined Interval pl ph ≡ Some p → ReadTerm frames (lefts ++ sign DotDot ∷ rights) rest p
interval_read frames lefts rights rest pl ph p l r j = record {
  level_left = level (Some pl) r.sum_left r.product_left 0;
  part = r.part;
  runs =
      ap (λ ws. run (wanted frames no_level) ws) (append_assoc lefts (sign DotDot ∷ rights) rest)
      ∙ l.runs
      ∙ run_step (at frames (level None l.sum_left l.product_left 0) l.part) (sign DotDot) (rights ++ rest) _ (made_some _ _ pl l.closes)
      ∙ r.runs;
  closes = ap (option_and_then (with_low (Some pl))) r.closes ∙ j;
}

terms_of_term : (frames : List Frame) (outside : Level) (bracket : Bracket) (words rest : List Word) (p : Part) → ReadTerm (frame outside bracket None ∷ frames) words rest p → ReadTerms frames outside bracket words rest (with_term no_terms p)
terms_of_term frames outside bracket words rest p r = record {
  before = None;
  level_left = r.level_left;
  part = r.part;
  term = p;
  runs = r.runs;
  closes = r.closes;
  row_is = refl;
}

terms_read : (frames : List Frame) (outside : Level) (bracket : Bracket) (lefts rights rest : List Word) (left : Row) (p : Part) → HasLists bracket → ReadTerms frames outside bracket lefts (sign Comma ∷ (rights ++ rest)) left → ReadTerm (frame outside bracket (Some left) ∷ frames) rights rest p → ReadTerms frames outside bracket (lefts ++ sign Comma ∷ rights) rest (with_term left p)
terms_read frames outside bracket lefts rights rest left p lists l r = record {
  before = Some left;
  level_left = r.level_left;
  part = r.part;
  term = p;
  runs =
      ap (λ ws. run (wanted (frame outside bracket None ∷ frames) no_level) ws) (append_assoc lefts (sign Comma ∷ rights) rest)
      ∙ l.runs
      ∙ run_step (at (frame outside bracket l.before ∷ frames) l.level_left l.part) (sign Comma) (rights ++ rest) _ (comma_behind frames outside bracket l.before l.level_left l.part l.term left lists l.closes l.row_is)
      ∙ r.runs;
  closes = r.closes;
  row_is = refl;
}

divider_stays : (e : Divider) → stays (kind_at e)
divider_stays semicolon = tt
divider_stays closing = tt

mutual
  read_unary : (u : Unary) (frames : List Frame) (low : Option Part) (sum : Option PendingSum) (pr : Option PendingProduct) (m : ℕ) (p q : Part) (rest : List Word) → unary_part u ≡ Some p → negated m p ≡ Some q → Stays rest → run (wanted frames (level low sum pr m)) (unary_words u ++ rest) ≡ run (at frames (level low sum pr 0) q) rest
  read_unary (primary x) frames low sum pr m p q rest e h s = read_primary x frames low sum pr m p q rest e h s
  read_unary (negative u) frames low sum pr m p q rest e h s =
      let t = then_some (round Neg) (unary_part u) p e in
      let high = height_of_round t.from p t.made_is in
      let deeper : negated (suc m) t.from ≡ Some q = ap (option_and_then (negated m)) t.made_is ∙ h in
      minus_run frames low sum pr m p q (unary_words u ++ rest) high.1 (omega (arith, high.0)) h
      ∙ read_unary u frames low sum pr (suc m) t.from q rest t.from_is deeper s
  read_unary least frames low sum pr m p q rest e h s =
      let is_leaf : leaf (Number (neg_ℤ (pos (2 ^ 63)))) ≡ p = some_injective _ _ e in
      let h' : negated m (leaf (Number (neg_ℤ (pos (2 ^ 63))))) ≡ Some q = ap (negated m) is_leaf ∙ h in
      minus_run frames low sum pr m _ q (number (2 ^ 63) ∷ rest) (omega arith) (omega arith) h'
      ∙ run_step (wanted frames (level low sum pr (suc m))) (number (2 ^ 63)) rest _ (landed_at frames (level low sum pr (suc m)) m _ q h')

  read_primary : (x : Primary) (frames : List Frame) (low : Option Part) (sum : Option PendingSum) (pr : Option PendingProduct) (m : ℕ) (p q : Part) (rest : List Word) → primary_part x ≡ Some p → negated m p ≡ Some q → Stays rest → run (wanted frames (level low sum pr m)) (primary_words x ++ rest) ≡ run (at frames (level low sum pr 0) q) rest
  read_primary (numeral n) frames low sum pr m p q rest e h s =
      let i = if_some (nat_le n greatest_numeral) _ p e in
      run_step (wanted frames (level low sum pr m)) (number n) rest _ (ap (λ b. if b then landed frames (level low sum pr m) m (leaf (Number (pos n))) else (if n == 2 ^ 63 then least_begun frames (level low sum pr m) m else refused)) i.0 ∙ landed_at frames (level low sum pr m) m _ q (ap (negated m) i.1 ∙ h))
  read_primary (string x) frames low sum pr m p q rest e h s = run_step (wanted frames (level low sum pr m)) (quoted x) rest _ (landed_at frames (level low sum pr m) m _ q (ap (negated m) (some_injective _ _ e) ∙ h))
  read_primary (constant f) frames low sum pr m p q rest e h s = named_run frames (level low sum pr m) f q rest s (ap (negated m) (some_injective _ _ e) ∙ h)
  read_primary (function f lists) frames low sum pr m p q rest e h s =
      let t = then_some (named f) (lists_rows lists) p e in
      ap (λ ws. run (wanted (frame (level low sum pr m) (ArgumentsOf f None) None ∷ frames) no_level) ws) (append_assoc (lists_words lists) (sign RightParen ∷ []) rest)
      ∙ read_lists lists frames (level low sum pr m) f closing t.from rest t.from_is
      ∙ ap (λ o. after o (sign RightParen) rest) (made_some (landed frames (level low sum pr m) m) _ p t.made_is ∙ landed_at frames (level low sum pr m) m p q h)
  read_primary (parenthesis tuples) frames low sum pr m p q rest e h s =
      let t = then_some (λ row. pooled row.terms row) (tuples_row tuples) p e in
      ap (λ ws. run (wanted (frame (level low sum pr m) (Parenthesis None) None ∷ frames) no_level) ws) (append_assoc (tuples_words tuples) (sign RightParen ∷ []) rest)
      ∙ read_tuples tuples frames (level low sum pr m) closing t.from rest t.from_is
      ∙ ap (λ o. after o (sign RightParen) rest) (made_some (landed frames (level low sum pr m) m) _ p t.made_is ∙ landed_at frames (level low sum pr m) m p q h)
  read_primary (absolute x) frames low sum pr m p q rest e h s =
      let t = then_some (round Abs) (sum_part x) p e in
      let r = read_sum x (frame (level low sum pr m) Bar None ∷ frames) None t.from (sign BarToken ∷ rest) t.from_is tt in
      ap (λ ws. run (wanted (frame (level low sum pr m) Bar None ∷ frames) no_level) ws) (append_assoc (sum_words x) (sign BarToken ∷ []) rest)
      ∙ r.runs
      ∙ run_step (at (frame (level low sum pr m) Bar None ∷ frames) (level None r.sum_left r.product_left 0) r.part) (sign BarToken) rest _ (made_some (ended_in (frame (level low sum pr m) Bar None ∷ frames) false BarToken) _ t.from (ap (option_and_then (with_low None)) r.closes) ∙ made_some (landed frames (level low sum pr m) m) _ p t.made_is ∙ landed_at frames (level low sum pr m) m p q h)

  read_product : (x : Product) (frames : List Frame) (low : Option Part) (sum : Option PendingSum) (p : Part) (rest : List Word) → product_part x ≡ Some p → Stays rest → ReadProduct frames low sum (product_words x) rest p
  read_product (unary u) frames low sum p rest e s = record { product_left = None; part = p; runs = read_unary u frames low sum None 0 p p rest e refl s; closes = refl }
  read_product (times x u) frames low sum p rest e s =
      let b = both_some (joined (Binary Mul)) (product_part x) (unary_part u) p e in
      product_read Times Star frames low sum (product_words x) (unary_words u) rest b.left b.right p (λ l q. refl)
      (read_product x frames low sum b.left (sign Star ∷ (unary_words u ++ rest)) b.left_is tt)
      (read_unary u frames low sum (Some (record { part = b.left; sign = Times })) 0 b.right b.right rest b.right_is refl s) b.made_is
  read_product (over x u) frames low sum p rest e s =
      let b = both_some (joined (Binary Div)) (product_part x) (unary_part u) p e in
      product_read Over Slash frames low sum (product_words x) (unary_words u) rest b.left b.right p (λ l q. refl)
      (read_product x frames low sum b.left (sign Slash ∷ (unary_words u ++ rest)) b.left_is tt)
      (read_unary u frames low sum (Some (record { part = b.left; sign = Over })) 0 b.right b.right rest b.right_is refl s) b.made_is
  read_product (modulo x u) frames low sum p rest e s =
      let b = both_some (joined (Binary Rem)) (product_part x) (unary_part u) p e in
      product_read Modulo Backslash frames low sum (product_words x) (unary_words u) rest b.left b.right p (λ l q. refl)
      (read_product x frames low sum b.left (sign Backslash ∷ (unary_words u ++ rest)) b.left_is tt)
      (read_unary u frames low sum (Some (record { part = b.left; sign = Modulo })) 0 b.right b.right rest b.right_is refl s) b.made_is

  read_sum : (x : Sum) (frames : List Frame) (low : Option Part) (p : Part) (rest : List Word) → sum_part x ≡ Some p → Stays rest → ReadSum frames low (sum_words x) rest p
  read_sum (product x) frames low p rest e s = sum_of_product frames low (product_words x) rest p (read_product x frames low None p rest e s)
  read_sum (plus x y) frames low p rest e s =
      let b = both_some (joined (Binary Add)) (sum_part x) (product_part y) p e in
      sum_read Plus PlusToken frames low (sum_words x) (product_words y) rest b.left b.right p (λ l q. refl)
      (read_sum x frames low b.left (sign PlusToken ∷ (product_words y ++ rest)) b.left_is tt)
      (read_product y frames low (Some (record { part = b.left; sign = Plus })) b.right rest b.right_is s) b.made_is
  read_sum (minus x y) frames low p rest e s =
      let b = both_some (joined (Binary Sub)) (sum_part x) (product_part y) p e in
      sum_read Minus MinusToken frames low (sum_words x) (product_words y) rest b.left b.right p (λ l q. refl)
      (read_sum x frames low b.left (sign MinusToken ∷ (product_words y ++ rest)) b.left_is tt)
      (read_product y frames low (Some (record { part = b.left; sign = Minus })) b.right rest b.right_is s) b.made_is

  read_term : (x : Term) (frames : List Frame) (p : Part) (rest : List Word) → term_part x ≡ Some p → Stays rest → ReadTerm frames (term_words x) rest p
  read_term (single x) frames p rest e s = term_of_sum frames (sum_words x) rest p (read_sum x frames None p rest e s)
  read_term (interval x y) frames p rest e s =
      let b = both_some (joined Interval) (sum_part x) (sum_part y) p e in
      interval_read frames (sum_words x) (sum_words y) rest b.left b.right p
      (read_sum x frames None b.left (sign DotDot ∷ (sum_words y ++ rest)) b.left_is tt)
      (read_sum y frames (Some b.left) b.right rest b.right_is s) b.made_is

  read_terms : (x : TermRow) (frames : List Frame) (outside : Level) (bracket : Bracket) (row : Row) (rest : List Word) → HasLists bracket → terms_row x ≡ Some row → Stays rest → ReadTerms frames outside bracket (terms_words x) rest row
  read_terms (one_term t) frames outside bracket row rest lists e s =
      let m = map_some (with_term no_terms) (term_part t) row e in
      subst (ReadTerms frames outside bracket (term_words t) rest) m.made_is
      (terms_of_term frames outside bracket (term_words t) rest m.from (read_term t (frame outside bracket None ∷ frames) m.from rest m.from_is s))
  read_terms (and_term ts t) frames outside bracket row rest lists e s =
      let b = both_some (λ row p. Some (with_term row p)) (terms_row ts) (term_part t) row e in
      subst (ReadTerms frames outside bracket (terms_words ts ++ sign Comma ∷ term_words t) rest) (some_injective _ _ b.made_is)
      (terms_read frames outside bracket (terms_words ts) (term_words t) rest b.left b.right lists
      (read_terms ts frames outside bracket b.left (sign Comma ∷ (term_words t ++ rest)) lists b.left_is tt)
      (read_term t (frame outside bracket (Some b.left) ∷ frames) b.right rest b.right_is s))

  read_arguments : (x : Arguments) (frames : List Frame) (outside : Level) (f : List ℕ) (lists : Option Rows) (e : Divider) (row : Row) (rest : List Word) → arguments_row x ≡ Some row → run (wanted (frame outside (ArgumentsOf f lists) None ∷ frames) no_level) (arguments_words x ++ sign (kind_at e) ∷ rest) ≡ after (list_ended frames outside (kind_at e) (ArgumentsOf f (Some (with_row lists row)))) (sign (kind_at e)) rest
  read_arguments no_arguments frames outside f lists e row rest h =
      run_step (wanted (frame outside (ArgumentsOf f lists) None ∷ frames) no_level) (sign (kind_at e)) rest _ (bare_list e frames (frame outside (ArgumentsOf f lists) None) _ (ap (λ r. Some (ArgumentsOf f (Some (with_row lists r)))) (some_injective _ _ h)))
  read_arguments (arguments ts) frames outside f lists e row rest h =
      let r = read_terms ts frames outside (ArgumentsOf f lists) row (sign (kind_at e) ∷ rest) tt h (divider_stays e) in
      r.runs
      ∙ run_step (at (frame outside (ArgumentsOf f lists) r.before ∷ frames) r.level_left r.part) (sign (kind_at e)) rest _ (ended_list e frames (frame outside (ArgumentsOf f lists) r.before) r.level_left r.part r.term _ r.closes (ap (λ x. Some (ArgumentsOf f (Some (with_row lists x)))) r.row_is))

  read_lists : (x : Lists) (frames : List Frame) (outside : Level) (f : List ℕ) (e : Divider) (rows : Rows) (rest : List Word) → lists_rows x ≡ Some rows → run (wanted (frame outside (ArgumentsOf f None) None ∷ frames) no_level) (lists_words x ++ sign (kind_at e) ∷ rest) ≡ after (list_ended frames outside (kind_at e) (ArgumentsOf f (Some rows))) (sign (kind_at e)) rest
  read_lists (one_list args) frames outside f e rows rest h =
      let m = map_some only_list (arguments_row args) rows h in
      read_arguments args frames outside f None e m.from rest m.from_is
      ∙ ap (λ r. after (list_ended frames outside (kind_at e) (ArgumentsOf f (Some r))) (sign (kind_at e)) rest) m.made_is
  read_lists (or_list lists args) frames outside f e rows rest h =
      let b = both_some (λ rows row. Some (with_list rows row)) (lists_rows lists) (arguments_row args) rows h in
      ap (λ ws. run (wanted (frame outside (ArgumentsOf f None) None ∷ frames) no_level) ws) (append_assoc (lists_words lists) (sign Semicolon ∷ arguments_words args) (sign (kind_at e) ∷ rest))
      ∙ read_lists lists frames outside f semicolon b.left (arguments_words args ++ sign (kind_at e) ∷ rest) b.left_is
      ∙ read_arguments args frames outside f (Some b.left) e b.right rest b.right_is
      ∙ ap (λ r. after (list_ended frames outside (kind_at e) (ArgumentsOf f (Some r))) (sign (kind_at e)) rest) (some_injective _ _ b.made_is)

  read_tuple : (x : Tuple) (frames : List Frame) (outside : Level) (alternatives : Option Row) (e : Divider) (p : Part) (rest : List Word) → tuple_part x ≡ Some p → run (wanted (frame outside (Parenthesis alternatives) None ∷ frames) no_level) (tuple_words x ++ sign (kind_at e) ∷ rest) ≡ after (list_ended frames outside (kind_at e) (Parenthesis (Some (with_alternative (alternatives_so_far alternatives) p)))) (sign (kind_at e)) rest
  read_tuple empty_tuple frames outside alternatives e p rest h =
      run_step (wanted (frame outside (Parenthesis alternatives) None ∷ frames) no_level) (sign (kind_at e)) rest _ (bare_list e frames (frame outside (Parenthesis alternatives) None) _ (ap (parenthesis_with alternatives) h))
  read_tuple (tuple ts) frames outside alternatives e p rest h =
      let t = then_some (λ row. grouped row.terms row) (terms_row ts) p h in
      let r = read_terms ts frames outside (Parenthesis alternatives) t.from (sign (kind_at e) ∷ rest) tt t.from_is (divider_stays e) in
      r.runs
      ∙ run_step (at (frame outside (Parenthesis alternatives) r.before ∷ frames) r.level_left r.part) (sign (kind_at e)) rest _ (ended_list e frames (frame outside (Parenthesis alternatives) r.before) r.level_left r.part r.term _ r.closes (ap (λ (x : Row). parenthesis_with alternatives (grouped x.terms x)) r.row_is ∙ ap (parenthesis_with alternatives) t.made_is))
  read_tuple (tuple_comma ts) frames outside alternatives e p rest h =
      let t = then_some tuple_of (terms_row ts) p h in
      let r = read_terms ts frames outside (Parenthesis alternatives) t.from (sign Comma ∷ sign (kind_at e) ∷ rest) tt t.from_is tt in
      ap (λ ws. run (wanted (frame outside (Parenthesis alternatives) None ∷ frames) no_level) ws) (append_assoc (terms_words ts) (sign Comma ∷ []) (sign (kind_at e) ∷ rest))
      ∙ r.runs
      ∙ run_step (at (frame outside (Parenthesis alternatives) r.before ∷ frames) r.level_left r.part) (sign Comma) (sign (kind_at e) ∷ rest) _ (comma_behind frames outside (Parenthesis alternatives) r.before r.level_left r.part r.term t.from tt r.closes r.row_is)
      ∙ run_step (wanted (frame outside (Parenthesis alternatives) (Some t.from) ∷ frames) no_level) (sign (kind_at e)) rest _ (bare_list e frames (frame outside (Parenthesis alternatives) (Some t.from)) _ (ap (parenthesis_with alternatives) t.made_is))

  read_tuples : (x : Tuples) (frames : List Frame) (outside : Level) (e : Divider) (row : Row) (rest : List Word) → tuples_row x ≡ Some row → run (wanted (frame outside (Parenthesis None) None ∷ frames) no_level) (tuples_words x ++ sign (kind_at e) ∷ rest) ≡ after (list_ended frames outside (kind_at e) (Parenthesis (Some row))) (sign (kind_at e)) rest
  read_tuples (one_tuple t) frames outside e row rest h =
      let m = map_some (with_alternative no_alternative) (tuple_part t) row h in
      read_tuple t frames outside None e m.from rest m.from_is
      ∙ ap (λ r. after (list_ended frames outside (kind_at e) (Parenthesis (Some r))) (sign (kind_at e)) rest) m.made_is
  read_tuples (or_tuple ts t) frames outside e row rest h =
      let b = both_some (λ row p. Some (with_alternative row p)) (tuples_row ts) (tuple_part t) row h in
      ap (λ ws. run (wanted (frame outside (Parenthesis None) None ∷ frames) no_level) ws) (append_assoc (tuples_words ts) (sign Semicolon ∷ tuple_words t) (sign (kind_at e) ∷ rest))
      ∙ read_tuples ts frames outside semicolon b.left (tuple_words t ++ sign (kind_at e) ∷ rest) b.left_is
      ∙ read_tuple t frames outside (Some b.left) e b.right rest b.right_is
      ∙ ap (λ r. after (list_ended frames outside (kind_at e) (Parenthesis (Some r))) (sign (kind_at e)) rest) (some_injective _ _ b.made_is)

-- a token that doesn't carry on a term ends it
ends : (l : Level) (p : Part) (kind : TokenKind) → carries_on kind ≡ false → behind [] l p kind ≡ ended [] l p kind
ends l p DotDot e = absurd (let false' : ⊥ = cc in false')
ends l p LeftParen e = absurd (let false' : ⊥ = cc in false')
ends l p PlusToken e = absurd (let false' : ⊥ = cc in false')
ends l p MinusToken e = absurd (let false' : ⊥ = cc in false')
ends l p Star e = absurd (let false' : ⊥ = cc in false')
ends l p Slash e = absurd (let false' : ⊥ = cc in false')
ends l p Backslash e = absurd (let false' : ⊥ = cc in false')
ends l p kind e = refl

stays_behind : (kind : TokenKind) → carries_on kind ≡ false → stays kind
stays_behind LeftParen e = absurd (let false' : ⊥ = cc in false')
stays_behind kind e = tt

ends_stay : (rest : List Word) → EndsTerm rest → Stays rest
ends_stay [] e = tt
ends_stay (name f ∷ ws) e = tt
ends_stay (number n ∷ ws) e = tt
ends_stay (quoted s ∷ ws) e = tt
ends_stay (sign kind ∷ ws) e = stays_behind kind e

found_behind : (l : Level) (p t : Part) (rest : List Word) → EndsTerm rest → closed_term l p ≡ Some t → run (at [] l p) rest ≡ Some (t, rest)
found_behind l p t [] e h = ap (λ o. carried (λ s. None) (λ x. Some (x, [])) None o) (made_some _ _ t h)
found_behind l p t (name f ∷ ws) e h = run_step (at [] l p) (name f) ws _ (made_some _ _ t h)
found_behind l p t (number n ∷ ws) e h = run_step (at [] l p) (number n) ws _ (made_some _ _ t h)
found_behind l p t (quoted s ∷ ws) e h = run_step (at [] l p) (quoted s) ws _ (made_some _ _ t h)
found_behind l p t (sign kind ∷ ws) e h = run_step (at [] l p) (sign kind) ws _ (ends l p kind e ∙ made_some _ _ t h)

-- a term and what ends it
pub complete : (x : Term) (rest : List Word) (p : Part) → EndsTerm rest → term_part x ≡ Some p → run at_start (term_words x ++ rest) ≡ Some (p, rest)
complete x rest p e h = let r = read_term x [] p rest h (ends_stay rest e) in r.runs ∙ found_behind r.level_left r.part p rest e r.closes
