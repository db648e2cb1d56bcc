-- What is printed of a part, on the line of the grammar on which it stands and where another one is wanted.
use Rattle.std.proofs.Common.{◌≡◌, ℕ, suc, ◌≤◌, ◌+◌, ◌*◌, max, nat_le, Bool, true, false, List, [], ◌∷◌, ◌++◌, Option, Some, sym, ap, ◌∙◌, subst, arith, if◌then◌else◌}
use Rattle.std.specs.Option.{IfSome, option_map, option_and_then}
use Rattle.ms_text.specs.declared.token.TokenKind.TheVariants.{LeftParen, RightParen}
use Rattle.ms_grammar.specs.declared.part.Part.{Part}
use Rattle.ms_grammar.specs.Words.{Word, sign}
use Rattle.ms_grammar.specs.Terms as g
use Rattle.ms_base.specs.Limits.{most_choices, most_height}
use Rattle.ms_grammar.specs.Terms.{counted, fitting}
use Rattle.ms_ast.specs.declared.line.Line.{Line}
use Rattle.ms_ast.specs.declared.line.Line.TheVariants.{Interval, Sum, Product, Unary, Primary}
use Rattle.ms_ast.specs.Ink.{Ink, ink_words, mark, in_parens}
use Rattle.ms_ast.specs.Terms.{Printed, printed, depth, on_line, parenthesis, at_line}
use Rattle.ms_ast.proofs.Inks.{ink_words_append}
use Rattle.ms_ast.proofs.Apart.{Joins}
use Rattle.ms_ast.proofs.Signs.{parens_join}
use Rattle.ms_ast.proofs.Somes.{kept}

module _ (D V : Type 0) (words : D → List Word) (spelled : D → Option V) where
  -- These words are spelled so, and the value is what they spell.
  pub record Spelled (ws : List Word) (value : V) : Type 0 where
    pub derivation : D
    pub words_are : words derivation ≡ ws
    pub spells : spelled derivation ≡ Some value

-- a part on a line of the grammar
abbrev pub OnLine : Line → List Word → Part → Type 0
OnLine Interval = Spelled g.Term Part g.term_words g.term_part
OnLine Sum = Spelled g.Sum Part g.sum_words g.sum_part
OnLine Product = Spelled g.Product Part g.product_words g.product_part
OnLine Unary = Spelled g.Unary Part g.unary_words g.unary_part
OnLine Primary = Spelled g.Primary Part g.primary_words g.primary_part

-- a part within parentheses
abbrev pub Within : List Word → Part → Type 0
Within = Spelled g.Tuple Part g.tuple_words g.tuple_part

module _ {ws : List Word} {p : Part} where
  pub sum_to_term : OnLine Sum ws p → OnLine Interval ws p
  sum_to_term s = record { derivation = g.single s.derivation; words_are = s.words_are; spells = s.spells }

  pub product_to_sum : OnLine Product ws p → OnLine Sum ws p
  product_to_sum s = record { derivation = g.product s.derivation; words_are = s.words_are; spells = s.spells }

  pub unary_to_product : OnLine Unary ws p → OnLine Product ws p
  unary_to_product s = record { derivation = g.unary s.derivation; words_are = s.words_are; spells = s.spells }

  pub primary_to_unary : OnLine Primary ws p → OnLine Unary ws p
  primary_to_unary s = record { derivation = g.primary s.derivation; words_are = s.words_are; spells = s.spells }

pub as_whole : (line : Line) (ws : List Word) (p : Part) → OnLine line ws p → OnLine Interval ws p
as_whole Interval ws p s = s
as_whole Sum ws p s = sum_to_term s
as_whole Product ws p s = sum_to_term (product_to_sum s)
as_whole Unary ws p s = sum_to_term (product_to_sum (unary_to_product s))
as_whole Primary ws p s = sum_to_term (product_to_sum (unary_to_product (primary_to_unary s)))

-- choices are counted up to a limit
abbrev pub Few : ℕ → Type 0
Few n = n ≤ suc most_choices

pub counted_few : (n : ℕ) → Few (counted n)
counted_few n = omega arith

pub same_part : (p : Part) (h c : ℕ) → h ≡ p.height → c ≡ p.choices → ◌≡◌ {A = Part} (record { term = p.term; height = h; choices = c }) p
same_part p h c e f = λ i. record { term = p.term; height = e i; choices = f i }

-- a part by itself in a row, and as the one alternative
pub alone_in_row : (p : Part) → Few p.choices → ◌≡◌ {A = Part} (record { term = p.term; height = max 0 p.height; choices = counted (1 * p.choices) }) p
alone_in_row p few = same_part p (max 0 p.height) (counted (1 * p.choices)) (omega arith) (omega arith)

pub alone_as_alternative : (p : Part) → Few p.choices → ◌≡◌ {A = Part} (record { term = p.term; height = max 0 p.height; choices = counted (0 + p.choices) }) p
alone_as_alternative p few = same_part p (max 0 p.height) (counted (0 + p.choices)) (omega arith) (omega arith)

pub in_parens_words : (ink : List Ink) → ink_words (in_parens ink) ≡ sign LeftParen ∷ (ink_words ink ++ sign RightParen ∷ [])
in_parens_words ink = ap (λ ws. sign LeftParen ∷ ws) (ink_words_append ink (mark RightParen ∷ []))

pub in_parens_written : (inside : List Ink) (p : Part) → Few p.choices → Within (ink_words inside) p → OnLine Primary (ink_words (in_parens inside)) p
in_parens_written inside p few s = record {
  derivation = g.parenthesis (g.one_tuple s.derivation);
  words_are = ap (λ ws. sign LeftParen ∷ (ws ++ sign RightParen ∷ [])) s.words_are ∙ sym (in_parens_words inside);
  spells = ap (λ o. option_and_then (λ row. g.pooled row.terms row) (option_map (g.with_alternative g.no_alternative) o)) s.spells ∙ ap Some (alone_as_alternative p few);
}

pub whole_within : (ws : List Word) (p : Part) → Few p.choices → OnLine Interval ws p → Within ws p
whole_within ws p few s = record {
  derivation = g.tuple (g.one_term s.derivation);
  words_are = s.words_are;
  spells = ap (λ o. option_and_then (λ row. g.grouped row.terms row) (option_map (g.with_term g.no_terms) o)) s.spells ∙ ap Some (alone_in_row p few);
}

-- What is printed spells the part, on its line and within parentheses, and may stand before whatever no name
-- goes on in.
pub record ShownAs (w : Printed) (p : Part) : Type 0 where
  pub written : OnLine w.line (ink_words w.ink) p
  pub inside : Within (ink_words w.inside) p
  pub few : Few p.choices
  pub joins : Joins w.ink
  pub joins_inside : Joins w.inside

abbrev pub IsShown : Part → Type 0
IsShown p = ShownAs (printed p.term) p

pub plain_shown : (line : Line) (ink : List Ink) (p : Part) → OnLine line (ink_words ink) p → Few p.choices → Joins ink → ShownAs (on_line line ink) p
plain_shown line ink p s few j = record {
  written = s;
  inside = whole_within (ink_words ink) p few (as_whole line (ink_words ink) p s);
  few = few;
  joins = j;
  joins_inside = j;
}

pub parens_shown : (inside : List Ink) (p : Part) → Within (ink_words inside) p → Few p.choices → Joins inside → ShownAs (parenthesis inside) p
parens_shown inside p s few j = record {
  written = in_parens_written inside p few s;
  inside = s;
  few = few;
  joins = parens_join inside j;
  joins_inside = j;
}

placed_by : (wanted own : Line) (ink inside : List Ink) (p : Part) → OnLine own (ink_words ink) p → Within (ink_words inside) p → Few p.choices → OnLine wanted (ink_words (if nat_le (depth wanted) (depth own) then ink else in_parens inside)) p
placed_by Interval Interval ink inside p on within few = on
placed_by Interval Sum ink inside p on within few = sum_to_term (on)
placed_by Interval Product ink inside p on within few = sum_to_term (product_to_sum (on))
placed_by Interval Unary ink inside p on within few = sum_to_term (product_to_sum (unary_to_product (on)))
placed_by Interval Primary ink inside p on within few = sum_to_term (product_to_sum (unary_to_product (primary_to_unary (on))))
placed_by Sum Interval ink inside p on within few = product_to_sum (unary_to_product (primary_to_unary (in_parens_written inside p few within)))
placed_by Sum Sum ink inside p on within few = on
placed_by Sum Product ink inside p on within few = product_to_sum (on)
placed_by Sum Unary ink inside p on within few = product_to_sum (unary_to_product (on))
placed_by Sum Primary ink inside p on within few = product_to_sum (unary_to_product (primary_to_unary (on)))
placed_by Product Interval ink inside p on within few = unary_to_product (primary_to_unary (in_parens_written inside p few within))
placed_by Product Sum ink inside p on within few = unary_to_product (primary_to_unary (in_parens_written inside p few within))
placed_by Product Product ink inside p on within few = on
placed_by Product Unary ink inside p on within few = unary_to_product (on)
placed_by Product Primary ink inside p on within few = unary_to_product (primary_to_unary (on))
placed_by Unary Interval ink inside p on within few = primary_to_unary (in_parens_written inside p few within)
placed_by Unary Sum ink inside p on within few = primary_to_unary (in_parens_written inside p few within)
placed_by Unary Product ink inside p on within few = primary_to_unary (in_parens_written inside p few within)
placed_by Unary Unary ink inside p on within few = on
placed_by Unary Primary ink inside p on within few = primary_to_unary (on)
placed_by Primary Interval ink inside p on within few = in_parens_written inside p few within
placed_by Primary Sum ink inside p on within few = in_parens_written inside p few within
placed_by Primary Product ink inside p on within few = in_parens_written inside p few within
placed_by Primary Unary ink inside p on within few = in_parens_written inside p few within
placed_by Primary Primary ink inside p on within few = on

-- where a line is wanted
pub placed : (wanted : Line) (w : Printed) (p : Part) → ShownAs w p → OnLine wanted (ink_words (at_line wanted w)) p
placed wanted w p s = placed_by wanted w.line w.ink w.inside p s.written s.inside s.few

joins_by : (b : Bool) (ink inside : List Ink) → Joins ink → Joins inside → Joins (if b then ink else in_parens inside)
joins_by true ink inside j k = j
joins_by false ink inside j k = parens_join inside k

pub placed_joins : (wanted : Line) (w : Printed) (p : Part) → ShownAs w p → Joins (at_line wanted w)
placed_joins wanted w p s = joins_by (nat_le (depth wanted) (depth w.line)) w.ink w.inside s.joins s.joins_inside

-- a part that isn't higher than it may be
pub fitting_shown : (p : Part) (w : Printed) → printed p.term ≡ w → (fitting p ≡ Some p → ShownAs w p) → IfSome (fitting p) IsShown
fitting_shown p w is h = kept IsShown (nat_le p.height (suc most_height)) p (λ e low. subst (λ v. ShownAs v p) (sym is) (h e))

pub shown_by : (p : Part) (w : Printed) → printed p.term ≡ w → ShownAs w p → IsShown p
shown_by p w is h = subst (λ v. ShownAs v p) (sym is) h
