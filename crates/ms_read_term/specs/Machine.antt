-- How a term is read, word by word.
use Rattle.std.specs.Prelude.{ℕ, zero, suc, ◌-◌, ◌==◌, ◌^◌, nat_le, nat_lt, pos, neg_ℤ, if◌then◌else◌, Bool, true, false, List, [], ◌∷◌, length, Option, Some, None}
use Rattle.std.specs.Option.{is_some}
use Rattle.ms_text.specs.declared.token.TokenKind.{TokenKind}
use Rattle.ms_text.specs.declared.token.TokenKind.TheVariants.{Name, Number as NumberToken, Text as TextToken, Dot, DotDot, Comma, Semicolon, LeftParen, RightParen, Plus as PlusToken, Minus as MinusToken, Star, Slash, Backslash, Bar as BarToken}
use Rattle.ms_grammar.specs.declared.term.TextTerm.{Number, Text, Function, Abs}
use Rattle.ms_grammar.specs.declared.part.Part.{Part}
use Rattle.ms_grammar.specs.Words.{Word, name, number, quoted, sign}
use Rattle.ms_grammar.specs.Terms.{leaf, round, greatest_numeral}
use Rattle.ms_read_term.specs.declared.level.SumSign.{SumSign}
use Rattle.ms_read_term.specs.declared.level.SumSign.TheVariants.{Plus, Minus}
use Rattle.ms_read_term.specs.declared.level.ProductSign.{ProductSign}
use Rattle.ms_read_term.specs.declared.level.ProductSign.TheVariants.{Times, Over, Modulo}
use Rattle.ms_read_term.specs.declared.level.Level.{Level}
use Rattle.ms_read_term.specs.declared.bracket.Bracket.{Bracket}
use Rattle.ms_read_term.specs.declared.bracket.Bracket.TheVariants.{Arguments, Parenthesis, Bar}
use Rattle.ms_read_term.specs.declared.bracket.Frame.{Frame}
use Rattle.ms_read_term.specs.declared.reader.Place.{Place}
use Rattle.ms_read_term.specs.declared.reader.Place.TheVariants.{Wanted, Named, Behind}
use Rattle.ms_read_term.specs.declared.reader.Turn.{Turn}
use Rattle.ms_read_term.specs.declared.reader.Turn.TheVariants.{Next, Found, Refused}
use Rattle.ms_read_term.specs.declared.reader.Reader.{Reader}
use Rattle.ms_read_term.specs.Closing.{negated, no_level, is_bare, closed_product, closed_sum, closed_term}
use Rattle.ms_read_term.specs.Brackets.{ended_with, ended_bare, bracket_part, new_frame, frame_with, outside_of_bar}

-- What a word was: one of the term, after which the reader goes on, the first one behind the term, or one that no
-- term goes on with.
pub data Outcome : Type 0 where
  next : Reader → Outcome
  found : Part → Outcome
  refused : Outcome

abbrev pub outcome : Turn → Reader → Outcome
outcome Next r = next r
outcome (Found p) r = found p
outcome Refused r = refused

-- where something is made, the outcome goes on from it
abbrev pub made : {A : Type 0} → (A → Outcome) → Option A → Outcome
made go None = refused
made go (Some x) = go x

-- where a part is to begin
abbrev pub wanted : List Frame → Level → Reader
wanted frames level = record { frames = frames; level = level; place = Wanted }

abbrev pub at_start : Reader
at_start = wanted [] no_level

-- in a bracket, behind the bracket, a `,` or a `;`
abbrev pub reopened : List Frame → Frame → Outcome
reopened frames frame = next (wanted (frame ∷ frames) no_level)

abbrev pub opened : List Frame → Level → Bracket → Outcome
opened frames outside bracket = reopened frames (new_frame outside bracket)

-- behind a part with so many minuses before it
abbrev pub landed : List Frame → Level → ℕ → Part → Outcome
landed frames level minuses p = made (λ q. next (record { frames = frames; level = record level { minuses = 0 }; place = Behind q })) (negated minuses p)

-- behind the bracket, once it is closed behind a list
abbrev pub closed : List Frame → Level → Bracket → Outcome
closed frames outside bracket = made (landed frames outside outside.minuses) (bracket_part bracket)

-- behind a list of a bracket, which a `;` or a closing parenthesis ended
abbrev pub list_ended : List Frame → Level → TokenKind → Bracket → Outcome
list_ended frames outside Semicolon bracket = opened frames outside bracket
list_ended frames outside kind bracket = closed frames outside bracket

-- behind a list that ends behind its bracket, a `;` or a `,`
abbrev pub bare_in : Bool → List Frame → TokenKind → Outcome
bare_in true (frame ∷ frames) kind = made (list_ended frames frame.outside kind) (ended_bare frame.bracket frame.row)
bare_in empty frames kind = refused

abbrev pub bare : List Frame → Level → TokenKind → Outcome
bare frames level kind = bare_in (is_bare level) frames kind

-- The least number stands directly behind its minus.
abbrev pub least_begun : List Frame → Level → ℕ → Outcome
least_begun frames level zero = refused
least_begun frames level (suc minuses) = landed frames level minuses (leaf (Number (neg_ℤ (pos (2 ^ 63)))))

abbrev pub number_begun : List Frame → Level → ℕ → Outcome
number_begun frames level n =
    if nat_le n greatest_numeral then landed frames level level.minuses (leaf (Number (pos n))) else
    if n == 2 ^ 63 then least_begun frames level level.minuses else refused

-- no term is as high as this
abbrev pub most_minuses : ℕ
most_minuses = 201

abbrev pub minus_begun : List Frame → Level → Outcome
minus_begun frames level = if nat_lt level.minuses most_minuses then next (wanted frames (record level { minuses = suc level.minuses })) else refused

-- after a word where a part is to begin
abbrev pub begun : List Frame → Level → Word → Outcome
begun frames level (name f) = next (record { frames = frames; level = level; place = Named f })
begun frames level (number n) = number_begun frames level n
begun frames level (quoted s) = landed frames level level.minuses (leaf (Text s))
begun frames level (sign MinusToken) = minus_begun frames level
begun frames level (sign LeftParen) = opened frames level (Parenthesis None)
begun frames level (sign BarToken) = opened frames level Bar
begun frames level (sign Semicolon) = bare frames level Semicolon
begun frames level (sign RightParen) = bare frames level RightParen
begun frames level (sign kind) = refused

-- behind an operator of a product
abbrev pub product_pending : List Frame → Level → Part → ProductSign → Outcome
product_pending frames level p op = made (λ q. next (wanted frames (record level { product = Some (record { part = q; sign = op }); minuses = 0 }))) (closed_product level p)

-- behind an operator of a sum
abbrev pub sum_pending : List Frame → Level → Part → SumSign → Outcome
sum_pending frames level p op = made (λ q. next (wanted frames (record level { sum = Some (record { part = q; sign = op }); product = None; minuses = 0 }))) (closed_sum level p)

-- behind the sign of an interval, which has one low end
abbrev pub low_pending_in : Bool → List Frame → Option Part → Outcome
low_pending_in true frames low = refused
low_pending_in false frames low = made (λ q. next (wanted frames (record { low = Some q; sum = None; product = None; minuses = 0 }))) low

abbrev pub low_pending : List Frame → Level → Part → Outcome
low_pending frames level p = low_pending_in (is_some level.low) frames (closed_sum level p)

-- behind a `,` behind a term in a bracket
abbrev pub comma : List Frame → Frame → Part → Outcome
comma frames frame t = made (reopened frames) (frame_with frame t)

-- behind a `;` behind a term in a bracket
abbrev pub semicolon : List Frame → Frame → Part → Outcome
semicolon frames frame t = made (opened frames frame.outside) (ended_with frame.bracket frame.row t)

-- behind a closing parenthesis behind a term in a bracket
abbrev pub right_paren : List Frame → Frame → Part → Outcome
right_paren frames frame t = made (closed frames frame.outside) (ended_with frame.bracket frame.row t)

-- behind the bar that closes a bracket
abbrev pub barred : List Frame → Frame → Part → Outcome
barred frames frame t = made (λ outside. made (landed frames outside outside.minuses) (round Abs t)) (outside_of_bar frame)

-- After a token behind a term in a bracket. An interval isn't closed by a bar.
abbrev pub divided : List Frame → Frame → Bool → Part → TokenKind → Outcome
divided frames frame is_interval t Comma = comma frames frame t
divided frames frame is_interval t Semicolon = semicolon frames frame t
divided frames frame is_interval t RightParen = right_paren frames frame t
divided frames frame false t BarToken = barred frames frame t
divided frames frame is_interval t kind = refused

-- After a token that ends the term of a level. A term in no bracket is found.
abbrev pub ended_in : List Frame → Bool → TokenKind → Part → Outcome
ended_in [] is_interval kind t = found t
ended_in (frame ∷ frames) is_interval kind t = divided frames frame is_interval t kind

abbrev pub ended : List Frame → Level → Part → TokenKind → Outcome
ended frames level p kind = made (ended_in frames (is_some level.low) kind) (closed_term level p)

-- after a token behind a part
abbrev pub behind : List Frame → Level → Part → TokenKind → Outcome
behind frames level p Star = product_pending frames level p Times
behind frames level p Slash = product_pending frames level p Over
behind frames level p Backslash = product_pending frames level p Modulo
behind frames level p PlusToken = sum_pending frames level p Plus
behind frames level p MinusToken = sum_pending frames level p Minus
behind frames level p DotDot = low_pending frames level p
behind frames level p LeftParen = refused
behind frames level p kind = ended frames level p kind

-- after a token behind a name
abbrev pub behind_name : List Frame → Level → List ℕ → TokenKind → Outcome
behind_name frames level f LeftParen = opened frames level (Arguments f None)
behind_name frames level f kind = made (λ p. behind frames level p kind) (negated level.minuses (leaf (Function f ([] ∷ []))))

abbrev pub kind_of : Word → TokenKind
kind_of (name f) = Name
kind_of (number n) = NumberToken
kind_of (quoted s) = TextToken
kind_of (sign kind) = kind

abbrev pub step_at : Place → List Frame → Level → Word → Outcome
step_at Wanted frames level w = begun frames level w
step_at (Named f) frames level w = behind_name frames level f (kind_of w)
step_at (Behind p) frames level w = behind frames level p (kind_of w)

abbrev pub step : Reader → Word → Outcome
step r w = step_at r.place r.frames r.level w

abbrev pub carried : {A : Type 0} → (Reader → A) → (Part → A) → A → Outcome → A
carried on stop none (next r) = on r
carried on stop none (found p) = stop p
carried on stop none refused = none

-- The term that the reader finds from here on, with the words behind it. The end of the words is read like a dot,
-- which ends each term.
abbrev pub run : Reader → List Word → Option (Part × List Word)
run r [] = carried (λ s. None) (λ p. Some (p, [])) None (step r (sign Dot))
run r (w ∷ ws) = carried (λ s. run s ws) (λ p. Some (p, w ∷ ws)) None (step r w)

-- what is found of the words, with the number of its words
abbrev pub numbered : List Word → Option (Part × List Word) → Option (Part × ℕ)
numbered ws None = None
numbered ws (Some (p, rest)) = Some (p, length ws - length rest)

-- the term at the front of the words
abbrev pub read_of : List Word → Option (Part × ℕ)
read_of ws = numbered ws (run at_start ws)
