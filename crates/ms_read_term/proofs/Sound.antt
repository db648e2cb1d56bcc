-- Each step keeps that the words that were read are spelled by what is pending, so that what is found is spelled.
use Rattle.std.proofs.Common.{◌≡◌, ℕ, zero, suc, ◌^◌, ◌==◌, nat_le, nat_lt, Bool, true, false, List, [], ◌∷◌, Option, Some, None, refl, sym, ◌∙◌, subst, IfSome, if◌then◌else◌}
use Rattle.std.specs.Prelude.{⊤}
use Rattle.std.specs.Option.{is_some}
use Rattle.std.proofs.lemmas.Bool.{eqb-true}
use Rattle.ms_text.specs.declared.token.TokenKind.{TokenKind}
use Rattle.ms_text.specs.declared.token.TokenKind.TheVariants.{Dot, DotDot, Comma, Semicolon, LeftParen, RightParen, Plus as PlusToken, Minus as MinusToken, Star, Slash, Backslash, Bar as BarToken}
use Rattle.ms_grammar.specs.declared.term.TextTerm.{Function, Abs}
use Rattle.ms_grammar.specs.declared.part.Part.{Part}
use Rattle.ms_grammar.specs.Words.{Word, name, number, quoted, sign}
use Rattle.ms_grammar.specs.Terms.{leaf, round, greatest_numeral}
use Rattle.ms_read_term.specs.declared.level.SumSign.{SumSign}
use Rattle.ms_read_term.specs.declared.level.SumSign.TheVariants.{Plus, Minus}
use Rattle.ms_read_term.specs.declared.level.ProductSign.{ProductSign}
use Rattle.ms_read_term.specs.declared.level.ProductSign.TheVariants.{Times, Over, Modulo}
use Rattle.ms_read_term.specs.declared.level.Level.{Level}
use Rattle.ms_read_term.specs.declared.bracket.Bracket.{Bracket}
use Rattle.ms_read_term.specs.declared.bracket.Bracket.TheVariants.{Arguments as ArgumentsOf, Parenthesis, Bar}
use Rattle.ms_read_term.specs.declared.bracket.Frame.{Frame}
use Rattle.ms_read_term.specs.declared.reader.Place.{Place}
use Rattle.ms_read_term.specs.declared.reader.Place.TheVariants.{Wanted, Named, Behind}
use Rattle.ms_read_term.specs.declared.reader.Reader.{Reader}
use Rattle.ms_read_term.specs.Closing.{negated, is_bare, closed_product, closed_sum, closed_term}
use Rattle.ms_read_term.specs.Brackets.{ended_with, ended_bare, bracket_part, new_frame, frame_with, outside_of_bar}
use Rattle.ms_read_term.specs.Machine.{Outcome, next, found, refused, made, at_start, reopened, opened, landed, closed, bare_in, bare, least_begun, number_begun, most_minuses, begun, product_pending, sum_pending, low_pending_in, comma, semicolon, right_paren, barred, divided, ended_in, ended, behind, behind_name, kind_of, step_at, step, carried, run}
use Rattle.ms_read_term.proofs.Spelled.{SpellsUnary, SpellsSum, SpellsTerm, Minuses, kind_of_product, kind_of_sum, minuses_spelled, unary_of_primary, absolute_spelled, number_spelled, least_spelled, string_spelled, constant_spelled}
use Rattle.ms_read_term.proofs.Standing.{Pending, Before, nothing_before, product_closes, sum_closes, term_closes, sum_of_term, nothing_low, bare_level, FrameStands, FramesStand, Ended, bracket_goes_on, bracket_closes, ends_with, ends_bare, frame_grows, bar_stands}

-- Where a part is to begin, what was read is spelled by what is pending.
record AtWanted (frames : List Frame) (l : Level) (whole rest : List Word) : Type 0 where
  from : List Word
  frames_stand : FramesStand frames whole from
  before : Before l from rest

-- the same behind a part with its minuses
record AtPart (frames : List Frame) (l : Level) (p : Part) (whole rest : List Word) : Type 0 where
  from : List Word
  to : List Word
  frames_stand : FramesStand frames whole from
  pending : Pending l.low l.sum l.product from to
  part : SpellsUnary p to rest

abbrev Stands : Place → List Frame → Level → List Word → List Word → Type 0
Stands Wanted frames l whole rest = AtWanted frames l whole rest
Stands (Named f) frames l whole rest = AtWanted frames l whole (name f ∷ rest)
Stands (Behind p) frames l whole rest = AtPart frames l p whole rest

-- What an outcome says, where these words begin with the one that was read, and those are behind it.
abbrev Sound : List Word → List Word → List Word → Outcome → Type 0
Sound whole here rest (next r) = Stands r.place r.frames r.level whole rest
Sound whole here rest (found p) = SpellsTerm p whole here
Sound whole here rest refused = ⊤

made_sound : {A : Type 0} (whole here rest : List Word) (go : A → Outcome) (o : Option A) → ((x : A) → o ≡ Some x → Sound whole here rest (go x)) → Sound whole here rest (made go o)
made_sound whole here rest go None h = tt
made_sound whole here rest go (Some x) h = h x refl

if_sound : (whole here rest : List Word) (b : Bool) (x y : Outcome) → (b ≡ true → Sound whole here rest x) → (b ≡ false → Sound whole here rest y) → Sound whole here rest (if b then x else y)
if_sound whole here rest true x y h k = h refl
if_sound whole here rest false x y h k = k refl

landed_sound : (whole here rest : List Word) (frames : List Frame) (l : Level) (m : ℕ) (p : Part) (a b c : List Word) → FramesStand frames whole a → Pending l.low l.sum l.product a b → Minuses m b c → SpellsUnary p c rest → Sound whole here rest (landed frames l m p)
landed_sound whole here rest frames l m p a b c stand pending minuses part =
    made_sound whole here rest _ (negated m p) (λ q e. record { from = a; to = b; frames_stand = stand; pending = pending; part = minuses_spelled m p q b c rest minuses part e })

reopened_sound : (whole here rest : List Word) (frames : List Frame) (f : Frame) (a : List Word) → FramesStand frames whole a → FrameStands f a rest → Sound whole here rest (reopened frames f)
reopened_sound whole here rest frames f a stand h =
    record { from = rest; frames_stand = record { place = a; first = stand; second = h }; before = nothing_before rest }

least_sound : (whole here rest : List Word) (frames : List Frame) (l : Level) (m n : ℕ) (a b : List Word) → n ≡ 2 ^ 63 → FramesStand frames whole a → Pending l.low l.sum l.product a b → Minuses m b (number n ∷ rest) → Sound whole here rest (least_begun frames l m)
least_sound whole here rest frames l zero n a b e stand pending minuses = tt
least_sound whole here rest frames l (suc m) n a b e stand pending minuses = landed_sound whole here rest frames l m _ a b (sign MinusToken ∷ number n ∷ rest) stand pending minuses (least_spelled n rest e)

number_sound : (whole here rest : List Word) (frames : List Frame) (l : Level) (n : ℕ) → AtWanted frames l whole (number n ∷ rest) → Sound whole here rest (number_begun frames l n)
number_sound whole here rest frames l n h =
    if_sound whole here rest (nat_le n greatest_numeral) _ _
    (λ e. landed_sound whole here rest frames l l.minuses _ h.from h.before.pending_to (number n ∷ rest) h.frames_stand h.before.pending h.before.minuses (number_spelled n rest e))
    (λ _. if_sound whole here rest (n == 2 ^ 63) _ _
    (λ e. least_sound whole here rest frames l l.minuses n h.from h.before.pending_to (eqb-true n _ e) h.frames_stand h.before.pending h.before.minuses)
    (λ _. tt))

-- a bracket that opens
opened_sound : (whole here rest : List Word) (frames : List Frame) (l : Level) (bracket : Bracket) (a b : List Word) → FramesStand frames whole a → Before l a b → FrameStands (new_frame l bracket) a rest → Sound whole here rest (opened frames l bracket)
opened_sound whole here rest frames l bracket a b stand before h = reopened_sound whole here rest frames (new_frame l bracket) a stand h

semicolon_ended : (whole here rest : List Word) (frames : List Frame) (outside : Level) (bracket : Bracket) (a b : List Word) → FramesStand frames whole a → Before outside a b → Ended bracket b (sign Semicolon ∷ rest) → Sound whole here rest (opened frames outside bracket)
semicolon_ended whole here rest frames outside bracket a b stand before h = reopened_sound whole here rest frames (new_frame outside bracket) a stand (record { bracket_from = b; before = before; bracket_stands = bracket_goes_on bracket b rest h })

paren_ended : (whole here rest : List Word) (frames : List Frame) (outside : Level) (bracket : Bracket) (a b : List Word) → FramesStand frames whole a → Before outside a b → Ended bracket b (sign RightParen ∷ rest) → Sound whole here rest (closed frames outside bracket)
paren_ended whole here rest frames outside bracket a b stand before h =
    made_sound whole here rest _ (bracket_part bracket) (λ p e. landed_sound whole here rest frames outside outside.minuses p a before.pending_to b stand before.pending before.minuses (unary_of_primary p b rest (bracket_closes bracket p b rest h e)))

bare_semicolon : (whole here rest : List Word) (b : Bool) (frames : List Frame) → FramesStand frames whole (sign Semicolon ∷ rest) → Sound whole here rest (bare_in b frames Semicolon)
bare_semicolon whole here rest true [] h = tt
bare_semicolon whole here rest true (f ∷ fs) h = made_sound whole here rest _ (ended_bare f.bracket f.row) (λ b e. semicolon_ended whole here rest fs f.outside b h.place h.second.bracket_from h.first h.second.before (ends_bare f.bracket b f.row h.second.bracket_from _ h.second.bracket_stands e))
bare_semicolon whole here rest false frames h = tt

bare_paren : (whole here rest : List Word) (b : Bool) (frames : List Frame) → FramesStand frames whole (sign RightParen ∷ rest) → Sound whole here rest (bare_in b frames RightParen)
bare_paren whole here rest true [] h = tt
bare_paren whole here rest true (f ∷ fs) h = made_sound whole here rest _ (ended_bare f.bracket f.row) (λ b e. paren_ended whole here rest fs f.outside b h.place h.second.bracket_from h.first h.second.before (ends_bare f.bracket b f.row h.second.bracket_from _ h.second.bracket_stands e))
bare_paren whole here rest false frames h = tt

not_bare : (whole here rest : List Word) (b : Bool) (frames : List Frame) (kind : TokenKind) → b ≡ false → Sound whole here rest (bare_in b frames kind)
not_bare whole here rest true frames kind e = absurd (let false' : ⊥ = cc in false')
not_bare whole here rest false frames kind e = tt

-- whether a test holds
data Told (b : Bool) : Type 0 where
  holds : b ≡ true → Told b
  fails : b ≡ false → Told b

tell : (b : Bool) → Told b
tell true = holds refl
tell false = fails refl

bare_sound : (whole here rest : List Word) (frames : List Frame) (l : Level) (kind : TokenKind) → AtWanted frames l whole (sign kind ∷ rest) → ((b : Bool) → FramesStand frames whole (sign kind ∷ rest) → Sound whole here rest (bare_in b frames kind)) → Sound whole here rest (bare frames l kind)
bare_sound whole here rest frames l kind h go = elim (tell (is_bare l)) [
  | holds e ↦ go (is_bare l) (subst (FramesStand frames whole) (bare_level l h.from (sign kind ∷ rest) e h.before) h.frames_stand)
  | fails e ↦ not_bare whole here rest (is_bare l) frames kind e
]

begun_sound : (whole rest : List Word) (frames : List Frame) (l : Level) (w : Word) → AtWanted frames l whole (w ∷ rest) → Sound whole (w ∷ rest) rest (begun frames l w)
begun_sound whole rest frames l (name f) h = h
begun_sound whole rest frames l (number n) h = number_sound whole (number n ∷ rest) rest frames l n h
begun_sound whole rest frames l (quoted s) h = landed_sound whole (quoted s ∷ rest) rest frames l l.minuses _ h.from h.before.pending_to (quoted s ∷ rest) h.frames_stand h.before.pending h.before.minuses (string_spelled s rest)
begun_sound whole rest frames l (sign MinusToken) h =
    if_sound whole (sign MinusToken ∷ rest) rest (nat_lt l.minuses most_minuses) _ _
    (λ _. record { from = h.from; frames_stand = h.frames_stand; before = record { pending_to = h.before.pending_to; pending = h.before.pending; minuses = h.before.minuses } })
    (λ _. tt)
begun_sound whole rest frames l (sign LeftParen) h = reopened_sound whole (sign LeftParen ∷ rest) rest frames (new_frame l (Parenthesis None)) h.from h.frames_stand (record { bracket_from = sign LeftParen ∷ rest; before = h.before; bracket_stands = record { inside = rest; row_from = rest; opens = refl; alternatives_stand = refl; row_stands = refl } })
begun_sound whole rest frames l (sign BarToken) h = reopened_sound whole (sign BarToken ∷ rest) rest frames (new_frame l Bar) h.from h.frames_stand (record { bracket_from = sign BarToken ∷ rest; before = h.before; bracket_stands = refl })
begun_sound whole rest frames l (sign Semicolon) h = bare_sound whole (sign Semicolon ∷ rest) rest frames l Semicolon h (λ b s. bare_semicolon whole (sign Semicolon ∷ rest) rest b frames s)
begun_sound whole rest frames l (sign RightParen) h = bare_sound whole (sign RightParen ∷ rest) rest frames l RightParen h (λ b s. bare_paren whole (sign RightParen ∷ rest) rest b frames s)
begun_sound whole rest frames l (sign kind) h = tt

product_sound : (whole rest : List Word) (frames : List Frame) (l : Level) (p : Part) (op : ProductSign) → AtPart frames l p whole (sign (kind_of_product op) ∷ rest) → Sound whole (sign (kind_of_product op) ∷ rest) rest (product_pending frames l p op)
product_sound whole rest frames l p op h =
    made_sound whole _ rest _ (closed_product l p) (λ q e. record {
      from = h.from;
      frames_stand = h.frames_stand;
      before = record {
        pending_to = rest;
        pending = record { low_to = h.pending.low_to; sum_to = h.pending.sum_to; low_stands = h.pending.low_stands; sum_stands = h.pending.sum_stands; product_stands = product_closes l p q h.from h.to _ h.pending h.part e };
        minuses = refl;
      };
    })

sum_sound : (whole rest : List Word) (frames : List Frame) (l : Level) (p : Part) (op : SumSign) → AtPart frames l p whole (sign (kind_of_sum op) ∷ rest) → Sound whole (sign (kind_of_sum op) ∷ rest) rest (sum_pending frames l p op)
sum_sound whole rest frames l p op h =
    made_sound whole _ rest _ (closed_sum l p) (λ q e. record {
      from = h.from;
      frames_stand = h.frames_stand;
      before = record {
        pending_to = rest;
        pending = record { low_to = h.pending.low_to; sum_to = rest; low_stands = h.pending.low_stands; sum_stands = sum_closes l p q h.from h.to _ h.pending h.part e; product_stands = refl };
        minuses = refl;
      };
    })

low_sound_in : (whole rest : List Word) (frames : List Frame) (l : Level) (p : Part) (b : Bool) → is_some l.low ≡ b → AtPart frames l p whole (sign DotDot ∷ rest) → Sound whole (sign DotDot ∷ rest) rest (low_pending_in b frames (closed_sum l p))
low_sound_in whole rest frames l p true e h = tt
low_sound_in whole rest frames l p false low h =
    made_sound whole _ rest _ (closed_sum l p) (λ q e. record {
      from = h.from;
      frames_stand = h.frames_stand;
      before = record {
        pending_to = rest;
        pending = record { low_to = rest; sum_to = rest; low_stands = subst (λ x. SpellsSum q x (sign DotDot ∷ rest)) (sym (nothing_low l.low h.from h.pending.low_to low h.pending.low_stands)) (sum_closes l p q h.from h.to _ h.pending h.part e); sum_stands = refl; product_stands = refl };
        minuses = refl;
      };
    })

comma_sound : (whole rest : List Word) (frames : List Frame) (f : Frame) (t : Part) (a b : List Word) → FramesStand frames whole a → FrameStands f a b → SpellsTerm t b (sign Comma ∷ rest) → Sound whole (sign Comma ∷ rest) rest (comma frames f t)
comma_sound whole rest frames f t a b stand h s =
    made_sound whole (sign Comma ∷ rest) rest _ (frame_with f t) (λ g e. reopened_sound whole (sign Comma ∷ rest) rest frames g a stand (frame_grows f g t a b rest h s e))

semicolon_sound : (whole rest : List Word) (frames : List Frame) (f : Frame) (t : Part) (a b : List Word) → FramesStand frames whole a → FrameStands f a b → SpellsTerm t b (sign Semicolon ∷ rest) → Sound whole (sign Semicolon ∷ rest) rest (semicolon frames f t)
semicolon_sound whole rest frames f t a b stand h s =
    made_sound whole (sign Semicolon ∷ rest) rest _ (ended_with f.bracket f.row t) (λ x e. semicolon_ended whole (sign Semicolon ∷ rest) rest frames f.outside x a h.bracket_from stand h.before (ends_with f.bracket x f.row t h.bracket_from b (sign Semicolon ∷ rest) h.bracket_stands s e))

paren_sound : (whole rest : List Word) (frames : List Frame) (f : Frame) (t : Part) (a b : List Word) → FramesStand frames whole a → FrameStands f a b → SpellsTerm t b (sign RightParen ∷ rest) → Sound whole (sign RightParen ∷ rest) rest (right_paren frames f t)
paren_sound whole rest frames f t a b stand h s =
    made_sound whole (sign RightParen ∷ rest) rest _ (ended_with f.bracket f.row t) (λ x e. paren_ended whole (sign RightParen ∷ rest) rest frames f.outside x a h.bracket_from stand h.before (ends_with f.bracket x f.row t h.bracket_from b (sign RightParen ∷ rest) h.bracket_stands s e))

bar_sound : (whole rest : List Word) (frames : List Frame) (f : Frame) (t : Part) (a b : List Word) → FramesStand frames whole a → FrameStands f a b → SpellsSum t b (sign BarToken ∷ rest) → Sound whole (sign BarToken ∷ rest) rest (barred frames f t)
bar_sound whole rest frames f t a b stand h s =
    made_sound whole (sign BarToken ∷ rest) rest _ (outside_of_bar f) (λ l e. made_sound whole (sign BarToken ∷ rest) rest _ (round Abs t) (λ q r.
    let bar = bar_stands f.bracket f.outside l f.row h.bracket_from b h.bracket_stands e in
    let before = subst (λ x. Before x a h.bracket_from) bar.1 h.before in
    landed_sound whole (sign BarToken ∷ rest) rest frames l l.minuses q a before.pending_to h.bracket_from stand before.pending before.minuses (unary_of_primary q h.bracket_from rest (absolute_spelled t q h.bracket_from b rest bar.0 s r))))

divided_sound : (whole rest : List Word) (frames : List Frame) (f : Frame) (is_interval : Bool) (t : Part) (w : Word) (a b : List Word) → FramesStand frames whole a → FrameStands f a b → SpellsTerm t b (w ∷ rest) → (is_interval ≡ false → SpellsSum t b (w ∷ rest)) → Sound whole (w ∷ rest) rest (divided frames f is_interval t (kind_of w))
divided_sound whole rest frames f is_interval t (sign Comma) a b stand h s r = comma_sound whole rest frames f t a b stand h s
divided_sound whole rest frames f is_interval t (sign Semicolon) a b stand h s r = semicolon_sound whole rest frames f t a b stand h s
divided_sound whole rest frames f is_interval t (sign RightParen) a b stand h s r = paren_sound whole rest frames f t a b stand h s
divided_sound whole rest frames f false t (sign BarToken) a b stand h s r = bar_sound whole rest frames f t a b stand h (r refl)
divided_sound whole rest frames f is_interval t w a b stand h s r = tt

ended_in_sound : (whole rest : List Word) (frames : List Frame) (is_interval : Bool) (t : Part) (w : Word) (a : List Word) → FramesStand frames whole a → SpellsTerm t a (w ∷ rest) → (is_interval ≡ false → SpellsSum t a (w ∷ rest)) → Sound whole (w ∷ rest) rest (ended_in frames is_interval (kind_of w) t)
ended_in_sound whole rest [] is_interval t w a h s r = record { derivation = s.derivation; words_are = h ∙ s.words_are; spells = s.spells }
ended_in_sound whole rest (f ∷ fs) is_interval t w a h s r = divided_sound whole rest fs f is_interval t w h.place a h.first h.second s r

ended_sound : (whole rest : List Word) (frames : List Frame) (l : Level) (p : Part) (w : Word) → AtPart frames l p whole (w ∷ rest) → Sound whole (w ∷ rest) rest (ended frames l p (kind_of w))
ended_sound whole rest frames l p w h =
    made_sound whole _ rest _ (closed_term l p) (λ t e. ended_in_sound whole rest frames (is_some l.low) t w h.from h.frames_stand (term_closes l p t h.from h.to (w ∷ rest) h.pending h.part e) (λ low. sum_of_term l p t h.from h.to (w ∷ rest) h.pending h.part e low))

behind_sound : (whole rest : List Word) (frames : List Frame) (l : Level) (p : Part) (w : Word) → AtPart frames l p whole (w ∷ rest) → Sound whole (w ∷ rest) rest (behind frames l p (kind_of w))
behind_sound whole rest frames l p (sign Star) h = product_sound whole rest frames l p Times h
behind_sound whole rest frames l p (sign Slash) h = product_sound whole rest frames l p Over h
behind_sound whole rest frames l p (sign Backslash) h = product_sound whole rest frames l p Modulo h
behind_sound whole rest frames l p (sign PlusToken) h = sum_sound whole rest frames l p Plus h
behind_sound whole rest frames l p (sign MinusToken) h = sum_sound whole rest frames l p Minus h
behind_sound whole rest frames l p (sign DotDot) h = low_sound_in whole rest frames l p (is_some l.low) refl h
behind_sound whole rest frames l p (sign LeftParen) h = tt
behind_sound whole rest frames l p w h = ended_sound whole rest frames l p w h

-- a name without arguments
constant_part : (whole rest : List Word) (frames : List Frame) (l : Level) (f : List ℕ) (p : Part) → AtWanted frames l whole (name f ∷ rest) → negated l.minuses (leaf (Function f ([] ∷ []))) ≡ Some p → AtPart frames l p whole rest
constant_part whole rest frames l f p h e = record { from = h.from; to = h.before.pending_to; frames_stand = h.frames_stand; pending = h.before.pending; part = minuses_spelled l.minuses _ p h.before.pending_to (name f ∷ rest) rest h.before.minuses (constant_spelled f rest) e }

named_sound : (whole rest : List Word) (frames : List Frame) (l : Level) (f : List ℕ) (w : Word) → AtWanted frames l whole (name f ∷ w ∷ rest) → Sound whole (w ∷ rest) rest (behind_name frames l f (kind_of w))
named_sound whole rest frames l f (sign LeftParen) h = reopened_sound whole (sign LeftParen ∷ rest) rest frames (new_frame l (ArgumentsOf f None)) h.from h.frames_stand (record { bracket_from = name f ∷ sign LeftParen ∷ rest; before = h.before; bracket_stands = record { inside = rest; row_from = rest; opens = refl; lists_stand = refl; row_stands = refl } })
named_sound whole rest frames l f w h = made_sound whole (w ∷ rest) rest _ (negated l.minuses (leaf (Function f ([] ∷ [])))) (λ p e. behind_sound whole rest frames l p w (constant_part whole (w ∷ rest) frames l f p h e))

step_sound : (whole rest : List Word) (place : Place) (frames : List Frame) (l : Level) (w : Word) → Stands place frames l whole (w ∷ rest) → Sound whole (w ∷ rest) rest (step_at place frames l w)
step_sound whole rest Wanted frames l w h = begun_sound whole rest frames l w h
step_sound whole rest (Named f) frames l w h = named_sound whole rest frames l f w h
step_sound whole rest (Behind p) frames l w h = behind_sound whole rest frames l p w h

-- What is found at the end of the words is spelled by them.
abbrev Ends : List Word → Outcome → Type 0
Ends whole (next r) = ⊤
Ends whole (found p) = SpellsTerm p whole []
Ends whole refused = ⊤

made_ends : {A : Type 0} (whole : List Word) (go : A → Outcome) (o : Option A) → ((x : A) → o ≡ Some x → Ends whole (go x)) → Ends whole (made go o)
made_ends whole go None h = tt
made_ends whole go (Some x) h = h x refl

ended_in_ends : (whole : List Word) (frames : List Frame) (is_interval : Bool) (t : Part) (a : List Word) → FramesStand frames whole a → SpellsTerm t a [] → Ends whole (ended_in frames is_interval Dot t)
ended_in_ends whole [] is_interval t a h s = record { derivation = s.derivation; words_are = h ∙ s.words_are; spells = s.spells }
ended_in_ends whole (f ∷ fs) true t a h s = tt
ended_in_ends whole (f ∷ fs) false t a h s = tt

part_ends : (whole : List Word) (frames : List Frame) (l : Level) (p : Part) → AtPart frames l p whole [] → Ends whole (behind frames l p Dot)
part_ends whole frames l p h = made_ends whole _ (closed_term l p) (λ t e. ended_in_ends whole frames (is_some l.low) t h.from h.frames_stand (term_closes l p t h.from h.to [] h.pending h.part e))

step_ends : (whole : List Word) (place : Place) (frames : List Frame) (l : Level) → Stands place frames l whole [] → Ends whole (step_at place frames l (sign Dot))
step_ends whole Wanted frames l h = tt
step_ends whole (Named f) frames l h = made_ends whole _ (negated l.minuses (leaf (Function f ([] ∷ [])))) (λ p e. part_ends whole frames l p (constant_part whole [] frames l f p h e))
step_ends whole (Behind p) frames l h = part_ends whole frames l p h

-- What a run finds is spelled by the words before those that it leaves.
abbrev pub Finds : List Word → Option (Part × List Word) → Type 0
Finds whole r = IfSome r (λ f. SpellsTerm f.0 whole f.1)

end_finds : (whole : List Word) (o : Outcome) → Ends whole o → Finds whole (carried (λ s. None) (λ p. Some (p, [])) None o)
end_finds whole (next r) h = tt
end_finds whole (found p) h = h
end_finds whole refused h = tt

step_finds : (whole : List Word) (w : Word) (ws : List Word) (o : Outcome) → ((r : Reader) → Stands r.place r.frames r.level whole ws → Finds whole (run r ws)) → Sound whole (w ∷ ws) ws o → Finds whole (carried (λ s. run s ws) (λ p. Some (p, w ∷ ws)) None o)
step_finds whole w ws (next r) more h = more r h
step_finds whole w ws (found p) more h = h
step_finds whole w ws refused more h = tt

run_finds : (whole ws : List Word) (r : Reader) → Stands r.place r.frames r.level whole ws → Finds whole (run r ws)
run_finds whole [] r h = end_finds whole (step r (sign Dot)) (step_ends whole r.place r.frames r.level h)
run_finds whole (w ∷ ws) r h = step_finds whole w ws (step r w) (λ s k. run_finds whole ws s k) (step_sound whole ws r.place r.frames r.level w h)

pub sound : (ws : List Word) → Finds ws (run at_start ws)
sound ws = run_finds ws ws at_start (record { from = ws; frames_stand = refl; before = nothing_before ws })
