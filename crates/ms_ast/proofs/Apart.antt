-- Words that a reader of the printed bytes tells apart.
use Rattle.std.proofs.Common.{◌≡◌, ℕ, ◌+◌, false, List, [], ◌∷◌, ◌++◌, length, Some, refl, sym, subst, append_assoc}
use Rattle.ms_text.specs.declared.token.Token.{Token}
use Rattle.ms_text.specs.declared.token.TokenKind.{TokenKind}
use Rattle.ms_text.specs.declared.token.TokenKind.TheVariants.{Dot}
use Rattle.ms_text.specs.Tokens.{first_token, is_word}
use Rattle.ms_grammar.specs.Words.{Word, sign, word_by_kind}
use Rattle.ms_grammar.specs.Statements.{before_pieces, in_first}
use Rattle.ms_ast.specs.Ink.{Ink, blank, word, ink_text, word_text, each_after, side_by_side}

-- Before these bytes the word is a token of its own, which ends no statement, and reads as the word.
pub record IsToken (w : Word) (tail : List ℕ) : Type 0 where
  pub head : ℕ
  pub rest : List ℕ
  pub text : word_text w ≡ head ∷ rest
  pub kind : TokenKind
  pub first : Some (kind, length (word_text w)) ≡ first_token (word_text w ++ tail)
  pub inside : (t : Token) (pieces : List (List Token)) → before_pieces kind t pieces ≡ in_first t pieces
  pub reads : (front : List ℕ) (line : ℕ) → word_by_kind kind (front ++ (word_text w ++ tail)) (record { kind = kind; start = length front; end = length front + length (word_text w); line = line }) ≡ w

-- Each word is a token of its own, up to the dot at the end.
pub data IsSentence : List Ink → Type 0 where
  dot : IsSentence (word (sign Dot) ∷ [])
  gap : {more : List Ink} → IsSentence more → IsSentence (blank ∷ more)
  token : {w : Word} {more : List Ink} → IsToken w (ink_text more) → IsSentence more → IsSentence (word w ∷ more)

-- no name goes on here
abbrev pub Free : List ℕ → Type 0
Free [] = Unit {0}
Free (b ∷ bs) = is_word b ≡ false

-- The ink may stand before whatever no name goes on in.
abbrev pub Joins : List Ink → Type 0
Joins ink = (more : List Ink) → Free (ink_text more) → IsSentence more → IsSentence (ink ++ more)

-- No name goes on where the ink begins.
abbrev pub Starts : List Ink → Type 0
Starts ink = (more : List Ink) → Free (ink_text more) → Free (ink_text (ink ++ more))

-- a word that is told apart from whatever follows, and in which no name goes on
pub record IsSign (w : Word) : Type 0 where
  pub is_token : (tail : List ℕ) → IsToken w tail
  pub free : (tail : List ℕ) → Free (word_text w ++ tail)

pub nothing_joins : Joins []
nothing_joins more f h = h

pub nothing_starts : Starts []
nothing_starts more f = f

pub behind_sign : (w : Word) → IsSign w → (ink : List Ink) → Joins ink → Joins (word w ∷ ink)
behind_sign w s ink j more f h = token (s.is_token (ink_text (ink ++ more))) (j more f h)

pub sign_starts : (w : Word) → IsSign w → (ink : List Ink) → Starts (word w ∷ ink)
sign_starts w s ink more f = s.free (ink_text (ink ++ more))

pub behind_blank : (ink : List Ink) → Joins ink → Joins (blank ∷ ink)
behind_blank ink j more f h = gap (j more f h)

pub blank_starts : (ink : List Ink) → Starts (blank ∷ ink)
blank_starts ink more f = refl

-- a word that is told apart from a blank
pub behind_word_blank : (w : Word) → ((tail : List ℕ) → IsToken w (32 ∷ tail)) → (ink : List Ink) → Joins ink → Joins (word w ∷ blank ∷ ink)
behind_word_blank w s ink j more f h = token (s (ink_text (ink ++ more))) (gap (j more f h))

pub joins_before : (xs ys : List Ink) → Joins xs → Starts ys → Joins ys → Joins (xs ++ ys)
joins_before xs ys j s k more f h = subst IsSentence (sym (append_assoc xs ys more)) (j (ys ++ more) (s more f) (k more f h))

pub starts_before : (xs ys : List Ink) → Starts xs → Starts ys → Starts (xs ++ ys)
starts_before xs ys s t more f = subst (λ ink. Free (ink_text ink)) (sym (append_assoc xs ys more)) (s (ys ++ more) (t more f))

-- what may stand between others
pub record IsBetween (between : List Ink) : Type 0 where
  pub joins : (ink : List Ink) → Joins ink → Joins (between ++ ink)
  pub starts : (ink : List Ink) → Starts (between ++ ink)

abbrev pub AllJoin : List (List Ink) → Type 0
AllJoin [] = Unit {0}
AllJoin (ink ∷ inks) = Joins ink × AllJoin inks

pub AllJoin-append : (xs ys : List (List Ink)) → AllJoin xs → AllJoin ys → AllJoin (xs ++ ys)
AllJoin-append [] ys h k = k
AllJoin-append (x ∷ xs) ys h k = (h.0, AllJoin-append xs ys h.1 k)

each_starts : (between : List Ink) → IsBetween between → (inks : List (List Ink)) → Starts (each_after between inks)
each_starts between b [] = nothing_starts
each_starts between b (ink ∷ inks) = b.starts (ink ++ each_after between inks)

each_joins : (between : List Ink) → IsBetween between → (inks : List (List Ink)) → AllJoin inks → Joins (each_after between inks)
each_joins between b [] h = nothing_joins
each_joins between b (ink ∷ inks) h = b.joins (ink ++ each_after between inks) (joins_before ink (each_after between inks) h.0 (each_starts between b inks) (each_joins between b inks h.1))

pub side_joins : (between : List Ink) → IsBetween between → (inks : List (List Ink)) → AllJoin inks → Joins (side_by_side between inks)
side_joins between b [] h = nothing_joins
side_joins between b (ink ∷ inks) h = joins_before ink (each_after between inks) h.0 (each_starts between b inks) (each_joins between b inks h.1)
