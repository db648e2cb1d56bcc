-- Spaces, tabs and line ends where a line begins outside of a text say nothing.
use Rattle.std.proofs.Common.{◌≡◌, ◌↔◌, ◌⊎◌, ℕ, zero, suc, ◌+◌, ◌-◌, Bool, true, false, eqb, List, [], ◌∷◌, ◌++◌, length, drop, take, take_while, inl, inr, Option, Some, None, Result, Ok, Err, refl, sym, ap, ◌∙◌, subst, one-add, eqb-true, arith}
use Rattle.std.specs.Prelude.{◌||◌}
use Rattle.std.proofs.lemmas.Bool.{true≢false, false≢true}
use Rattle.std.specs.List.{prefix_len}
use Rattle.std.specs.Option.{is_some}
use Rattle.std.proofs.lemmas.List.Folds.{length-prefix_len}
use Rattle.ms_text.specs.declared.token.Token.{Token}
use Rattle.ms_text.specs.declared.token.TokenKind.{TokenKind}
use Rattle.ms_text.specs.declared.token.BadByte.{BadByte}
use Rattle.ms_text.specs.Tokens.{is_blank, is_in_line, tokens_of, tokens_from, line_after, with_token, placed, first_token}
use Rattle.ms_call.specs.declared.command.Command.{Command}
use Rattle.ms_call.specs.Lines.{is_space, skipped, IsBlank, HasWord, OpensText, IsCommand, IsBad}
use Rattle.ms_call.specs.Items.{Item, command, bad_line, Open, IsLine, Says, HaveItems, in_first_line, lines_in, with_item}
use Rattle.ms_lines.specs.Buffers.{is_passed, BeginsNotBlank, IsEndOf}
use Rattle.ms_lines.specs.declared.Lines.{Lines}
use Rattle.ms_lines.specs.Feeding.{HasLeft, SaysThen}
use Rattle.ms_lines.specs.Finding.{IsOnly}
use Rattle.ms_lines.proofs.LineSteps.{HaveItems-line, says_nothing, end_dropped}

-- where a text has no token, it has none wherever it stands
with_token_some : (t : Token) (r : Result (List Token) BadByte) → with_token t r ≡ Ok [] → ⊥
with_token_some t (Ok ts) e = cc
with_token_some t (Err bad) e = cc

placed_some : (found : Option (TokenKind × ℕ)) (at line : ℕ) (after : ℕ → Result (List Token) BadByte) → placed found at line after ≡ Ok [] → ⊥
placed_some None at line after e = cc
placed_some (Some found) at line after e = with_token_some (record { kind = found.0; start = at; end = at + found.1; line = line }) (after (found.1 - 1)) e

-- no tokens from a place on, and so none from another
abbrev NoneAgain : ℕ → List ℕ → Type 0
NoneAgain skip bs = (at line other number : ℕ) → tokens_from skip bs at line ≡ Ok [] → tokens_from skip bs other number ≡ Ok []

none_by_comment : (b : ℕ) (bs : List ℕ) → NoneAgain (length (take_while is_in_line bs)) bs → is_blank b ≡ false → (t : Bool) → eqb b 37 ≡ t → NoneAgain zero (b ∷ bs)
unfolding tokens_from
none_by_comment b bs h blank true e at line other number none = rw (tokens_from, blank, e) (h (suc at) line (suc other) number (rw (tokens_from, blank, e) at none))
none_by_comment b bs h blank false e at line other number none = absurd (placed_some (first_token (b ∷ bs)) at line (λ n. tokens_from n bs (suc at) line) (rw (tokens_from, blank, e) at none))

none_by_blank : (b : ℕ) (bs : List ℕ) → NoneAgain zero bs → NoneAgain (length (take_while is_in_line bs)) bs → (t : Bool) → is_blank b ≡ t → NoneAgain zero (b ∷ bs)
unfolding tokens_from
none_by_blank b bs h comment true e at line other number none = rw (tokens_from, e) (h (suc at) (line_after b line) (suc other) (line_after b number) (rw (tokens_from, e) at none))
none_by_blank b bs h comment false e at line other number none = none_by_comment b bs comment e (eqb b 37) refl at line other number none

none_again : (skip : ℕ) (bs : List ℕ) → NoneAgain skip bs
unfolding tokens_from
none_again zero [] at line other number none = refl
none_again (suc skip) [] at line other number none = refl
none_again (suc skip) (b ∷ bs) at line other number none = none_again skip bs (suc at) (line_after b line) (suc other) (line_after b number) none
none_again zero (b ∷ bs) at line other number none = none_by_blank b bs (none_again zero bs) (none_again (length (take_while is_in_line bs)) bs) (is_blank b) refl at line other number none

-- a space or a tab
space_is : (b : ℕ) (t : Bool) → eqb b 32 ≡ t → is_space b ≡ true → (b ≡ 32) ⊎ (b ≡ 9)
space_is b true e h = inl (eqb-true b 32 e)
space_is b false e h = let tab : eqb b 9 ≡ true = rw e at h in inr (eqb-true b 9 tab)

passed_is : (b : ℕ) (t : Bool) → is_space b ≡ t → is_passed b ≡ true → ((b ≡ 32) ⊎ (b ≡ 9)) ⊎ (b ≡ 10)
passed_is b true e h = inl (space_is b (eqb b 32) refl e)
passed_is b false e h = let line_end : eqb b 10 ≡ true = rw e at h in inr (eqb-true b 10 line_end)

-- what is left where such bytes are skipped
module _ (test : ℕ → Bool) where
  skipped_front : (bytes : List ℕ) → skipped test bytes ≡ drop (prefix_len test bytes) bytes
  skipped_front bytes = ap (λ n. drop n bytes) (length-prefix_len test bytes)

  skipped_more : (b : ℕ) (bs : List ℕ) → test b ≡ true → skipped test (b ∷ bs) ≡ skipped test bs
  skipped_more b bs e =
      let past : drop (prefix_len test (b ∷ bs)) (b ∷ bs) ≡ drop (prefix_len test bs) bs = rw (e, one-add) refl in
      skipped_front (b ∷ bs) ∙ past ∙ sym (skipped_front bs)

  skipped_none : (b : ℕ) (bs : List ℕ) → test b ≡ false → skipped test (b ∷ bs) ≡ b ∷ bs
  skipped_none b bs e = rw e refl

-- A line says the same with a space or a tab in front.
module _ (b : ℕ) (space : is_space b ≡ true) (blank : is_blank b ≡ true) (line : List ℕ) where
  blank_more : IsBlank line → IsBlank (b ∷ line)
  unfolding tokens_from
  blank_more none = rw (tokens_from, blank) (none_again zero line 0 1 1 (line_after b 1) none)

  blank_less : IsBlank (b ∷ line) → IsBlank line
  unfolding tokens_from
  blank_less none = none_again zero line 1 (line_after b 1) 0 1 (rw (tokens_from, blank) at none)

  same_front : skipped is_space (b ∷ line) ≡ skipped is_space line
  same_front = skipped_more is_space b line space

  word_more : {word rest : List ℕ} {tokens : List Token} → HasWord line word rest tokens → HasWord (b ∷ line) word rest tokens
  word_more has = record { after = has.after; at_sign = same_front ∙ has.at_sign; word_is = has.word_is; rest_is = has.rest_is; tokens_are = has.tokens_are }

  word_less : {word rest : List ℕ} {tokens : List Token} → HasWord (b ∷ line) word rest tokens → HasWord line word rest tokens
  word_less has = record { after = has.after; at_sign = sym same_front ∙ has.at_sign; word_is = has.word_is; rest_is = has.rest_is; tokens_are = has.tokens_are }

  opens_more : OpensText line → OpensText (b ∷ line)
  opens_more is = record { rest = is.rest; has_word = word_more is.has_word }

  opens_less : OpensText (b ∷ line) → OpensText line
  opens_less is = record { rest = is.rest; has_word = word_less is.has_word }

  command_more : (c : Command) → IsCommand line c → IsCommand (b ∷ line) c
  command_more c is = record { word = is.word; rest = is.rest; tokens = is.tokens; has_word = word_more is.has_word; said = is.said }

  command_less : (c : Command) → IsCommand (b ∷ line) c → IsCommand line c
  command_less c is = record { word = is.word; rest = is.rest; tokens = is.tokens; has_word = word_less is.has_word; said = is.said }

  says_more : (item : Option Item) (left : Open) → IsLine line (item, left) → IsLine (b ∷ line) (item, left)
  says_more None None is = blank_more is
  says_more None (Some text) is = (opens_more is.0, is.1)
  says_more (Some bad_line) None is = record { not_blank = λ h. is.not_blank (blank_less h); not_add = λ h. is.not_add (opens_less h); not_command = λ c h. is.not_command c (command_less c h) }
  says_more (Some (command c)) None is = command_more c is
  says_more (Some item) (Some text) is = absurd is

  says_less : (item : Option Item) (left : Open) → IsLine (b ∷ line) (item, left) → IsLine line (item, left)
  says_less None None is = blank_less is
  says_less None (Some text) is = (opens_less is.0, is.1)
  says_less (Some bad_line) None is = record { not_blank = λ h. is.not_blank (blank_more h); not_add = λ h. is.not_add (opens_more h); not_command = λ c h. is.not_command c (command_more c h) }
  says_less (Some (command c)) None is = command_less c is
  says_less (Some item) (Some text) is = absurd is

-- An empty line says nothing.
sign_in_none : (after : List ℕ) → skipped is_space [] ≡ 64 ∷ after → ⊥
sign_in_none after e = let f : ⊥ = cc in f

none_blank : IsBlank []
unfolding tokens_from
none_blank = refl

none_says : (item : Option Item) (left : Open) → IsLine [] (item, left) → ◌≡◌ {A = Option Item × Open} (item, left) (None, None)
none_says None None is = refl
none_says None (Some text) is = absurd (sign_in_none is.0.has_word.after is.0.has_word.at_sign)
none_says (Some bad_line) None is = absurd (is.not_blank none_blank)
none_says (Some (command c)) None is = absurd (sign_in_none is.has_word.after is.has_word.at_sign)
none_says (Some item) (Some text) is = absurd is

none_only : IsOnly (Says None []) (None, None)
none_only = (none_blank, λ said is. none_says said.0 said.1 is)

-- a line that says what an empty one does, before others
line_passed : (line : List ℕ) (lines : List (List ℕ)) → IsOnly (Says None line) (None, None) → (items : List Item) (left : Open) → HaveItems None (line ∷ lines) items left ↔ HaveItems None lines items left
line_passed line lines only items left =
    let step = HaveItems-line None line lines (None, None) only items left in (
      λ h. let s = step.0 h in subst (λ is. HaveItems None lines is left) (sym s.1) s.2,
      λ h. step.1 (items, refl, h),
    )

-- The lines of bytes with a byte in front that is passed over.
module _ (b : ℕ) (space : is_space b ≡ true) (blank : is_blank b ≡ true) where
  first_passed : (ended : Bool) (lines : List (List ℕ)) (items : List Item) (left : Open) → HaveItems None (in_first_line ended b lines) items left ↔ HaveItems None lines items left
  unfolding HaveItems
  first_passed ended (line ∷ lines) items left = (
    λ h. (h.0, h.1, says_less b space blank line h.0.0 h.0.1 h.2, h.3, h.4),
    λ h. (h.0, h.1, says_more b space blank line h.0.0 h.0.1 h.2, h.3, h.4),
  )
  first_passed true [] items left = line_passed (b ∷ []) [] (says_more b space blank [] None None none_blank, λ said is. none_says said.0 said.1 (says_less b space blank [] said.0 said.1 is)) items left
  first_passed false [] items left = (λ h. h, λ h. h)

-- the bytes say what they say behind the byte
abbrev PassesOver : ℕ → Type 0
PassesOver b = (ended : Bool) (bs : List ℕ) (items : List Item) (left : Open) → HaveItems None (lines_in ended (b ∷ bs)) items left ↔ HaveItems None (lines_in ended bs) items left

passes_space : PassesOver 32
unfolding lines_in
passes_space ended bs items left = first_passed 32 refl refl ended (lines_in ended bs) items left

passes_tab : PassesOver 9
unfolding lines_in
passes_tab ended bs items left = first_passed 9 refl refl ended (lines_in ended bs) items left

passes_end : PassesOver 10
unfolding lines_in
passes_end ended bs items left = line_passed [] (lines_in ended bs) none_only items left

passes_over : (b : ℕ) → is_passed b ≡ true → PassesOver b
passes_over b e = elim (passed_is b (is_space b) refl e) [
  | inl s ↦ elim s [ inl h ↦ subst PassesOver (sym h) passes_space | inr h ↦ subst PassesOver (sym h) passes_tab ]
  | inr h ↦ subst PassesOver (sym h) passes_end
]

-- and behind all such bytes
module _ (ended : Bool) (more : List ℕ) (items : List Item) (left : Open) where
  all_by : (b : ℕ) (bs : List ℕ) → HaveItems None (lines_in ended (bs ++ more)) items left ↔ HaveItems None (lines_in ended (skipped is_passed bs ++ more)) items left → (t : Bool) → is_passed b ≡ t
      → HaveItems None (lines_in ended (b ∷ bs ++ more)) items left ↔ HaveItems None (lines_in ended (skipped is_passed (b ∷ bs) ++ more)) items left
  all_by b bs h true e =
      let same : skipped is_passed (b ∷ bs) ≡ skipped is_passed bs = skipped_more is_passed b bs e in
      let first = passes_over b e ended (bs ++ more) items left in
      subst (λ s. HaveItems None (lines_in ended (b ∷ bs ++ more)) items left ↔ HaveItems None (lines_in ended (s ++ more)) items left) (sym same) (λ x. h.0 (first.0 x), λ x. first.1 (h.1 x))
  all_by b bs h false e =
      let same : skipped is_passed (b ∷ bs) ≡ b ∷ bs = rw e refl in
      subst (λ s. HaveItems None (lines_in ended (b ∷ bs ++ more)) items left ↔ HaveItems None (lines_in ended (s ++ more)) items left) (sym same) (λ x. x, λ x. x)

  all_passed : (bs : List ℕ) → HaveItems None (lines_in ended (bs ++ more)) items left ↔ HaveItems None (lines_in ended (skipped is_passed bs ++ more)) items left
  all_passed [] = (λ x. x, λ x. x)
  all_passed (b ∷ bs) = all_by b bs (all_passed bs) (is_passed b) refl

-- So nothing was said where they are passed over.
pub says_passed : (before after : Lines) → before.text ≡ None → after.text ≡ None → after.rest ≡ skipped is_passed before.rest → SaysThen before None after
says_passed before after none still e ended more items left =
    let step = all_passed ended more items left before.rest in (
      λ h. (
        items,
        refl,
        subst (λ t. HaveItems t (lines_in ended (after.rest ++ more)) items left) (sym still)
            (subst (λ r. HaveItems None (lines_in ended (r ++ more)) items left) (sym e)
            (step.0 (subst (λ t. HaveItems t (lines_in ended (before.rest ++ more)) items left) none h))),
      ),
      λ h.
          subst (λ is. HasLeft before ended more is left) (sym h.1)
          (subst (λ t. HaveItems t (lines_in ended (before.rest ++ more)) h.0 left) (sym none)
          ((all_passed ended more h.0 left before.rest).1
          (subst (λ r. HaveItems None (lines_in ended (r ++ more)) h.0 left) e
          (subst (λ t. HaveItems t (lines_in ended (after.rest ++ more)) h.0 left) still h.2)))),
    )

-- No such byte is left in front.
none_left_by : (b : ℕ) (bs : List ℕ) → BeginsNotBlank (skipped is_passed bs) → (t : Bool) → is_passed b ≡ t → BeginsNotBlank (skipped is_passed (b ∷ bs))
none_left_by b bs h true e = let same : skipped is_passed (b ∷ bs) ≡ skipped is_passed bs = skipped_more is_passed b bs e in subst BeginsNotBlank (sym same) h
none_left_by b bs h false e = let same : skipped is_passed (b ∷ bs) ≡ b ∷ bs = rw e refl in subst BeginsNotBlank (sym same) (rw e refl)

pub none_left : (bytes : List ℕ) → BeginsNotBlank (skipped is_passed bytes)
none_left [] = refl
none_left (b ∷ bs) = none_left_by b bs (none_left bs) (is_passed b) refl

-- whether a text is open
pub not_open : (text : Open) → is_some text ≡ false → text ≡ None
not_open None e = refl
not_open (Some text) e = absurd (true≢false e)

pub not_none : (text : Open) → is_some text ≡ true → text ≡ None → ⊥
not_none None e h = false≢true e
not_none (Some text) e h = cc
