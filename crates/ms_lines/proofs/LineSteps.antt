-- One line after another.
use Rattle.std.proofs.Common.{◌≡◌, ℕ, suc, ◌+◌, ◌<◌, ◌≤◌, Bool, true, false, eqb, List, [], ◌∷◌, ◌++◌, length, take, drop, get_or, inl, inr, ◌⊎◌, ◌↔◌, Option, Some, None, Result, Ok, Err, IfOk, OnErr, refl, sym, ap, ◌∙◌, subst, arith, one-add, add-one, append-nil, append_assoc, length-append, eqb-true, take-append-drop, length-drop}
use Rattle.std.specs.List.{prefix_len}
use Rattle.std.proofs.lemmas.Bool.{true≢false, false≢true}
use Rattle.std.proofs.lemmas.List.{take_more}
use Rattle.std.proofs.lemmas.List.Sums.{prefix_len_stops}
use Rattle.ms_text.specs.Tokens.{is_in_line}
use Rattle.ms_grammar.specs.Words.{Word}
use Rattle.ms_call.specs.declared.command.Assumption.{Assumption}
use Rattle.ms_call.specs.declared.command.Command.{Command as a_command}
use Rattle.ms_call.specs.declared.command.Command.TheVariants.{Add, Ground, Assign, Release, Solve}
use Rattle.ms_call.specs.Commands.{AsksForSome, IsSaid, IsCount}
use Rattle.ms_call.specs.Lines.{ends_text}
use Rattle.ms_call.specs.Items.{Item, command, bad_line, Open, IsLine, Says, text_says, with_item, HaveItems, in_first_line, lines_in}
use Rattle.ms_lines.specs.declared.Lines.{Lines}
use Rattle.ms_lines.specs.declared.kinds.LineKind.{LineKind}
use Rattle.ms_lines.specs.declared.kinds.LineKind.TheVariants.{Passed, OpensText as opens_text, Command as is_command, Bad}
use Rattle.ms_lines.specs.Kinds.{IsKind}
use Rattle.ms_lines.specs.Buffers.{IsLineLen, HasNoLine, IsEndOf, LacksLine}
use Rattle.ms_lines.specs.declared.Fed.{Fed}
use Rattle.ms_lines.specs.declared.Fed.TheVariants.{Command as is_fed, BadCommand, NotYet}
use Rattle.ms_lines.specs.Feeding.{SaysThen, SaysAtEnd, HasLeft, item_of, IsShorter, LosesLine, GivesSome}
use Rattle.ms_lines.specs.Finding.{IsOnly}
use Rattle.ms_lines.proofs.Scanning.{front_more}

-- what a line says outside of a text, by its kind
abbrev pub said_of : LineKind → Option Item × Open
said_of Passed = (None, None)
said_of opens_text = (None, Some [])
said_of (is_command c) = (Some (command c), None)
said_of Bad = (Some bad_line, None)

module _ (line : List ℕ) where
  kind_says : (kind : LineKind) → IsKind line kind → IsLine line (said_of kind)
  kind_says Passed is = is
  kind_says opens_text is = (is, refl)
  kind_says (is_command c) is = is
  kind_says Bad is = is

  kind_of_said : (item : Option Item) (left : Open) → IsLine line (item, left) → (kind : LineKind) × IsKind line kind × ((item, left) ≡ said_of kind)
  kind_of_said None None is = (Passed, is, refl)
  kind_of_said None (Some text) is = (opens_text, is.0, ap (λ t. (None, Some t)) is.1)
  kind_of_said (Some bad_line) None is = (Bad, is, refl)
  kind_of_said (Some (command c)) None is = (is_command c, is, refl)
  kind_of_said (Some item) (Some text) is = absurd is

  pub says_by_kind : (kind : LineKind) → IsOnly (IsKind line) kind → IsOnly (Says None line) (said_of kind)
  says_by_kind kind h = (
    kind_says kind h.0,
    λ said is.
        let k = kind_of_said said.0 said.1 is in
        k.2 ∙ ap said_of (h.1 k.0 k.1),
  )

  -- and inside of a text
  pub says_by_end : (text : List ℕ) (said : Option Item × Open) → said ≡ text_says (ends_text line) text line → IsOnly (Says (Some text) line) said
  says_by_end text said e = (e, λ other is. is ∙ sym e)

  pub goes_on : (text next : List ℕ) → ends_text line ≡ false → next ≡ text ++ (line ++ 10 ∷ []) → IsOnly (Says (Some text) line) (None, Some next)
  goes_on text next e q = says_by_end text (None, Some next) (ap (λ t. (None, Some t)) (q ∙ sym (append_assoc text line (10 ∷ []))) ∙ ap (λ b. text_says b text line) (sym e))

  pub said_as : (kind known : LineKind) → IsOnly (IsKind line) kind → kind ≡ known → (left : Open) → left ≡ (said_of known).1 → IsOnly (Says None line) ((said_of known).0, left)
  said_as kind known h e left q = subst (λ l. IsOnly (Says None line) ((said_of known).0, l)) (sym q) (says_by_kind known (subst (IsOnly (IsKind line)) e h))

-- the first line with its line end
stops_by : (b : ℕ) (t : Bool) → eqb b 10 ≡ t → is_in_line b ≡ false → b ≡ 10
stops_by b true h e = eqb-true b 10 h
stops_by b false h e = absurd (true≢false (rw h at e))

stops_at : (b : ℕ) → is_in_line b ≡ false → b ≡ 10
stops_at b e = stops_by b (eqb b 10) refl e

pub line_with_end : (bytes : List ℕ) (len : ℕ) → IsLineLen bytes len → take (len + 1) bytes ≡ take len bytes ++ 10 ∷ []
line_with_end bytes len is =
    take_more bytes len 0 is.within ∙ ap (λ b. take len bytes ++ b ∷ []) (ap (λ n. get_or bytes n 0) is.len_is ∙ stops_at (get_or bytes (prefix_len is_in_line bytes) 0) (prefix_len_stops is_in_line bytes 0 (subst (λ n. n < length bytes) is.len_is is.within)))

-- the lines of bytes whose first line has a line end
module _ (ended : Bool) (more : List ℕ) where
  first_by : (b : ℕ) (bs : List ℕ) → (prefix_len is_in_line bs < length bs → lines_in ended (bs ++ more) ≡ take (prefix_len is_in_line bs) bs ∷ lines_in ended (drop (suc (prefix_len is_in_line bs)) bs ++ more))
      → (t : Bool) → eqb b 10 ≡ t → prefix_len is_in_line (b ∷ bs) < length (b ∷ bs)
      → lines_in ended (b ∷ bs ++ more) ≡ take (prefix_len is_in_line (b ∷ bs)) (b ∷ bs) ∷ lines_in ended (drop (suc (prefix_len is_in_line (b ∷ bs))) (b ∷ bs) ++ more)
  unfolding lines_in
  first_by b bs h true e le = rw (lines_in, e) refl
  first_by b bs h false e le =
      let here : prefix_len is_in_line (b ∷ bs) ≡ suc (prefix_len is_in_line bs) = rw (e, one-add) refl in
      rw (here, lines_in, e, h (omega (arith, le, here))) refl

  pub lines_first : (bytes : List ℕ) → prefix_len is_in_line bytes < length bytes → lines_in ended (bytes ++ more) ≡ take (prefix_len is_in_line bytes) bytes ∷ lines_in ended (drop (suc (prefix_len is_in_line bytes)) bytes ++ more)
  lines_first [] le = absurd (omega arith)
  lines_first (b ∷ bs) le = first_by b bs (lines_first bs) (eqb b 10) refl le

  pub lines_of_first : (bytes : List ℕ) (len : ℕ) → IsLineLen bytes len → lines_in ended (bytes ++ more) ≡ take len bytes ∷ lines_in ended (drop (len + 1) bytes ++ more)
  lines_of_first bytes len is =
      subst (λ n. lines_in ended (bytes ++ more) ≡ take n bytes ∷ lines_in ended (drop (n + 1) bytes ++ more)) (sym is.len_is)
      (lines_first bytes (subst (λ n. n < length bytes) is.len_is is.within) ∙ ap (λ n. take (prefix_len is_in_line bytes) bytes ∷ lines_in ended (drop n bytes ++ more)) (sym (add-one (prefix_len is_in_line bytes))))

-- a line and the items after it
pub HaveItems-line : (opened : Open) (line : List ℕ) (lines : List (List ℕ)) (said : Option Item × Open) → IsOnly (Says opened line) said → (items : List Item) (left : Open)
    → HaveItems opened (line ∷ lines) items left ↔ ((others : List Item) × (items ≡ with_item said.0 others) × HaveItems said.1 lines others left)
unfolding HaveItems
HaveItems-line opened line lines said only items left = (
  λ h.
      let same : h.0 ≡ said = only.1 h.0 h.2 in
      (h.1, h.3 ∙ ap (λ s. with_item s.0 h.1) same, subst (λ s. HaveItems s.1 lines h.1 left) same h.4),
  λ h. (said, h.0, only.0, h.1, h.2),
)

pub says_then : (before after : Lines) (len : ℕ) → IsLineLen before.rest len → (item : Option Item) → IsOnly (Says before.text (take len before.rest)) (item, after.text) → after.rest ≡ drop (len + 1) before.rest → SaysThen before item after
says_then before after len is item only e ended more items left =
    let lines : lines_in ended (before.rest ++ more) ≡ take len before.rest ∷ lines_in ended (after.rest ++ more) =
    lines_of_first ended more before.rest len is ∙ ap (λ rest. take len before.rest ∷ lines_in ended (rest ++ more)) (sym e) in
    let step = HaveItems-line before.text (take len before.rest) (lines_in ended (after.rest ++ more)) (item, after.text) only items left in
    (λ h. step.0 (subst (λ ls. HaveItems before.text ls items left) lines h), λ h. subst (λ ls. HaveItems before.text ls items left) (sym lines) (step.1 h))

-- nothing was said, and what was said after that
pub says_nothing : (lines : Lines) → SaysThen lines None lines
says_nothing lines ended more items left = (λ h. (items, refl, h), λ h. subst (λ is. HasLeft lines ended more is left) (sym h.1) h.2)

pub says_later : (first second third : Lines) (item : Option Item) → SaysThen first None second → SaysThen second item third → SaysThen first item third
says_later first second third item a b ended more items left = (
  λ h.
      let s = (a ended more items left).0 h in
      let t = (b ended more s.0 left).0 s.2 in
      (t.0, s.1 ∙ t.1, t.2),
  λ h. (a ended more items left).1 (items, refl, (b ended more items left).1 h),
)

pub says_same : (first second third : Lines) → SaysThen first None second → third.text ≡ second.text → third.rest ≡ second.rest → SaysThen first None third
says_same first second third h text rest ended more items left = (
  λ a. let b = (h ended more items left).0 a in (b.0, b.1, subst (λ t. HaveItems t (lines_in ended (third.rest ++ more)) b.0 left) (sym text) (subst (λ r. HaveItems second.text (lines_in ended (r ++ more)) b.0 left) (sym rest) b.2)),
  λ b. (h ended more items left).1 (b.0, b.1, subst (λ r. HaveItems second.text (lines_in ended (r ++ more)) b.0 left) rest (subst (λ t. HaveItems t (lines_in ended (third.rest ++ more)) b.0 left) text b.2)),
)

-- the same at the end
pub says_at_end : (before after : Lines) (item : Option Item) → SaysThen before item after → SaysAtEnd before item after
says_at_end before after item h items left = h true [] items left

pub at_end_nothing : (lines : Lines) → SaysAtEnd lines None lines
at_end_nothing lines = says_at_end lines lines None (says_nothing lines)

pub at_end_later : (first second third : Lines) (item : Option Item) → SaysAtEnd first None second → SaysAtEnd second item third → SaysAtEnd first item third
at_end_later first second third item a b items left = (
  λ h.
      let s = (a items left).0 h in
      let t = (b s.0 left).0 s.2 in
      (t.0, s.1 ∙ t.1, t.2),
  λ h. (a items left).1 (items, refl, (b items left).1 h),
)

-- A last line without its line end is the line that it is with it.
last_by : (b : ℕ) (bs : List ℕ) → (HasNoLine bs → (lines_in true (bs ++ 10 ∷ []) ≡ bs ∷ []) × (in_first_line true b (lines_in true bs) ≡ (b ∷ bs) ∷ [])) → (t : Bool) → eqb b 10 ≡ t → HasNoLine (b ∷ bs) → (lines_in true (b ∷ bs ++ 10 ∷ []) ≡ (b ∷ bs) ∷ []) × (lines_in true (b ∷ bs) ≡ (b ∷ bs) ∷ [])
unfolding lines_in
last_by b bs h true e none = let here : prefix_len is_in_line (b ∷ bs) ≡ 0 = rw e refl in absurd (omega (arith, none, here))
last_by b bs h false e none =
    let here : prefix_len is_in_line (b ∷ bs) ≡ suc (prefix_len is_in_line bs) = rw (e, one-add) refl in
    let rest = h (omega (arith, none, here)) in
    (rw (lines_in, e, rest.0) refl, rw (lines_in, e) rest.1)

last_after : (a : ℕ) (bs : List ℕ) → HasNoLine bs → (lines_in true (bs ++ 10 ∷ []) ≡ bs ∷ []) × (in_first_line true a (lines_in true bs) ≡ (a ∷ bs) ∷ [])
unfolding lines_in
last_after a [] none = (refl, refl)
last_after a (b ∷ bs) none = let h = last_by b bs (last_after b bs) (eqb b 10) refl none in (h.0, ap (in_first_line true a) h.1)

last_line_ended : (bytes : List ℕ) → (bytes ≡ [] → ⊥) → HasNoLine bytes → lines_in true (bytes ++ 10 ∷ []) ≡ lines_in true bytes
last_line_ended [] some none = absurd (some refl)
last_line_ended (b ∷ bs) some none = let h = last_by b bs (last_after b bs) (eqb b 10) refl none in h.0 ∙ sym h.1

pub at_end_pushed : (before after : Lines) → (before.rest ≡ [] → ⊥) → HasNoLine before.rest → after.text ≡ before.text → after.rest ≡ before.rest ++ 10 ∷ [] → SaysAtEnd before None after
at_end_pushed before after some none text rest items left =
    let lines : lines_in true (after.rest ++ []) ≡ lines_in true (before.rest ++ []) = ap (lines_in true) (append-nil after.rest ∙ rest) ∙ last_line_ended before.rest some none ∙ ap (lines_in true) (sym (append-nil before.rest)) in (
      λ h. (items, refl, subst (λ t. HaveItems t (lines_in true (after.rest ++ [])) items left) (sym text) (subst (λ ls. HaveItems before.text ls items left) (sym lines) h)),
      λ h. subst (λ is. HasLeft before true [] is left) (sym h.1) (subst (λ ls. HaveItems before.text ls h.0 left) lines (subst (λ t. HaveItems t (lines_in true (after.rest ++ [])) h.0 left) text h.2)),
    )

-- what ends with a line end and has no line is empty
ends_by : (b : ℕ) (bs : List ℕ) → (HasNoLine bs → (xs : List ℕ) → bs ≡ xs ++ 10 ∷ [] → ⊥) → (t : Bool) → eqb b 10 ≡ t → HasNoLine (b ∷ bs) → (xs : List ℕ) → b ∷ bs ≡ xs ++ 10 ∷ [] → ⊥
ends_by b bs h true e none xs q = let here : prefix_len is_in_line (b ∷ bs) ≡ 0 = rw e refl in omega (arith, none, here)
ends_by b bs h false e none [] q = let same : b ≡ 10 = cc in false≢true (sym e ∙ ap (λ n. eqb n 10) same)
ends_by b bs h false e none (x ∷ xs) q =
    let here : prefix_len is_in_line (b ∷ bs) ≡ suc (prefix_len is_in_line bs) = rw (e, one-add) refl in
    let rest : bs ≡ xs ++ 10 ∷ [] = cc in
    h (omega (arith, none, here)) xs rest

no_line_ends : (bytes : List ℕ) → HasNoLine bytes → (xs : List ℕ) → bytes ≡ xs ++ 10 ∷ [] → ⊥
no_line_ends [] none [] q = cc
no_line_ends [] none (x ∷ xs) q = cc
no_line_ends (b ∷ bs) none xs q = ends_by b bs (no_line_ends bs) (eqb b 10) refl none xs q

nothing_after : (front part : List ℕ) → [] ≡ front ++ part → part ≡ []
nothing_after [] part e = sym e
nothing_after (x ∷ front) part e = absurd (let f : ⊥ = cc in f)

-- a part at the end of what ends with a line end is empty, or ends with it
last_part : (front part bytes : List ℕ) → bytes ++ 10 ∷ [] ≡ front ++ part → (part ≡ []) ⊎ ((xs : List ℕ) × (part ≡ xs ++ 10 ∷ []))
last_part [] part bytes e = inr (bytes, sym e)
last_part (x ∷ front) part [] e = let rest : [] ≡ front ++ part = cc in inl (nothing_after front part rest)
last_part (x ∷ front) part (b ∷ bs) e = let rest : bs ++ 10 ∷ [] ≡ front ++ part = cc in last_part front part bs rest

pub all_read : (front part bytes : List ℕ) → bytes ++ 10 ∷ [] ≡ front ++ part → HasNoLine part → part ≡ []
all_read front part bytes e none = elim (last_part front part bytes e) [ inl h ↦ h | inr h ↦ absurd (no_line_ends part none h.0 h.1) ]

-- what is kept of the bytes
pub ends_itself : (bytes : List ℕ) → IsEndOf bytes bytes
ends_itself bytes = ([], refl)

pub end_of_end : (first second third : List ℕ) → IsEndOf first second → IsEndOf second third → IsEndOf first third
end_of_end first second third a b = (a.0 ++ b.0, a.1 ∙ ap (λ xs. a.0 ++ xs) b.1 ∙ sym (append_assoc a.0 b.0 third))

pub end_dropped : (bytes last : List ℕ) (n : ℕ) → last ≡ drop n bytes → IsEndOf bytes last
end_dropped bytes last n e = (take n bytes, sym (ap (λ xs. take n bytes ++ xs) e ∙ take-append-drop n bytes))

-- only `NotYet` is no item
pub no_item : (fed : Fed) → item_of fed ≡ None → fed ≡ NotYet
no_item (is_fed c) e = absurd (let f : ⊥ = cc in f)
no_item BadCommand e = absurd (let f : ⊥ = cc in f)
no_item NotYet e = refl

-- what a call answered that went on from a middle state
module _ {E : Type 0} (r : Result Fed E) (before middle after : Lines) (start : SaysAtEnd before None middle) where
  said_by : (r : Result Fed E) → IfOk r (λ fed. SaysAtEnd middle (item_of fed) after) → IfOk r (λ fed. SaysAtEnd before (item_of fed) after)
  said_by (Ok fed) h = at_end_later before middle after (item_of fed) start h
  said_by (Err e) h = tt

  err_by : (r : Result Fed E) → OnErr r (SaysAtEnd middle None after) → OnErr r (SaysAtEnd before None after)
  err_by (Ok fed) h = tt
  err_by (Err e) h = at_end_later before middle after None start h

  pub said_after : IfOk r (λ fed. SaysAtEnd middle (item_of fed) after) → IfOk r (λ fed. SaysAtEnd before (item_of fed) after)
  said_after = said_by r

  pub err_after : OnErr r (SaysAtEnd middle None after) → OnErr r (SaysAtEnd before None after)
  err_after = err_by r

pub ended_said : {E : Type 0} (r : Result Fed E) (before after : Lines) → IfOk r (λ fed. SaysThen before (item_of fed) after) → IfOk r (λ fed. SaysAtEnd before (item_of fed) after)
ended_said (Ok fed) before after h = says_at_end before after (item_of fed) h
ended_said (Err e) before after h = tt

pub ended_err : {E : Type 0} (r : Result Fed E) (before after : Lines) → OnErr r (SaysThen before None after) → OnErr r (SaysAtEnd before None after)
ended_err (Ok fed) before after h = tt
ended_err (Err e) before after h = says_at_end before after None h

pub ended_all : {E : Type 0} (r : Result Fed E) (bytes pushed last : List ℕ) → pushed ≡ bytes ++ 10 ∷ [] → IsEndOf pushed last → IfOk r (λ fed. item_of fed ≡ None → HasNoLine last) → IfOk r (λ fed. item_of fed ≡ None → last ≡ [])
ended_all (Ok fed) bytes pushed last e k h = λ none. all_read k.0 last bytes (sym e ∙ k.1) (h none)
ended_all (Err e) bytes pushed last q k h = tt

-- how much is left to read
pub lacks_first : (bytes last : List ℕ) (len : ℕ) → IsLineLen bytes len → last ≡ drop (len + 1) bytes → LacksLine bytes last
lacks_first bytes last len is e = omega (arith, is.len_is, is.within, ap length e, length-drop (len + 1) bytes)

pub end_no_longer : (bytes last : List ℕ) → IsEndOf bytes last → length last ≤ length bytes
end_no_longer bytes last k = omega (arith, ap length k.1, length-append k.0 last)

-- The first line of bytes ends no later than behind the first line of their end.
first_by_end : (x : ℕ) (front last : List ℕ) → prefix_len is_in_line (front ++ last) ≤ length front + prefix_len is_in_line last → (t : Bool) → is_in_line x ≡ t → prefix_len is_in_line (x ∷ (front ++ last)) ≤ length (x ∷ front) + prefix_len is_in_line last
first_by_end x front last h true e = let here : prefix_len is_in_line (x ∷ (front ++ last)) ≡ suc (prefix_len is_in_line (front ++ last)) = rw (e, one-add) refl in omega (arith, here, h)
first_by_end x front last h false e = let here : prefix_len is_in_line (x ∷ (front ++ last)) ≡ 0 = rw e refl in omega (arith, here)

first_before_end : (front last : List ℕ) → prefix_len is_in_line (front ++ last) ≤ length front + prefix_len is_in_line last
first_before_end [] last = omega arith
first_before_end (x ∷ front) last = first_by_end x front last (first_before_end front last) (is_in_line x) refl

pub read_on : (bytes here last : List ℕ) → IsEndOf bytes here → LacksLine here last → LacksLine bytes last
read_on bytes here last kept lacks = omega (arith, lacks, ap length kept.1, length-append kept.0 here, first_before_end kept.0 here, ap (prefix_len is_in_line) kept.1)

-- what holds, holds where a call failed
pub where_err : {A E P : Type 0} (r : Result A E) → P → OnErr r P
where_err (Ok x) p = tt
where_err (Err e) p = p

-- a line fewer of an end
pub shorter_end : (bytes here last : List ℕ) → IsEndOf bytes here → LacksLine here last → length last < length bytes
shorter_end bytes here last kept lacks = omega (arith, lacks, end_no_longer bytes here kept)

pub loses_item : (fed : Fed) (bytes last : List ℕ) → LacksLine bytes last → LosesLine fed bytes last
loses_item (is_fed c) bytes last h = h
loses_item BadCommand bytes last h = h
loses_item NotYet bytes last h = tt

pub shorter_item : (fed : Fed) (bytes last : List ℕ) → LosesLine fed bytes last → IsShorter fed bytes last
shorter_item (is_fed c) bytes last h = omega (arith, h)
shorter_item BadCommand bytes last h = omega (arith, h)
shorter_item NotYet bytes last h = tt

-- the last line, which is all that is left
line_ended_len : (bytes : List ℕ) → HasNoLine bytes → length bytes ≤ prefix_len is_in_line (bytes ++ 10 ∷ [])
line_ended_len bytes none = omega (arith, none, front_more is_in_line bytes (10 ∷ []))

last_shorter : (fed : Fed) (bytes pushed last : List ℕ) → pushed ≡ bytes ++ 10 ∷ [] → (bytes ≡ [] → ⊥) → HasNoLine bytes → LosesLine fed pushed last → IsShorter fed bytes last
last_shorter fed [] pushed last e some none h = absurd (some refl)
last_shorter (is_fed c) (b ∷ bs) pushed last e some none h = omega (arith, h, ap length e, ap (prefix_len is_in_line) e, length-append (b ∷ bs) (10 ∷ []), line_ended_len (b ∷ bs) none)
last_shorter BadCommand (b ∷ bs) pushed last e some none h = omega (arith, h, ap length e, ap (prefix_len is_in_line) e, length-append (b ∷ bs) (10 ∷ []), line_ended_len (b ∷ bs) none)
last_shorter NotYet (b ∷ bs) pushed last e some none h = tt

pub ended_shorter : {E : Type 0} (r : Result Fed E) (bytes pushed last : List ℕ) → pushed ≡ bytes ++ 10 ∷ [] → (bytes ≡ [] → ⊥) → HasNoLine bytes → IfOk r (λ fed. LosesLine fed pushed last) → IfOk r (λ fed. IsShorter fed bytes last)
ended_shorter (Ok fed) bytes pushed last e some none h = last_shorter fed bytes pushed last e some none h
ended_shorter (Err error) bytes pushed last e some none h = tt

-- nothing was said before the last line
after_part : (fed : Fed) (bytes here last : List ℕ) → IsEndOf bytes here → IsShorter fed here last → IsShorter fed bytes last
after_part (is_fed c) bytes here last k h = omega (arith, h, end_no_longer bytes here k)
after_part BadCommand bytes here last k h = omega (arith, h, end_no_longer bytes here k)
after_part NotYet bytes here last k h = tt

pub shorter_after : {E : Type 0} (r : Result Fed E) (bytes here last : List ℕ) → IsEndOf bytes here → IfOk r (λ fed. IsShorter fed here last) → IfOk r (λ fed. IsShorter fed bytes last)
shorter_after (Ok fed) bytes here last k h = after_part fed bytes here last k h
shorter_after (Err e) bytes here last k h = tt

-- a solve asks for at least one answer
count_some : (w : Word) (count : ℕ) → IsCount w count → 1 ≤ count
count_some w count (inl h) = h.1
count_some w count (inr h) = omega (arith, h.1)

said_some : (word : List ℕ) (ws : List Word) (c : a_command) → IsSaid word ws c → AsksForSome c
said_some word ws (Add text) is = absurd is
said_some word ws (Ground calls) is = tt
said_some word ws (Assign atom truth) is = tt
said_some word ws (Release atom) is = tt
said_some word ws (Solve count limit assume) is = count_some is.1.count_word count is.1.count_is

-- a text isn't a solve
solve_is_no_text : {count limit : ℕ} {assume : List Assumption} {text : List ℕ} → Some (command (Solve count limit assume)) ≡ Some (command (Add text)) → ⊥
solve_is_no_text e = let f : ⊥ = cc in f

something_is_said : {item : Item} → Some item ≡ None → ⊥
something_is_said e = let f : ⊥ = cc in f

text_some : (ended : Bool) (text line : List ℕ) (c : a_command) (left : Open) → (Some (command c), left) ≡ text_says ended text line → AsksForSome c
text_some ended text line (Add added) left e = tt
text_some ended text line (Ground calls) left e = tt
text_some ended text line (Assign atom truth) left e = tt
text_some ended text line (Release atom) left e = tt
text_some true text line (Solve count limit assume) left e = absurd (solve_is_no_text (ap (λ s. s.0) e))
text_some false text line (Solve count limit assume) left e = absurd (something_is_said (ap (λ s. s.0) e))

pub gives_some : (opened : Open) (line : List ℕ) (fed : Fed) (left : Open) → Says opened line (item_of fed, left) → GivesSome fed
gives_some None line (is_fed c) None is = said_some is.word _ c is.said
gives_some None line (is_fed c) (Some text) is = absurd is
gives_some (Some text) line (is_fed c) left is = text_some (ends_text line) text line c left is
gives_some opened line BadCommand left is = tt
gives_some opened line NotYet left is = tt
