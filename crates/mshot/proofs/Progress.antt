-- How far a script is served, one item after another.
use Rattle.std.proofs.Common.{◌≡◌, ◌∙◌, ◌↔◌, ℕ, suc, Bool, true, false, eqb, ◌||◌, List, [], ◌∷◌, ◌++◌, Option, Some, None, IsSome, inl, inr, refl, sym, ap, subst, append-nil, append_assoc, one-add, arith}
use Rattle.std.specs.List.{prefix_len}
use Rattle.std.proofs.lemmas.Bool.{false≢true}
use Rattle.std.proofs.Math.Bool.{or-false, or_assoc}
use Rattle.ms_text.specs.Tokens.{is_in_line}
use Rattle.ms_call.specs.Items.{Item, Open, with_item, HaveItems, lines_in}
use Rattle.ms_lines.specs.declared.Lines.{Lines}
use Rattle.ms_lines.specs.Buffers.{HasNoLine}
use Rattle.ms_lines.specs.Feeding.{HasLeft, SaysThen, SaysAtEnd}
use Rattle.ms_machine.specs.declared.reply.Refusal.TheVariants.{Unfinished}
use Rattle.ms_machine.specs.Machine.{State, start}
use Rattle.ms_machine.specs.Replies.{Output, any_refused, refused, is_refused}
use Rattle.ms_machine.specs.Scripts.{Takes, Run, Replies, output_at_end}
use Rattle.mshot.specs.declared.answer.Answer.{Answer}
use Rattle.mshot.specs.declared.status.Status.{Status}
use Rattle.mshot.specs.declared.status.Status.TheVariants.{Done, SomeRefused, Usage, ReadFault, WriteFault, LogFault, TooLong, NoMemory}
use Rattle.mshot.specs.Sinks.{Sinks}
use Rattle.mshot.specs.Outcome.{AnswersFirst, AnswersLines, HasStopped}
use Rattle.mshot.specs.Serving.{MayCome, SaysIn, HasSaid, HasServed, Steps, IsTextOf, HasPut, HasFailed, AnswersAll, Finishes}
use Rattle.mshot.proofs.Gaining.{gains_none, gains_more, fails_more}

-- what may come
still : (ended : Bool) → MayCome ended ended []
still ended = λ e. (e, refl)

any : (ends : Bool) (more : List ℕ) → MayCome false ends more
any ends more = λ e. absurd (false≢true e)

pub says_in_lines : (before after : Lines) (item : Option Item) → SaysThen before item after → SaysIn false before item after
says_in_lines before after item h ends more items left may = h ends more items left

pub says_in_end : (before after : Lines) (item : Option Item) → SaysAtEnd before item after → SaysIn true before item after
says_in_end before after item h ends more items left may =
    subst (λ e. HasLeft before e more items left ↔ ((others : List Item) × (items ≡ with_item item others) × HasLeft after e more others left)) (sym (may refl).0)
    (subst (λ m. HasLeft before true m items left ↔ ((others : List Item) × (items ≡ with_item item others) × HasLeft after true m others left)) (sym (may refl).1)
    (h items left))

-- a run goes on by one item
pub Run-push : (a b c : State) (items : List Item) (outputs : List Output) (item : Item) (output : Output) → Run a items outputs b → Takes b item output c → Run a (items ++ item ∷ []) (outputs ++ output ∷ []) c
unfolding Run
Run-push a b c [] [] item output run step = (c, subst (λ s. Takes s item output c) run step, refl)
Run-push a b c [] (r ∷ rs) item output run step = absurd run
Run-push a b c (i ∷ is) [] item output run step = absurd run
Run-push a b c (i ∷ is) (r ∷ rs) item output (mid, first, run) step = (mid, first, Run-push mid b c is rs item output run step)

run_nothing : (state : State) → state ≡ start → Run start [] [] state
unfolding Run
run_nothing state is = is

refusals-push : (outputs : List Output) (output : Output) → any_refused (outputs ++ output ∷ []) ≡ (any_refused outputs || is_refused output.reply)
refusals-push [] output = or-false (is_refused output.reply)
refusals-push (r ∷ rs) output = ap (λ b. is_refused r.reply || b) (refusals-push rs output) ∙ sym (or_assoc (is_refused r.reply) (any_refused rs) (is_refused output.reply))

or-true : (b : Bool) → (b || true) ≡ true
or-true true = refl
or-true false = refl

-- no whole line is among bytes that have none
none_by : (b : ℕ) (bs : List ℕ) → (HasNoLine bs → lines_in false bs ≡ []) → (t : Bool) → eqb b 10 ≡ t → HasNoLine (b ∷ bs) → lines_in false (b ∷ bs) ≡ []
unfolding lines_in
none_by b bs h true e none = let here : prefix_len is_in_line (b ∷ bs) ≡ 0 = rw e refl in absurd (omega (arith, none, here))
none_by b bs h false e none = let here : prefix_len is_in_line (b ∷ bs) ≡ suc (prefix_len is_in_line bs) = rw (e, one-add) refl in rw (lines_in, e, h (omega (arith, none, here))) refl

no_lines : (bytes : List ℕ) → HasNoLine bytes → lines_in false bytes ≡ []
unfolding lines_in
no_lines [] none = refl
no_lines (b ∷ bs) none = none_by b bs (no_lines bs) (eqb b 10) refl none

-- nothing is left to say
none_left : (opened : Open) (lines : List (List ℕ)) → lines ≡ [] → HaveItems opened lines [] opened
unfolding HaveItems
none_left opened lines e = subst (λ ls. HaveItems opened ls [] opened) (sym e) (refl, refl)

left_whole : (lines : Lines) → HasNoLine lines.rest → HasLeft lines false [] [] lines.text
left_whole lines none = none_left lines.text (lines_in false (lines.rest ++ [])) (ap (lines_in false) (append-nil lines.rest) ∙ no_lines lines.rest none)

left_at_end : (lines : Lines) → lines.rest ≡ [] → HasLeft lines true [] [] lines.text
unfolding lines_in
left_at_end lines none = none_left lines.text (lines_in true (lines.rest ++ [])) (ap (λ r. lines_in true (r ++ [])) none)

-- what the bytes said
said_first : (lines : Lines) → lines ≡ record { text = None; rest = [] } → HasSaid false [] [] lines
said_first lines e ends more items left may = (
  λ a. (items, refl, subst (λ l. HasLeft l ends more items left) (sym e) a),
  λ b. subst (λ is. HaveItems None (lines_in ends more) is left) (sym b.1) (subst (λ l. HasLeft l ends more b.0 left) e b.2),
)

said_piece : (taken piece : List ℕ) (front : List Item) (lines after : Lines) → after ≡ record lines { rest = lines.rest ++ piece } → HasSaid false taken front lines → HasSaid false (taken ++ piece) front after
said_piece taken piece front lines after e h ends more items left may =
    let whole : lines_in ends (taken ++ piece ++ more) ≡ lines_in ends (taken ++ (piece ++ more)) = ap (lines_in ends) (append_assoc taken piece more) in
    let text : after.text ≡ lines.text = ap (λ l. l.text) e in
    let rest : lines_in ends (after.rest ++ more) ≡ lines_in ends (lines.rest ++ (piece ++ more)) = ap (λ l. lines_in ends (l.rest ++ more)) e ∙ ap (lines_in ends) (append_assoc lines.rest piece more) in (
      λ a.
          let b = (h ends (piece ++ more) items left (any ends (piece ++ more))).0 (subst (λ ls. HaveItems None ls items left) whole a) in
          (b.0, b.1, subst (λ t. HaveItems t (lines_in ends (after.rest ++ more)) b.0 left) (sym text) (subst (λ ls. HaveItems lines.text ls b.0 left) (sym rest) b.2)),
      λ b.
          subst (λ ls. HaveItems None ls items left) (sym whole)
          ((h ends (piece ++ more) items left (any ends (piece ++ more))).1 (b.0, b.1, subst (λ ls. HaveItems lines.text ls b.0 left) rest (subst (λ t. HaveItems t (lines_in ends (after.rest ++ more)) b.0 left) text b.2))),
    )

module _ (ended : Bool) (taken : List ℕ) (front : List Item) (lines after : Lines) (said : HasSaid ended taken front lines) where
  said_more : (item : Item) → SaysIn ended lines (Some item) after → HasSaid ended taken (front ++ item ∷ []) after
  said_more item next ends more items left may = (
    λ has.
        let b = (said ends more items left may).0 has in
        let c = (next ends more b.0 left may).0 b.2 in
        (c.0, b.1 ∙ ap (λ is. front ++ is) c.1 ∙ sym (append_assoc front (item ∷ []) c.0), c.2),
    λ m. (said ends more items left may).1 (item ∷ m.0, m.1 ∙ append_assoc front (item ∷ []) m.0, (next ends more (item ∷ m.0) left may).1 (m.0, refl, m.2)),
  )

  said_nothing : SaysIn ended lines None after → HasSaid ended taken front after
  said_nothing next ends more items left may = (
    λ has.
        let b = (said ends more items left may).0 has in
        let c = (next ends more b.0 left may).0 b.2 in
        (c.0, b.1 ∙ ap (λ is. front ++ is) c.1, c.2),
    λ m. (said ends more items left may).1 (m.0, m.1, (next ends more m.0 left may).1 (m.0, refl, m.2)),
  )

  -- the items are a front of those that the bytes have
  said_begins : (items : List Item) (cut : Open) → HaveItems None (lines_in ended taken) items cut → (back : List Item) × (items ≡ front ++ back)
  said_begins items cut has =
      let b = (said ended [] items cut (still ended)).0 (subst (λ bs. HaveItems None (lines_in ended bs) items cut) (sym (append-nil taken)) has) in
      (b.0, b.1)

  -- and all of them where nothing is left to say
  said_all : HasLeft lines ended [] [] lines.text → HaveItems None (lines_in ended taken) front lines.text
  said_all none = subst (λ bs. HaveItems None (lines_in ended bs) front lines.text) (append-nil taken) ((said ended [] front lines.text (still ended)).1 ([], sym (append-nil front), none))

-- before the first byte
pub served_first : (s : Sinks) (lines : Lines) (state : State) → lines ≡ record { text = None; rest = [] } → state ≡ start → HasServed false [] s s lines state false
served_first s lines state first begins = record {
  front = [];
  said = said_first lines first;
  outputs = [];
  run = run_nothing state begins;
  gains = gains_none s;
  refusals = refl;
}

module _ (ended : Bool) (taken : List ℕ) (before now : Sinks) (lines : Lines) (state : State) (some : Bool) (done : HasServed ended taken before now lines state some) where
  answers_first : AnswersFirst ended taken done.outputs
  answers_first = record { front = done.front; begins = said_begins ended taken done.front lines lines done.said; last = state; run = done.run }

  -- the script says nothing more
  pub served_nothing : (after : Lines) (new : State) → SaysIn ended lines None after → new ≡ state → HasServed ended taken before now after new some
  served_nothing after new next same = record {
    front = done.front;
    said = said_nothing ended taken done.front lines after done.said next;
    outputs = done.outputs;
    run = subst (λ s. Run start done.front done.outputs s) (sym same) done.run;
    gains = done.gains;
    refusals = done.refusals;
  }

  -- it stops between two items
  pub stopped_between : HasStopped ended taken NoMemory before now
  stopped_between = record { outputs = done.outputs; answers = inl answers_first; ends = done.gains }

  -- one item more
  module _ (after : Lines) (new : State) (answer : Answer) (step : Steps ended lines state after new answer) (next : Sinks) where
    pub served_more : (more : Bool) → more ≡ (some || answer.refused) → HasPut answer now next → HasServed ended taken before next after new more
    served_more more is put = record {
      front = done.front ++ step.item ∷ [];
      said = said_more ended taken done.front lines after done.said step.item step.says;
      outputs = done.outputs ++ step.output ∷ [];
      run = Run-push start state new done.front done.outputs step.item step.output done.run step.takes;
      gains = gains_more done.outputs before now next done.gains answer step.output step.texts put;
      refusals = refusals-push done.outputs step.output ∙ ap (λ b. b || is_refused step.output.reply) done.refusals ∙ ap (λ b. some || b) (sym step.texts.refusal) ∙ sym is;
    }

    pub stopped_in : (status : Status) → HasFailed status answer now next → HasStopped ended taken status before next
    stopped_in status failed = record {
      outputs = done.outputs ++ step.output ∷ [];
      answers = inl (record {
        front = done.front ++ step.item ∷ [];
        begins = said_begins ended taken (done.front ++ step.item ∷ []) after after (said_more ended taken done.front lines after done.said step.item step.says);
        last = new;
        run = Run-push start state new done.front done.outputs step.item step.output done.run step.takes;
      });
      ends = fails_more done.outputs before now next done.gains answer step.output step.texts status failed;
    }

pub served_first_none : (ended : Bool) (taken : List ℕ) (before now : Sinks) (lines : Lines) (state : State) (some : Bool) → HasServed ended taken before now lines state some → HasServed ended taken before now lines state (some || false)
served_first_none ended taken before now lines state some done = subst (λ s. HasServed ended taken before now lines state s) (sym (or-false some)) done

-- whether a text is open at the end
abbrev cut_off : Output
cut_off = record { reply = refused Unfinished; log = [] }

some_at_end : (cut : Open) → IsSome cut → output_at_end cut ≡ cut_off ∷ []
some_at_end (Some text) is = refl
some_at_end None is = absurd (false≢true is)

none_at_end : (cut : Open) → ¬ IsSome cut → output_at_end cut ≡ []
none_at_end (Some text) is = absurd (is refl)
none_at_end None is = refl

-- a piece comes, or the end
module _ (taken : List ℕ) (before now : Sinks) (lines : Lines) (state : State) (some : Bool) (done : HasServed false taken before now lines state some) where
  pub served_piece : (piece : List ℕ) (after : Lines) → after ≡ record lines { rest = lines.rest ++ piece } → HasServed false (taken ++ piece) before now after state some
  served_piece piece after e = record {
    front = done.front;
    said = said_piece taken piece done.front lines after e done.said;
    outputs = done.outputs;
    run = done.run;
    gains = done.gains;
    refusals = done.refusals;
  }

  pub served_ended : HasServed true taken before now lines state some
  served_ended = record {
    front = done.front;
    said = λ ends more items left may. done.said ends more items left (any ends more);
    outputs = done.outputs;
    run = done.run;
    gains = done.gains;
    refusals = done.refusals;
  }

  -- a piece for which there is no memory
  pub stopped_piece : (piece : List ℕ) → HasStopped false (taken ++ piece) NoMemory before now
  stopped_piece piece = stopped_between false (taken ++ piece) before now (record lines { rest = lines.rest ++ piece }) state some (served_piece piece (record lines { rest = lines.rest ++ piece }) refl)

  -- all whole lines have their outputs
  pub answers_lines : HasNoLine lines.rest → AnswersLines taken done.outputs
  answers_lines none = record { items = done.front; cut = lines.text; has = said_all false taken done.front lines lines done.said (left_whole lines none); last = state; run = done.run }

-- all of the script has its outputs
module _ (script : List ℕ) (before now : Sinks) (lines : Lines) (state : State) (some : Bool) (done : HasServed true script before now lines state some) (none : lines.rest ≡ []) where
  all_replies : (ends : List Output) → output_at_end lines.text ≡ ends → Replies script (done.outputs ++ ends)
  all_replies ends are = record {
    items = done.front;
    cut = lines.text;
    has = said_all true script done.front lines lines done.said (left_at_end lines none);
    to_items = done.outputs;
    last = state;
    run = done.run;
    all = ap (λ e. done.outputs ++ e) (sym are);
  }

  pub ends_whole : ¬ IsSome lines.text → AnswersAll some script before now
  ends_whole closed = record {
    outputs = done.outputs;
    answers = subst (λ os. Replies script os) (append-nil done.outputs) (all_replies [] (none_at_end lines.text closed));
    refusals = done.refusals;
    gains = done.gains;
  }

  module _ (opened : IsSome lines.text) (answer : Answer) (texts : IsTextOf answer cut_off) (next : Sinks) where
    pub ends_cut : HasPut answer now next → AnswersAll true script before next
    ends_cut put = record {
      outputs = done.outputs ++ cut_off ∷ [];
      answers = all_replies (cut_off ∷ []) (some_at_end lines.text opened);
      refusals = refusals-push done.outputs cut_off ∙ or-true (any_refused done.outputs);
      gains = gains_more done.outputs before now next done.gains answer cut_off texts put;
    }

    pub stops_cut : (status : Status) → HasFailed status answer now next → HasStopped true script status before next
    stops_cut status failed = record {
      outputs = done.outputs ++ cut_off ∷ [];
      answers = inr (refl, all_replies (cut_off ∷ []) (some_at_end lines.text opened));
      ends = fails_more done.outputs before now next done.gains answer cut_off texts status failed;
    }

-- an end in a put
pub stops_finish : (status : Status) (script : List ℕ) (before now : Sinks) → HasStopped true script status before now → Finishes status script before now
stops_finish Done script before now h = absurd h.ends
stops_finish SomeRefused script before now h = absurd h.ends
stops_finish Usage script before now h = h
stops_finish ReadFault script before now h = h
stops_finish WriteFault script before now h = h
stops_finish LogFault script before now h = h
stops_finish TooLong script before now h = h
stops_finish NoMemory script before now h = h
