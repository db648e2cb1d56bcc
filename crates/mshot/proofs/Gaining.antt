-- What sinks gain, one put after another.
use Rattle.std.proofs.Common.{◌≡◌, ◌∙◌, ℕ, List, [], ◌∷◌, ◌++◌, Option, Some, None, Result, Ok, Err, OnErr, refl, sym, ap, subst, append-nil, append_assoc}
use Rattle.std.specs.List.{flat_map}
use Rattle.std.proofs.lemmas.List.Concat.{flat_map-append}
use Rattle.ms_io.specs.Streams.{Adds, AddsFront, AddsPiece}
use Rattle.ms_log.specs.NoteText.{notes_text}
use Rattle.ms_machine.specs.Replies.{Output, reply_text}
use Rattle.mshot.specs.declared.answer.Answer.{Answer}
use Rattle.mshot.specs.declared.status.Status.{Status}
use Rattle.mshot.specs.declared.status.Status.TheVariants.{Done, SomeRefused, Usage, ReadFault, WriteFault, LogFault, TooLong, NoMemory}
use Rattle.mshot.specs.Sinks.{Told, Sinks, told, AddsPieces, Puts, PutsFront, Gains, reply_pieces, log_part, log_pieces}
use Rattle.mshot.specs.Outcome.{EndsAt}
use Rattle.mshot.specs.Serving.{IsTextOf, HasPut, HasFailed}

abbrev joined : List (List ℕ) → List ℕ
joined pieces = flat_map (λ piece. piece) pieces

-- bytes
adds_none : (held : Option (List ℕ)) → Adds held [] held
adds_none None = refl
adds_none (Some bytes) = ap Some (sym (append-nil bytes))

adds_more : (a b c : Option (List ℕ)) (xs ys : List ℕ) → Adds a xs b → Adds b ys c → Adds a (xs ++ ys) c
adds_more None b c xs ys first next = subst (λ h. Adds h ys c) first next
adds_more (Some held) b c xs ys first next = subst (λ h. Adds h ys c) first next ∙ ap Some (append_assoc held xs ys)

-- pieces
adds_no_pieces : (pieces : Option (List (List ℕ))) → AddsPieces pieces [] pieces
adds_no_pieces None = refl
adds_no_pieces (Some pieces) = ap Some (sym (append-nil pieces))

adds_more_pieces : (a b c : Option (List (List ℕ))) (xs ys : List (List ℕ)) → AddsPieces a xs b → AddsPieces b ys c → AddsPieces a (xs ++ ys) c
adds_more_pieces None b c xs ys first next = subst (λ h. AddsPieces h ys c) first next
adds_more_pieces (Some before) b c xs ys first next = subst (λ h. AddsPieces h ys c) first next ∙ ap Some (append_assoc before xs ys)

adds_one_piece : (a b : Option (List (List ℕ))) (piece : List ℕ) → AddsPiece a piece b → AddsPieces a (piece ∷ []) b
adds_one_piece None b piece h = h
adds_one_piece (Some before) b piece h = h

-- nothing was put
pub puts_none : (t : Told) → Puts [] t t
puts_none t = record { bytes = adds_none t.held; each = adds_no_pieces t.pieces }

-- some pieces, and then others
pub puts_more : (a b c : Told) (xs ys : List (List ℕ)) → Puts xs a b → Puts ys b c → Puts (xs ++ ys) a c
puts_more a b c xs ys first next = record {
  bytes = subst (λ bytes. Adds a.held bytes c.held) (sym (flat_map-append (λ piece. piece) xs ys)) (adds_more a.held b.held c.held (joined xs) (joined ys) first.bytes next.bytes);
  each = adds_more_pieces a.pieces b.pieces c.pieces xs ys first.each next.each;
}

-- one piece was put, or a call for it failed
pub puts_one : (before now : Option (List ℕ)) (old new : Option (List (List ℕ))) (piece : List ℕ) → Adds before piece now → AddsPiece old piece new → Puts (piece ∷ []) (told before old) (told now new)
puts_one before now old new piece bytes each = record { bytes = subst (λ b. Adds before b now) (sym (append-nil piece)) bytes; each = adds_one_piece old new piece each }

pub fails_one : (before now : Option (List ℕ)) (old new : Option (List (List ℕ))) (piece : List ℕ) → AddsFront before piece now → new ≡ old → PutsFront [] piece (told before old) (told now new)
fails_one before now old new piece front same = record { middle = told before old; whole = puts_none (told before old); front = front; same = same }

pub failed_by : {A E : Type 0} (r : Result A E) (before now : Option (List ℕ)) (old new : Option (List (List ℕ))) (piece : List ℕ) → OnErr r (AddsFront before piece now) → OnErr r (new ≡ old) → OnErr r (PutsFront [] piece (told before old) (told now new))
failed_by (Ok x) before now old new piece front same = tt
failed_by (Err e) before now old new piece front same = fails_one before now old new piece front same

fails_after : (a b c : Told) (pieces : List (List ℕ)) (piece : List ℕ) → Puts pieces a b → PutsFront [] piece b c → PutsFront pieces piece a c
fails_after a b c pieces piece first next = record {
  middle = next.middle;
  whole = subst (λ ps. Puts ps a next.middle) (append-nil pieces) (puts_more a b next.middle pieces [] first next.whole);
  front = next.front;
  same = next.same;
}

-- the pieces of one output more
reply_pieces-push : (outputs : List Output) (output : Output) → reply_pieces (outputs ++ output ∷ []) ≡ reply_pieces outputs ++ reply_text output.reply ∷ []
reply_pieces-push [] output = refl
reply_pieces-push (o ∷ os) output = ap (λ ps. reply_text o.reply ∷ ps) (reply_pieces-push os output)

log_pieces-push : (outputs : List Output) (output : Output) → log_pieces (outputs ++ output ∷ []) ≡ log_pieces outputs ++ log_part (notes_text output.log)
log_pieces-push outputs output = flat_map-append (λ o. log_part (notes_text o.log)) outputs (output ∷ []) ∙ ap (λ ps. log_pieces outputs ++ ps) (append-nil (log_part (notes_text output.log)))

module _ (outputs : List Output) (before middle now : Sinks) (gains : Gains outputs before middle) (answer : Answer) (output : Output) (texts : IsTextOf answer output) where
  reply_more : Puts (answer.reply.items ∷ []) middle.out now.out → Puts (reply_pieces (outputs ++ output ∷ [])) before.out now.out
  reply_more put =
      subst (λ ps. Puts ps before.out now.out) (ap (λ t. reply_pieces outputs ++ t ∷ []) texts.reply ∙ sym (reply_pieces-push outputs output))
      (puts_more before.out middle.out now.out (reply_pieces outputs) (answer.reply.items ∷ []) gains.replies put)

  log_more : Puts (log_part answer.log.items) middle.log now.log → Puts (log_pieces (outputs ++ output ∷ [])) before.log now.log
  log_more put =
      subst (λ ps. Puts ps before.log now.log) (ap (λ t. log_pieces outputs ++ log_part t) texts.log ∙ sym (log_pieces-push outputs output))
      (puts_more before.log middle.log now.log (log_pieces outputs) (log_part answer.log.items) gains.log put)

  pub gains_more : HasPut answer middle now → Gains (outputs ++ output ∷ []) before now
  gains_more put = record { replies = reply_more put.reply; log = log_more put.log }

  pub fails_more : (status : Status) → HasFailed status answer middle now → EndsAt status (outputs ++ output ∷ []) before now
  fails_more WriteFault failed = record {
    first = outputs;
    last = output;
    are = refl;
    replies = fails_after before.out middle.out now.out (reply_pieces outputs) (reply_text output.reply) gains.replies (subst (λ t. PutsFront [] t middle.out now.out) texts.reply failed.1);
    log = log_more failed.0;
  }
  fails_more LogFault failed = record {
    first = outputs;
    last = output;
    are = refl;
    replies = subst (λ t. Puts (reply_pieces outputs) before.out t) (sym failed.1) gains.replies;
    log = fails_after before.log middle.log now.log (log_pieces outputs) (notes_text output.log) gains.log (subst (λ t. PutsFront [] t middle.log now.log) texts.log failed.0);
  }
  fails_more NoMemory failed = absurd failed
  fails_more Done failed = absurd failed
  fails_more SomeRefused failed = absurd failed
  fails_more Usage failed = absurd failed
  fails_more ReadFault failed = absurd failed
  fails_more TooLong failed = absurd failed

pub gains_none : (s : Sinks) → Gains [] s s
gains_none s = record { replies = puts_none s.out; log = puts_none s.log }
