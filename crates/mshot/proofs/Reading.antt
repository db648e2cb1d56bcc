-- What is taken, one piece after another.
use Rattle.std.proofs.Common.{◌≡◌, ◌∙◌, ℕ, ◌+◌, ◌-◌, ◌≤◌, Bool, true, false, List, [], ◌++◌, length, take, drop, Option, Some, None, Result, Ok, Err, OnOk, refl, sym, subst, ap, arith}
use Rattle.std.proofs.lemmas.List.{drop-drop, length-drop, length-take, take-append-drop, take_all}
use Rattle.std.proofs.Math.Seq.{take-add, take-append_seam}
use Rattle.ms_lines.specs.declared.Lines.{Lines}
use Rattle.ms_lines.specs.Buffers.{HasNoLine}
use Rattle.std.specs.Prelude.{is_err}
use Rattle.std.proofs.lemmas.Bool.{false≢true}
use Rattle.ms_machine.specs.Machine.{State, start}
use Rattle.mshot.specs.declared.status.Status.{Status}
use Rattle.mshot.specs.declared.status.Status.TheVariants.{Done, SomeRefused, Usage, ReadFault, WriteFault, LogFault, TooLong, NoMemory}
use Rattle.mshot.specs.Sinks.{Sinks}
use Rattle.mshot.specs.Outcome.{most_bytes, IsTaken, HasStopped, Serves, IsAfterReading, IsOfPutting, IsComplete, AnswersLines}
use Rattle.mshot.specs.Serving.{HasServed, TakesPiece, Finishes, AnswersAll}
use Rattle.mshot.proofs.Progress.{answers_lines, stopped_between, stopped_piece, served_first, served_piece}

-- the first n bytes were taken
pub taken_front : (script : List ℕ) (n : ℕ) (left : Option (List ℕ)) → n ≤ length script → n ≤ most_bytes → left ≡ Some (drop n script) → IsTaken script (take n script) left
taken_front script n left within few others = record {
  rest = drop n script;
  parts = sym (take-append-drop n script);
  few = omega (arith, few, length-take n script);
  others = others;
}

-- one piece more
pub record TakenMore (script : List ℕ) (n k : ℕ) (left : Option (List ℕ)) (buffer : List ℕ) : Type 0 where
  pub within : n + k ≤ length script
  pub others : left ≡ Some (drop (n + k) script)
  pub bytes : take n script ++ take k buffer ≡ take (n + k) script

pub taken_more : (script : List ℕ) (n k : ℕ) (left : Option (List ℕ)) (buffer : List ℕ) → n ≤ length script → TakesPiece n (Ok k) (drop n script) left buffer → TakenMore script n k left buffer
taken_more script n k left buffer within piece = record {
  within = let few : k ≤ length script - n = subst (λ l. k ≤ l) (length-drop n script) piece.0 in omega arith;
  others = piece.1 ∙ ap Some (drop-drop k n script);
  bytes = ap (λ b. take n script ++ b) piece.2 ∙ sym (take-add n k script);
}

-- at the end all was taken
pub taken_all : (script : List ℕ) (n : ℕ) → n ≤ length script → drop n script ≡ [] → (take n script ≡ script) × (n ≡ length script)
taken_all script n within none =
    let over : length script - n ≡ 0 = sym (length-drop n script) ∙ ap length none in
    let all : n ≡ length script = omega arith in
    (take_all n script (omega (arith, all)), all)

module _ (script : List ℕ) (n : ℕ) (left : Option (List ℕ)) (before now : Sinks) (within : n ≤ length script) (few : n ≤ most_bytes) where
  -- a call that ended at a put
  pub serves_front : (ended : Bool) → (ended ≡ true → take n script ≡ script) → left ≡ Some (drop n script) → (status : Status) → IsOfPutting status → HasStopped ended (take n script) status before now → Serves status script left before now
  serves_front ended whole others WriteFault of h = record { taken = take n script; is_taken = taken_front script n left within few others; ended = ended; whole = whole; stopped = h }
  serves_front ended whole others LogFault of h = record { taken = take n script; is_taken = taken_front script n left within few others; ended = ended; whole = whole; stopped = h }
  serves_front ended whole others NoMemory of h = record { taken = take n script; is_taken = taken_front script n left within few others; ended = ended; whole = whole; stopped = h }
  serves_front ended whole others Done of h = absurd of
  serves_front ended whole others SomeRefused of h = absurd of
  serves_front ended whole others Usage of h = absurd of
  serves_front ended whole others ReadFault of h = absurd of
  serves_front ended whole others TooLong of h = absurd of

  -- a read that failed, or that gave a byte too many
  module _ (lines : Lines) (state : State) (some : Bool) (done : HasServed false (take n script) before now lines state some) (none : HasNoLine lines.rest) where
    pub serves_taken : (status : Status) (buffer : List ℕ) → TakesPiece n (Err status) (drop n script) left buffer → (status ≡ ReadFault) → Serves status script left before now
    serves_taken status buffer piece is = subst (λ s. Serves s script left before now) (sym is) (record {
      taken = take n script;
      is_taken = taken_front script n left within few (subst (λ s. TakesPiece n (Err s) (drop n script) left buffer) is piece);
      outputs = done.outputs;
      answers = answers_lines (take n script) before now lines state some done none;
      gains = done.gains;
    })

    pub serves_most : (status : Status) (buffer : List ℕ) → TakesPiece n (Err status) (drop n script) left buffer → (status ≡ TooLong) → Serves status script left before now
    serves_most status buffer piece is =
        let over = subst (λ s. TakesPiece n (Err s) (drop n script) left buffer) is piece in
        subst (λ s. Serves s script left before now) (sym is) (record {
          long = omega (arith, over.0, over.1, length-drop n script);
          others = over.2 ∙ ap Some (drop-drop 1 n script) ∙ ap (λ m. Some (drop (m + 1) script)) over.0;
          outputs = done.outputs;
          answers = subst (λ m. AnswersLines (take m script) done.outputs) over.0 (answers_lines (take n script) before now lines state some done none);
          gains = done.gains;
        })

-- a script that was taken whole
pub serves_finished : (script : List ℕ) (n : ℕ) (left : Option (List ℕ)) (before now : Sinks) → n ≤ length script → n ≤ most_bytes → left ≡ Some (drop n script) → drop n script ≡ [] → (status : Status) → IsAfterReading status → Finishes status script before now → Serves status script left before now
serves_finished script n left before now within few others none Done after h =
    let all = taken_all script n within none in
    record { few = omega (arith, all.1, few); none_left = others ∙ ap Some none; outputs = h.outputs; answers = h.answers; refusals = h.refusals; gains = h.gains }
serves_finished script n left before now within few others none SomeRefused after h =
    let all = taken_all script n within none in
    record { few = omega (arith, all.1, few); none_left = others ∙ ap Some none; outputs = h.outputs; answers = h.answers; refusals = h.refusals; gains = h.gains }
serves_finished script n left before now within few others none WriteFault after h =
    let all = taken_all script n within none in
    serves_front script n left before now within few true (λ e. all.0) others WriteFault after (subst (λ t. HasStopped true t WriteFault before now) (sym all.0) h)
serves_finished script n left before now within few others none LogFault after h =
    let all = taken_all script n within none in
    serves_front script n left before now within few true (λ e. all.0) others LogFault after (subst (λ t. HasStopped true t LogFault before now) (sym all.0) h)
serves_finished script n left before now within few others none NoMemory after h =
    let all = taken_all script n within none in
    serves_front script n left before now within few true (λ e. all.0) others NoMemory after (subst (λ t. HasStopped true t NoMemory before now) (sym all.0) h)
serves_finished script n left before now within few others none Usage after h = absurd after
serves_finished script n left before now within few others none ReadFault after h = absurd after
serves_finished script n left before now within few others none TooLong after h = absurd after

-- without a fault, and where the script isn't too long
pub complete_by : (status : Status) (script : List ℕ) (left : Option (List ℕ)) (before now : Sinks) → Serves status script left before now → length script ≤ most_bytes → (status ≡ ReadFault → ⊥) → (status ≡ WriteFault → ⊥) → (status ≡ LogFault → ⊥) → IsComplete status
complete_by Done script left before now h few read write log = tt
complete_by SomeRefused script left before now h few read write log = tt
complete_by NoMemory script left before now h few read write log = tt
complete_by Usage script left before now h few read write log = h
complete_by ReadFault script left before now h few read write log = read refl
complete_by WriteFault script left before now h few read write log = write refl
complete_by LogFault script left before now h few read write log = log refl
complete_by TooLong script left before now h few read write log = omega (arith, h.long, few)

-- how a call that has taken the whole script doesn't end
pub not_reading : (status : Status) → IsAfterReading status → (status ≡ ReadFault → ⊥) × (status ≡ Usage → ⊥)
not_reading Done after = (λ e. cc, λ e. cc)
not_reading SomeRefused after = (λ e. cc, λ e. cc)
not_reading WriteFault after = (λ e. cc, λ e. cc)
not_reading LogFault after = (λ e. cc, λ e. cc)
not_reading NoMemory after = (λ e. cc, λ e. cc)
not_reading Usage after = absurd after
not_reading ReadFault after = absurd after
not_reading TooLong after = absurd after

pub not_putting : (status : Status) → IsOfPutting status → (status ≡ ReadFault → ⊥) × (status ≡ Usage → ⊥)
not_putting WriteFault of = (λ e. cc, λ e. cc)
not_putting LogFault of = (λ e. cc, λ e. cc)
not_putting NoMemory of = (λ e. cc, λ e. cc)
not_putting Done of = absurd of
not_putting SomeRefused of = absurd of
not_putting Usage of = absurd of
not_putting ReadFault of = absurd of
not_putting TooLong of = absurd of

pub as_refused : (a b : Bool) (script : List ℕ) (before now : Sinks) → a ≡ b → AnswersAll a script before now → AnswersAll b script before now
as_refused a b script before now e h = subst (λ r. AnswersAll r script before now) e h

-- the same where the end was found by a piece without bytes
pub serves_ended : (script : List ℕ) (n k : ℕ) (left : Option (List ℕ)) (before now : Sinks) → n ≤ length script → n ≤ most_bytes → left ≡ Some (drop k (drop n script)) → k ≡ 0 → drop n script ≡ [] → (status : Status) → IsAfterReading status → Finishes status (take n script) before now → Serves status script left before now
serves_ended script n k left before now within few others zero_is none status after h =
    serves_finished script n left before now within few (others ∙ ap (λ m. Some (drop m (drop n script))) zero_is) none status after (subst (λ t. Finishes status t before now) (taken_all script n within none).0 h)

-- before the first piece
pub serves_nothing : (script : List ℕ) (left : Option (List ℕ)) (before : Sinks) → left ≡ Some script → Serves NoMemory script left before before
serves_nothing script left before at =
    serves_front script 0 left before before (omega arith) (omega arith) false (λ e. absurd (false≢true e)) at NoMemory tt
    (stopped_between false [] before before (record { text = None; rest = [] }) start false (served_first before (record { text = None; rest = [] }) start refl refl))

-- what a call that didn't fail promises
pub on_ok : {A E P : Type 0} (r : Result A E) → is_err r ≡ false → OnOk r P → P
on_ok (Ok x) e p = p
on_ok (Err e) h p = absurd (false≢true (sym h))

-- a buffer that was written whole
pub whole_buffer : (len : ℕ) (new rest read : List ℕ) → length new ≡ len → read ≡ take len (new ++ rest) → read ≡ new
whole_buffer len new rest read size is = is ∙ ap (λ n. take n (new ++ rest)) (sym size) ∙ take-append_seam new rest

-- a piece was fed, or there was no memory for it
module _ (script : List ℕ) (n k : ℕ) (left : Option (List ℕ)) (buffer : List ℕ) (more : TakenMore script n k left buffer) (before now : Sinks) (lines : Lines) (state : State) (some : Bool) (done : HasServed false (take n script) before now lines state some) where
  pub served_fed : (after : Lines) (read : List ℕ) → read ≡ buffer → after ≡ record lines { rest = lines.rest ++ take k read } → HasServed false (take (n + k) script) before now after state some
  served_fed after read same fed =
      subst (λ t. HasServed false t before now after state some) (ap (λ b. take n script ++ take k b) same ∙ more.bytes)
      (served_piece (take n script) before now lines state some done (take k read) after fed)

  pub serves_unfed : n + k ≤ most_bytes → Serves NoMemory script left before now
  serves_unfed few =
      serves_front script (n + k) left before now more.within few false (λ e. absurd (false≢true e)) more.others NoMemory tt
      (subst (λ t. HasStopped false t NoMemory before now) more.bytes (stopped_piece (take n script) before now lines state some done (take k buffer)))
