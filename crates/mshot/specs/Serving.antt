-- How far a script is served.
use Rattle.std.specs.Prelude.{ℕ, ◌≡◌, ◌↔◌, ◌<◌, ◌≤◌, Bool, true, false, List, [], ◌∷◌, ◌++◌, length, take, drop, Option, Some, None, Result, Ok, Err}
use Rattle.ms_call.specs.Items.{Item, Open, with_item, HaveItems, lines_in}
use Rattle.ms_lines.specs.declared.Lines.{Lines}
use Rattle.ms_lines.specs.Buffers.{HasNoLine}
use Rattle.ms_lines.specs.Feeding.{HasLeft}
use Rattle.ms_log.specs.NoteText.{notes_text}
use Rattle.ms_machine.specs.Machine.{State, start}
use Rattle.ms_machine.specs.Replies.{Output, any_refused, is_refused, reply_text}
use Rattle.ms_machine.specs.Scripts.{Run, Takes, Replies}
use Rattle.mshot.specs.declared.answer.Answer.{Answer}
use Rattle.mshot.specs.declared.status.Status.{Status}
use Rattle.mshot.specs.declared.status.Status.TheVariants.{Done, SomeRefused, WriteFault, LogFault, TooLong}
use Rattle.mshot.specs.Sinks.{Sinks, Gains, Puts, PutsFront, log_part}
use Rattle.mshot.specs.Outcome.{most_bytes, HasStopped}

-- More may come, as these bytes, and may end there. Where the script has ended, nothing comes.
abbrev pub MayCome : Bool → Bool → List ℕ → Type 0
MayCome ended ends more = ended ≡ true → (ends ≡ true) × (more ≡ [])

-- Whatever may come, the script said the item, or nothing, and then what it has still to say.
abbrev pub SaysIn : Bool → Lines → Option Item → Lines → Type 0
SaysIn ended before item after =
    (ends : Bool) (more : List ℕ) (items : List Item) (left : Open) → MayCome ended ends more →
    HasLeft before ends more items left ↔ ((others : List Item) × (items ≡ with_item item others) × HasLeft after ends more others left)

-- The bytes taken said these items, and then they have to say what the lines have.
abbrev pub HasSaid : Bool → List ℕ → List Item → Lines → Type 0
HasSaid ended taken front lines =
    (ends : Bool) (more : List ℕ) (items : List Item) (left : Open) → MayCome ended ends more →
    HaveItems None (lines_in ends (taken ++ more)) items left ↔ ((others : List Item) × (items ≡ front ++ others) × HasLeft lines ends more others left)

-- The items so far have their replies and their parts of the log, and the machine is in this state.
pub record HasServed (ended : Bool) (taken : List ℕ) (before now : Sinks) (lines : Lines) (state : State) (refused : Bool) : Type 0 where
  pub front : List Item
  pub said : HasSaid ended taken front lines
  pub outputs : List Output
  pub run : Run start front outputs state
  pub gains : Gains outputs before now
  pub refusals : any_refused outputs ≡ refused

-- There is no more to answer: no whole line, and at the end no line.
abbrev pub SaysNoMore : Bool → Lines → Type 0
SaysNoMore true lines = lines.rest ≡ []
SaysNoMore false lines = HasNoLine lines.rest

-- the texts of an output
pub record IsTextOf (answer : Answer) (output : Output) : Type 0 where
  pub reply : answer.reply.items ≡ reply_text output.reply
  pub log : answer.log.items ≡ notes_text output.log
  pub refusal : answer.refused ≡ is_refused output.reply

-- The script said the next item, and the machine took its step.
pub record Steps (ended : Bool) (lines : Lines) (old : State) (rest : Lines) (new : State) (answer : Answer) : Type 0 where
  pub item : Item
  pub says : SaysIn ended lines (Some item) rest
  pub output : Output
  pub takes : Takes old item output new
  pub texts : IsTextOf answer output
  pub shorter : length rest.rest < length lines.rest

-- The same, or the script says nothing more.
abbrev pub Goes : Bool → Lines → State → Option Answer → Lines → State → Type 0
Goes ended lines old (Some answer) rest new = Steps ended lines old rest new answer
Goes ended lines old None rest new = SaysIn ended lines None rest × SaysNoMore ended rest × (new ≡ old)

-- The part of the log was put where it has lines, and the reply.
pub record HasPut (answer : Answer) (before now : Sinks) : Type 0 where
  pub log : Puts (log_part answer.log.items) before.log now.log
  pub reply : Puts (answer.reply.items ∷ []) before.out now.out

-- One of the two puts failed, and nothing was put after it.
abbrev pub HasFailed : Status → Answer → Sinks → Sinks → Type 0
HasFailed WriteFault answer before now = Puts (log_part answer.log.items) before.log now.log × PutsFront [] answer.reply.items before.out now.out
HasFailed LogFault answer before now = PutsFront [] answer.log.items before.log now.log × (now.out ≡ before.out)
HasFailed status answer before now = ⊥

-- After so many bytes a piece was taken, and it is in front of the buffer. At the end it is empty. Or a byte too many
-- was taken, or nothing was.
abbrev pub TakesPiece : ℕ → Result ℕ Status → List ℕ → Option (List ℕ) → List ℕ → Type 0
TakesPiece taken (Ok n) bytes left buffer = (n ≤ length bytes) × (left ≡ Some (drop n bytes)) × (take n buffer ≡ take n bytes) × (n ≡ 0 → bytes ≡ [])
TakesPiece taken (Err TooLong) bytes left buffer = (taken ≡ most_bytes) × (1 ≤ length bytes) × (left ≡ Some (drop 1 bytes))
TakesPiece taken (Err status) bytes left buffer = left ≡ Some bytes

-- All of the script has its replies, and one of them is a refusal or none is.
pub record AnswersAll (refused : Bool) (script : List ℕ) (before now : Sinks) : Type 0 where
  pub outputs : List Output
  pub answers : Replies script outputs
  pub refusals : any_refused outputs ≡ refused
  pub gains : Gains outputs before now

-- how a script that was taken whole ends
abbrev pub Finishes : Status → List ℕ → Sinks → Sinks → Type 0
Finishes Done script before now = AnswersAll false script before now
Finishes SomeRefused script before now = AnswersAll true script before now
Finishes status script before now = HasStopped true script status before now
