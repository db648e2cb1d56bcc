-- What a call leaves taken, replied and logged, for each status.
use Rattle.std.specs.Prelude.{ℕ, ◌≡◌, ◌<◌, ◌≤◌, ◌+◌, ◌⊎◌, Bool, true, false, List, [], ◌++◌, length, take, drop, Option, Some, None}
pub use Rattle.ms_base.specs.Limits.{most_bytes}
use Rattle.ms_call.specs.Items.{Item, Open, HaveItems, HasWholeItems, lines_in}
use Rattle.ms_machine.specs.Machine.{State, start}
use Rattle.ms_machine.specs.Replies.{Output, any_refused}
use Rattle.ms_machine.specs.Scripts.{Run, Replies}
use Rattle.mshot.specs.declared.status.Status.{Status}
use Rattle.mshot.specs.declared.status.Status.TheVariants.{Done, SomeRefused, Usage, ReadFault, WriteFault, LogFault, TooLong, NoMemory}
use Rattle.mshot.specs.Sinks.{Sinks, Gains, FailsInReply, FailsInLog}

-- These bytes of the script were taken, no more than an input may have, and the others are left.
pub record IsTaken (script taken : List ℕ) (left : Option (List ℕ)) : Type 0 where
  pub rest : List ℕ
  pub parts : script ≡ taken ++ rest
  pub few : length taken ≤ most_bytes
  pub others : left ≡ Some rest

-- The machine may give these outputs for the commands and bad lines among the whole lines of bytes.
pub record AnswersLines (bytes : List ℕ) (outputs : List Output) : Type 0 where
  pub items : List Item
  pub cut : Open
  pub has : HasWholeItems None bytes items cut
  pub last : State
  pub run : Run start items outputs last

-- The machine may give these outputs for the first commands and bad lines of bytes, which have ended, or of whose lines
-- only the whole ones count.
pub record AnswersFirst (ended : Bool) (bytes : List ℕ) (outputs : List Output) : Type 0 where
  pub front : List Item
  pub begins : (items : List Item) (cut : Open) → HaveItems None (lines_in ended bytes) items cut → (back : List Item) × (items ≡ front ++ back)
  pub last : State
  pub run : Run start front outputs last

-- The whole script was taken, and each of its commands and bad lines has its reply.
pub record ServesAll (refused : Bool) (script : List ℕ) (left : Option (List ℕ)) (before now : Sinks) : Type 0 where
  pub few : length script ≤ most_bytes
  pub none_left : left ≡ Some []
  pub outputs : List Output
  pub answers : Replies script outputs
  pub refusals : any_refused outputs ≡ refused
  pub gains : Gains outputs before now

-- Each command and bad line among the whole lines that were taken has its reply, and nothing else was put.
pub record ServesTaken (script : List ℕ) (left : Option (List ℕ)) (before now : Sinks) : Type 0 where
  pub taken : List ℕ
  pub is_taken : IsTaken script taken left
  pub outputs : List Output
  pub answers : AnswersLines taken outputs
  pub gains : Gains outputs before now

-- The same for as many bytes as an input may have. One more was taken.
pub record ServesMost (script : List ℕ) (left : Option (List ℕ)) (before now : Sinks) : Type 0 where
  pub long : most_bytes < length script
  pub others : left ≡ Some (drop (most_bytes + 1) script)
  pub outputs : List Output
  pub answers : AnswersLines (take most_bytes script) outputs
  pub gains : Gains outputs before now

-- how the sinks stand where a call ended at these outputs
abbrev pub EndsAt : Status → List Output → Sinks → Sinks → Type 0
EndsAt WriteFault outputs before now = FailsInReply outputs before now
EndsAt LogFault outputs before now = FailsInLog outputs before now
EndsAt NoMemory outputs before now = Gains outputs before now
EndsAt status outputs before now = ⊥

-- It ended among the outputs for the bytes that were taken.
pub record HasStopped (ended : Bool) (taken : List ℕ) (status : Status) (before now : Sinks) : Type 0 where
  pub outputs : List Output
  pub answers : AnswersFirst ended taken outputs ⊎ ((ended ≡ true) × Replies taken outputs)
  pub ends : EndsAt status outputs before now

-- A call ended before the script did, or where it was taken whole.
pub record ServesFront (status : Status) (script : List ℕ) (left : Option (List ℕ)) (before now : Sinks) : Type 0 where
  pub taken : List ℕ
  pub is_taken : IsTaken script taken left
  pub ended : Bool
  pub whole : ended ≡ true → taken ≡ script
  pub stopped : HasStopped ended taken status before now

-- What a call leaves of a script that is served, and what the sinks gain. It is all beside one run of the machine.
abbrev pub Serves : Status → List ℕ → Option (List ℕ) → Sinks → Sinks → Type 0
Serves Done script left before now = ServesAll false script left before now
Serves SomeRefused script left before now = ServesAll true script left before now
Serves ReadFault script left before now = ServesTaken script left before now
Serves TooLong script left before now = ServesMost script left before now
Serves Usage script left before now = ⊥
Serves status script left before now = ServesFront status script left before now

-- The whole script has its replies, or there was no memory.
abbrev pub IsComplete : Status → Type 0
IsComplete Done = Unit {0}
IsComplete SomeRefused = Unit {0}
IsComplete NoMemory = Unit {0}
IsComplete status = ⊥

-- how a call ends in a put, or without memory for it
abbrev pub IsOfPutting : Status → Type 0
IsOfPutting WriteFault = Unit {0}
IsOfPutting LogFault = Unit {0}
IsOfPutting NoMemory = Unit {0}
IsOfPutting status = ⊥

-- how a call ends that has taken the whole script
abbrev pub IsAfterReading : Status → Type 0
IsAfterReading Done = Unit {0}
IsAfterReading SomeRefused = Unit {0}
IsAfterReading status = IsOfPutting status
