-- What the sinks of a call gain: the pieces that were put, each by one call.
use Rattle.std.specs.Prelude.{ℕ, ◌≡◌, List, [], ◌∷◌, ◌++◌, map, Option, Some, None}
use Rattle.std.specs.List.{flat_map}
use Rattle.ms_io.specs.Streams.{Adds, AddsFront}
use Rattle.ms_log.specs.NoteText.{notes_text}
use Rattle.ms_machine.specs.Replies.{Output, reply_text}

-- What a sink tells: the bytes that it holds, and the pieces that were put.
pub record Told : Type 0 where
  pub held : Option (List ℕ)
  pub pieces : Option (List (List ℕ))

abbrev pub told : Option (List ℕ) → Option (List (List ℕ)) → Told
told held pieces = record { held = held; pieces = pieces }

-- the sink of the replies, and beside it that of the log
pub record Sinks : Type 0 where
  pub out : Told
  pub log : Told

abbrev pub sinks : Option (List ℕ) → Option (List (List ℕ)) → Option (List ℕ) → Option (List (List ℕ)) → Sinks
sinks held pieces log_held log_pieces = record { out = told held pieces; log = told log_held log_pieces }

-- these pieces were put, after those that were put before
abbrev pub AddsPieces : Option (List (List ℕ)) → List (List ℕ) → Option (List (List ℕ)) → Type 0
AddsPieces None pieces now = now ≡ None
AddsPieces (Some before) pieces now = now ≡ Some (before ++ pieces)

-- Each of these pieces was put by one call, and nothing else was.
pub record Puts (pieces : List (List ℕ)) (before now : Told) : Type 0 where
  pub bytes : Adds before.held (flat_map (λ piece. piece) pieces) now.held
  pub each : AddsPieces before.pieces pieces now.pieces

-- Each of these pieces was put by one call, and then a call for one more failed, which added a front of it or nothing.
pub record PutsFront (pieces : List (List ℕ)) (failed : List ℕ) (before now : Told) : Type 0 where
  pub middle : Told
  pub whole : Puts pieces before middle
  pub front : AddsFront middle.held failed now.held
  pub same : now.pieces ≡ middle.pieces

-- one piece for each reply
abbrev pub reply_pieces : List Output → List (List ℕ)
reply_pieces outputs = map (λ o. reply_text o.reply) outputs

-- One piece for the lines of the log that one command has. Where it has none, nothing is put.
abbrev pub log_part : List ℕ → List (List ℕ)
log_part [] = []
log_part (b ∷ bs) = (b ∷ bs) ∷ []

abbrev pub log_pieces : List Output → List (List ℕ)
log_pieces outputs = flat_map (λ o. log_part (notes_text o.log)) outputs

-- The replies of these outputs were put, and beside them their parts of the log.
pub record Gains (outputs : List Output) (before now : Sinks) : Type 0 where
  pub replies : Puts (reply_pieces outputs) before.out now.out
  pub log : Puts (log_pieces outputs) before.log now.log

-- The put of the last reply failed. Its part of the log was put before.
pub record FailsInReply (outputs : List Output) (before now : Sinks) : Type 0 where
  pub first : List Output
  pub last : Output
  pub are : outputs ≡ first ++ last ∷ []
  pub replies : PutsFront (reply_pieces first) (reply_text last.reply) before.out now.out
  pub log : Puts (log_pieces outputs) before.log now.log

-- The put of the last part of the log failed. Its reply wasn't put.
pub record FailsInLog (outputs : List Output) (before now : Sinks) : Type 0 where
  pub first : List Output
  pub last : Output
  pub are : outputs ≡ first ++ last ∷ []
  pub replies : Puts (reply_pieces first) before.out now.out
  pub log : PutsFront (log_pieces first) (notes_text last.log) before.log now.log
