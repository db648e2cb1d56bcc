-- What a step does to what the log has told: a grounding that is joined declares things, a solve learns, and all else
-- leaves both as they are.
use Rattle.std.proofs.Common.{◌≡◌, ◌⊎◌, ℕ, List, [], refl, inl, inr, ap}
use Rattle.ms_tree.specs.Tree.{Tree}
use Rattle.ms_call.specs.Items.{Item, command, bad_line}
use Rattle.ms_call.specs.declared.command.Assumption.{Assumption}
use Rattle.ms_call.specs.declared.command.Command.{Command}
use Rattle.ms_call.specs.declared.command.Command.TheVariants.{Add, Ground, Assign, Release, Solve}
use Rattle.ms_join.specs.Modules.{value_of}
use Rattle.ms_lits.specs.declared.note.Ending.{Ending}
use Rattle.ms_lits.specs.declared.note.Note.{Note}
use Rattle.ms_machine.specs.declared.reply.Refusal.TheVariants.{Syntax, Const, Later, TooLarge, TooMany, Redefined, CrossLoop, RecursiveAggregate}
use Rattle.ms_machine.specs.Logging.{LogsThings}
use Rattle.ms_machine.specs.Machine.{State, Answers, Logs, LogsSolve}
use Rattle.ms_machine.specs.Replies.{Output, Reply, added, assigned, grounded, listing_of, no_effect, refused, released, solved}
use Rattle.ms_machine.specs.Scripts.{Takes}
use Rattle.ms_released.proofs.Steps.{Stays, same_join, stays_assigned, stays_released}

-- The atoms and the rules stay, and the log tells nothing.
pub record IsQuiet (old new : State) (log : List Note) : Type 0 where
  pub stays : Stays old new
  pub nothing : log ≡ []
  pub things : new.things ≡ old.things
  pub kept : new.kept ≡ old.kept

-- The log declares things.
pub record Declaring (old new : State) (log : List Note) : Type 0 where
  pub logs : LogsThings new.join new.names old.things log new.things
  pub kept : new.kept ≡ old.kept

-- The log tells of a solve.
pub record Solving (old new : State) (log : List Note) : Type 0 where
  pub join : new.join ≡ old.join
  pub asked : ℕ
  pub limit : ℕ
  pub assume : List Assumption
  pub ending : Ending
  pub count : ℕ
  pub listing : List (List Tree)
  pub logs : LogsSolve old asked limit assume ending count listing log new

abbrev pub Tells : State → State → List Note → Type 0
Tells old new log = IsQuiet old new log ⊎ (Declaring old new log ⊎ Solving old new log)

abbrev TellsNothing : State → State → List Note → Type 0
TellsNothing old new log = (log ≡ []) × (new.things ≡ old.things) × (new.kept ≡ old.kept)

quiet : (old new : State) (log : List Note) → Stays old new → TellsNothing old new log → Tells old new log
quiet old new log stays (nothing, things, kept) = inl (record { stays = stays; nothing = nothing; things = things; kept = kept })

same_state : (old new : State) → new ≡ old → Stays old new
same_state old new is = same_join old new (ap (λ (s : State). s.names) is) (ap (λ (s : State). s.join) is)

pub told : (old : State) (c : Command) (reply : Reply) (log : List Note) (new : State) → Answers old c reply new → Logs old c reply log new → Tells old new log
told old (Add text) (added count) log new h logs = quiet old new log (same_join old new (ap (λ (s : State). s.names) h.4) (ap (λ (s : State). s.join) h.4)) logs
told old (Add text) (refused (Syntax line)) log new h logs = quiet old new log (same_state old new h.1) logs
told old (Add text) (refused (Const line)) log new h logs = quiet old new log (same_state old new h.3) logs
told old (Ground calls) (grounded atoms count) log new h (things, kept) = inr (inl (record { logs = things; kept = kept }))
told old (Ground calls) (refused Later) log new h logs = quiet old new log (same_state old new h.1) logs
told old (Ground calls) (refused TooLarge) log new h logs = quiet old new log (same_state old new h.2) logs
told old (Ground calls) (refused TooMany) log new h logs = quiet old new log (same_state old new h.1) logs
told old (Ground calls) (refused (Redefined atom)) log new h logs = quiet old new log (same_state old new h.1) logs
told old (Ground calls) (refused (CrossLoop new_head other)) log new h logs = quiet old new log (same_state old new h.1) logs
told old (Ground calls) (refused (RecursiveAggregate atom)) log new h logs = quiet old new log (same_state old new h.1) logs
told old (Assign atom truth) assigned log new ((a, named, is), texts, names) logs = quiet old new log (stays_assigned old new a (value_of truth) is names) logs
told old (Assign atom truth) no_effect log new h logs = quiet old new log (same_state old new h.1) logs
told old (Release atom) released log new ((a, named, is), texts, names) logs = quiet old new log (stays_released old new a is names) logs
told old (Release atom) no_effect log new h logs = quiet old new log (same_state old new h.1) logs
told old (Solve asked limit assume) (solved ending count most listing) log new (solves, most_is, texts, names, join) logs =
    inr (inr (record { join = join; asked = asked; limit = limit; assume = assume; ending = ending; count = count; listing = listing; logs = logs }))
told old c reply log new h logs = absurd h

-- the same of an item of a script
pub takes_told : (old : State) (item : Item) (output : Output) (new : State) → Takes old item output new → Tells old new output.log
takes_told old (command c) output new h = told old c output.reply output.log new h.answers h.logs
takes_told old bad_line output new (is, stays) = inl (record {
  stays = same_state old new stays;
  nothing = ap (λ (o : Output). o.log) is;
  things = ap (λ (s : State). s.things) stays;
  kept = ap (λ (s : State). s.kept) stays;
})

-- a solve tells of a solve, with what it was asked
pub record SolvingAs (old new : State) (asked limit : ℕ) (assume : List Assumption) (reply : Reply) (log : List Note) : Type 0 where
  pub ending : Ending
  pub count : ℕ
  pub listing : List (List Tree)
  pub lists : listing_of reply ≡ listing
  pub logs : LogsSolve old asked limit assume ending count listing log new

pub solve_told : (old new : State) (asked limit : ℕ) (assume : List Assumption) (reply : Reply) (log : List Note) → Answers old (Solve asked limit assume) reply new → Logs old (Solve asked limit assume) reply log new
    → SolvingAs old new asked limit assume reply log
solve_told old new asked limit assume (solved ending count most listing) log h logs = record { ending = ending; count = count; listing = listing; lists = refl; logs = logs }
solve_told old new asked limit assume reply log h logs = absurd h
