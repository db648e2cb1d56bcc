-- The laws of what is learned, over every run of the machine with its log.
-- Source: that learned nogoods stay as a program grows by composable modules is after Gebser, Kaminski, Kaufmann and
-- Schaub, "Multi-shot ASP solving with clingo" (2019).
use Rattle.std.specs.Prelude.{ℕ, ◌≡◌, ◌≢◌, ◌+◌, ◌≤◌, ◌^◌, ◌++◌, ◌∷◌, [], Bool, List, All, AllPairs, Contains, length}
use Rattle.ms_call.specs.declared.command.Assumption.{Assumption}
use Rattle.ms_call.specs.declared.command.Command.{Command}
use Rattle.ms_call.specs.declared.command.Command.TheVariants.{Solve}
use Rattle.ms_call.specs.Items.{Item}
use Rattle.ms_join.specs.Possible.{IsPossible}
use Rattle.ms_join.specs.Things.{Thing}
use Rattle.ms_lits.specs.declared.note.Ending.TheVariants.{Complete, Cut}
use Rattle.ms_lits.specs.declared.note.Note.{Note}
use Rattle.ms_lits.specs.declared.note.Note.TheVariants.{Kept, Temporary}
use Rattle.ms_lits.specs.Literals.{Nogood, IsContained}
use Rattle.ms_tree.specs.Tree.{Tree}
use Rattle.ms_things.specs.Completion.{IsCompletionNogood}
use Rattle.ms_things.specs.Numbers.{AreThings, ext}
use Rattle.ms_things.specs.Signs.{IsContainedIn}
use Rattle.ms_lawful.specs.Lines.{answers_in, learned_in, nogoods_in}
use Rattle.ms_lawful.specs.Parts.{kept_in, last_of, most_kept}
use Rattle.ms_problem.specs.Numbered.{AreNumbers}
use Rattle.ms_machine.specs.Machine.{State, Step}
use Rattle.ms_machine.specs.Replies.{Output, solved}
use Rattle.ms_machine.specs.Scripts.{Run}
use Rattle.ms_released.specs.Released.{IsReached}
use Rattle.ms_learned.specs.Learned.{BringsNew, IsAnswered, IsLasting, IsLearnedLine, IsRefutedByLog, IsStanding, log_of}

-- The things that the log has declared are those of the join.
abbrev pub DeclaredAreThings : Type 0
DeclaredAreThings = (s : State) → IsReached s → AreThings s.join s.things

-- A thing keeps its number.
abbrev pub ThingsKeepTheirNumbers : Type 0
ThingsKeepTheirNumbers = (old new : State) (items : List Item) (outputs : List Output) → Run old items outputs new → (more : List Thing) × (new.things ≡ old.things ++ more)

-- Each kept nogood is a consequence of the join, whatever the inputs are.
abbrev pub KeptAreConsequences : Type 0
KeptAreConsequences = (s : State) → IsReached s → All (IsLasting s.join s.things) s.kept

-- And of each later one.
abbrev pub KeptLast : Type 0
KeptLast =
    (old new : State) (items : List Item) (outputs : List Output) (nogood : Nogood) → IsReached old → Run old items outputs new
    → Contains old.kept nogood → IsLasting new.join new.things nogood

-- Each nogood that a step logs as kept is a consequence of the join, and of each later one.
abbrev pub LoggedLast : Type 0
LoggedLast =
    (old mid new : State) (command : Command) (output : Output) (items : List Item) (outputs : List Output) (nogood : Nogood)
    → IsReached old → Step old command output mid → Run mid items outputs new → Contains output.log (Kept nogood) → IsLasting new.join new.things nogood

-- No command but a solve changes what is kept.
abbrev pub OthersKeepAll : Type 0
OthersKeepAll =
    (old new : State) (command : Command) (output : Output) → ((asked limit : ℕ) (assume : List Assumption) → command ≢ Solve asked limit assume)
    → Step old command output new → new.kept ≡ old.kept

-- Along a run the nogoods that a solve begins with are the last ones of those that there were and those that were logged as
-- kept since, in the order of the log.
abbrev pub KeptAreTheLast : Type 0
KeptAreTheLast =
    (old new : State) (items : List Item) (outputs : List Output) → Run old items outputs new
    → last_of most_kept new.kept ≡ last_of most_kept (old.kept ++ kept_in (log_of outputs))

-- No solve has a line whose nogood is one that it began with, or contains one.
abbrev pub KeptIsNotLearnedAgain : Type 0
KeptIsNotLearnedAgain =
    (old new : State) (asked limit : ℕ) (assume : List Assumption) (output : Output) (nogood : Nogood) → Step old (Solve asked limit assume) output new
    → Contains (last_of most_kept old.kept) nogood → All (λ line. (line ≢ nogood) × ¬ IsContained line nogood) (nogoods_in output.log)

-- What is temporary rests on the answers before it: a possible set that contains it is one of them, and listed.
abbrev pub TemporaryRestsOnAnswers : Type 0
TemporaryRestsOnAnswers =
    (old new : State) (asked limit : ℕ) (assume : List Assumption) (output : Output) (before rest : List Note) (nogood : Nogood) (numbers : List ℕ) (set : ℕ → Bool)
    → IsReached old → Step old (Solve asked limit assume) output new → output.log ≡ before ++ Temporary nogood ∷ rest
    → AreNumbers old.things old.join.atoms numbers → IsPossible old.join set → IsContainedIn (ext set old.things) nogood
    → IsAnswered old numbers before output.reply set

-- A temporary nogood comes only after an answer, so a solve without answers keeps all that it learns.
abbrev pub TemporaryFollowsAnswers : Type 0
TemporaryFollowsAnswers =
    (old new : State) (asked limit : ℕ) (assume : List Assumption) (output : Output) (before rest : List Note) (nogood : Nogood)
    → Step old (Solve asked limit assume) output new → output.log ≡ before ++ Temporary nogood ∷ rest → answers_in before ≢ []

-- No line contains that of an earlier one of its solve, or a completion nogood.
abbrev pub LinesContainNoEarlier : Type 0
LinesContainNoEarlier =
    (old new : State) (asked limit : ℕ) (assume : List Assumption) (output : Output) → Step old (Solve asked limit assume) output new
    → AllPairs (λ nogood later. ¬ IsContained later nogood) (nogoods_in output.log)
    × All (λ line. (nogood : Nogood) → IsCompletionNogood old.join old.things nogood → ¬ IsContained line nogood) (nogoods_in output.log)

-- What is learned brings something that unit closure doesn't give by what stands before it.
abbrev pub LearnedLinesAreNew : Type 0
LearnedLinesAreNew =
    (old new : State) (asked limit : ℕ) (assume : List Assumption) (output : Output) (before rest : List Note) (line : Note) (nogood : Nogood)
    → Step old (Solve asked limit assume) output new → output.log ≡ before ++ line ∷ rest → IsLearnedLine before line nogood → BringsNew (IsStanding old before) nogood

-- After a cut the log has as many learned nogoods as the limit and the answers together, and no solve is cut whose limit is
-- greater than three to the power of the number of things.
abbrev pub CutIsCounted : Type 0
CutIsCounted =
    (old new : State) (asked limit count most : ℕ) (assume : List Assumption) (listing : List (List Tree)) (output : Output)
    → Step old (Solve asked limit assume) output new → output.reply ≡ solved Cut count most listing
    → (length (learned_in output.log) ≡ limit + count) × (limit ≤ 3 ^ length old.things)

-- After a complete reply what was demanded is refuted by what stands in the log, by unit closure alone.
abbrev pub CompleteIsRefuted : Type 0
CompleteIsRefuted =
    (old new : State) (asked limit count most : ℕ) (assume : List Assumption) (listing : List (List Tree)) (output : Output)
    → Step old (Solve asked limit assume) output new → output.reply ≡ solved Complete count most listing → IsRefutedByLog old assume output.log
