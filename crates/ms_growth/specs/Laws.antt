-- The laws of a program that grows, over every run.
use Rattle.std.specs.Prelude.{ℕ, ◌≡◌, Bool, IsTrue, List, Some, All, Contains, slice_get}
use Rattle.ms_tree.specs.Tree.{Tree}
use Rattle.ms_call.specs.declared.command.Assumption.{Assumption}
use Rattle.ms_call.specs.declared.command.Command.{Command}
use Rattle.ms_call.specs.Items.{Item}
use Rattle.ms_join.specs.AnswerSets.{set_of}
use Rattle.ms_join.specs.Possible.{IsPossible, cut}
use Rattle.ms_solving.specs.Listing.{IsAnswer}
use Rattle.ms_machine.specs.Machine.{State, Answers}
use Rattle.ms_machine.specs.Replies.{Output, Reply, listing_of}
use Rattle.ms_machine.specs.Scripts.{Run}
use Rattle.ms_released.specs.Released.{IsReached}
use Rattle.ms_growth.specs.Growth.{IsRuledOut}

-- What is possible in a later state was possible in each earlier one, for the atoms that were there.
abbrev pub ThePastStays : Type 0
ThePastStays =
    (old new : State) (items : List Item) (outputs : List Output) (set : ℕ → Bool) → IsReached old → Run old items outputs new
    → IsPossible new.join set → IsPossible old.join (cut old.join.atoms set)

-- Each atom keeps its term.
abbrev pub NamesStay : Type 0
NamesStay =
    (old new : State) (items : List Item) (outputs : List Output) → Run old items outputs new
    → (a : ℕ) (t : Tree) → slice_get old.names a ≡ Some t → slice_get new.names a ≡ Some t

-- What holds of each set that is possible holds of each that is possible in a later state, for the atoms that were there.
abbrev pub ConsequencesStay : Type 0
ConsequencesStay =
    (old new : State) (items : List Item) (outputs : List Output) (holds : (ℕ → Bool) → Bool) → IsReached old → Run old items outputs new
    → ((set : ℕ → Bool) → IsPossible old.join set → IsTrue (holds set))
    → (set : ℕ → Bool) → IsPossible new.join set → IsTrue (holds (cut old.join.atoms set))

-- And it holds of each later answer, whatever is assumed.
abbrev pub ConsequencesHold : Type 0
ConsequencesHold =
    (old new : State) (items : List Item) (outputs : List Output) (holds : (ℕ → Bool) → Bool) → IsReached old → Run old items outputs new
    → ((set : ℕ → Bool) → IsPossible old.join set → IsTrue (holds set))
    → (assume : List Assumption) (set : List ℕ) → IsAnswer new.names new.join assume set → IsTrue (holds (cut old.join.atoms (set_of set)))

-- No later reply lists an atom that no possible set has.
abbrev pub RuledOutIsNeverListed : Type 0
RuledOutIsNeverListed =
    (old mid new : State) (items : List Item) (outputs : List Output) (t : Tree) (command : Command) (reply : Reply)
    → IsReached old → IsRuledOut old t → Run old items outputs mid → Answers mid command reply new
    → All (λ shown. ¬ Contains shown t) (listing_of reply)
