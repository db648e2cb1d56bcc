-- Atoms that are false for good, and those that were released.
-- Source: that a released external is false for good is after Gebser, Kaminski, Kaufmann and Schaub, "Multi-shot
-- ASP solving with clingo" (2019).
use Rattle.std.specs.Prelude.{ℕ, ◌≡◌, ◌≢◌, List, Some, All, slice_get}
use Rattle.ms_tree.specs.Tree.{Tree}
use Rattle.ms_grammar.specs.declared.value.Value.{Value}
use Rattle.ms_call.specs.declared.command.Command.TheVariants.{Release}
use Rattle.ms_call.specs.Items.{Item}
use Rattle.ms_join.specs.Modules.{Join, IsOutput}
use Rattle.ms_machine.specs.Machine.{State, start, Answers}
use Rattle.ms_machine.specs.Replies.{Output, released}
use Rattle.ms_machine.specs.Scripts.{Run}

-- The atom is an output of the join, and no rule has it as its head.
pub record IsFalseForGood (j : Join) (a : ℕ) : Type 0 where
  pub output : IsOutput j a
  pub no_rule : All (λ rule. rule.head ≢ Some a) j.rules

-- The atom with this number is the one that has this term.
pub record IsTheOne (names : List Tree) (t : Tree) (a : ℕ) : Type 0 where
  pub named : slice_get names a ≡ Some t
  pub only : (b : ℕ) → slice_get names b ≡ Some t → b ≡ a

-- Some items and outputs lead to this state.
pub record IsReached (s : State) : Type 0 where
  pub items : List Item
  pub outputs : List Output
  pub run : Run start items outputs s

-- On the way to this state the atom's release was answered `released`.
pub record WasReleased (atom : Value) (s : State) : Type 0 where
  pub before : State
  pub after : State
  pub items : List Item
  pub outputs : List Output
  pub reached : IsReached before
  pub release : Answers before (Release atom) released after
  pub since : Run after items outputs s
