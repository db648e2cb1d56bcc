-- What a script is answered.
use Rattle.std.specs.Prelude.{ℕ, ◌≡◌, List, [], ◌∷◌, ◌++◌, Some, None}
use Rattle.ms_call.specs.Items.{Item, command, bad_line, Open, HasItems}
use Rattle.ms_machine.specs.declared.reply.Refusal.TheVariants.{Command, Unfinished}
use Rattle.ms_machine.specs.Replies.{Output, refused}
use Rattle.ms_machine.specs.Machine.{State, start, Step}

-- A command takes a step. A line that is no command is refused, and nothing changes.
abbrev pub Takes : State → Item → Output → State → Type 0
Takes old (command c) output new = Step old c output new
Takes old bad_line output new = (output ≡ record { reply = refused Command; log = [] }) × (new ≡ old)

-- From `old` the machine may give these outputs for these items, one after another, and end in `new`.
unfoldable pub Run : State → List Item → List Output → State → Type 0
Run old [] [] new = new ≡ old
Run old (item ∷ items) (output ∷ outputs) new = (mid : State) × Takes old item output mid × Run mid items outputs new
Run old [] (output ∷ outputs) new = ⊥
Run old (item ∷ items) [] new = ⊥

-- what is given for an `@add` that the end cuts off
abbrev pub output_at_end : Open → List Output
output_at_end None = []
output_at_end (Some text) = record { reply = refused Unfinished; log = [] } ∷ []

-- The machine may give these outputs for the script.
pub record Replies (script : List ℕ) (outputs : List Output) : Type 0 where
  pub items : List Item
  pub cut : Open
  pub has : HasItems None script items cut
  pub to_items : List Output
  pub last : State
  pub run : Run start items to_items last
  pub all : outputs ≡ to_items ++ output_at_end cut
