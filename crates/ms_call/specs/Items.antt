-- The commands and bad lines that bytes have.
use Rattle.std.specs.Prelude.{ℕ, ◌≡◌, ◌==◌, Bool, true, false, List, [], ◌∷◌, ◌++◌, Option, Some, None}
use Rattle.ms_call.specs.declared.command.Command.{Command}
use Rattle.ms_call.specs.declared.command.Command.TheVariants.{Add}
use Rattle.ms_call.specs.Lines.{ends_text, IsBlank, OpensText, IsCommand, IsBad}

-- a command, or a line that is none
pub data Item : Type 0 where
  command : Command → Item
  bad_line : Item

-- An open text has the lines so far, each with its line end. Outside of a text none is open.
abbrev pub Open : Type 0
Open = Option (List ℕ)

-- what a line does inside a text
abbrev pub text_says : Bool → List ℕ → List ℕ → Option Item × Open
text_says true text line = (Some (command (Add text)), None)
text_says false text line = (None, Some (text ++ line ++ 10 ∷ []))

-- what a line is outside of a text
abbrev pub IsLine : List ℕ → Option Item × Open → Type 0
IsLine line (None, None) = IsBlank line
IsLine line (None, Some text) = OpensText line × (text ≡ [])
IsLine line (Some bad_line, None) = IsBad line
IsLine line (Some (command c), None) = IsCommand line c
IsLine line (Some item, Some text) = ⊥

-- With a text open or none, the line says an item or nothing, and leaves a text open or none.
abbrev pub Says : Open → List ℕ → Option Item × Open → Type 0
Says None line said = IsLine line said
Says (Some text) line said = said ≡ text_says (ends_text line) text line

abbrev pub with_item : Option Item → List Item → List Item
with_item None items = items
with_item (Some item) items = item ∷ items

-- The lines say the items one after another, where at first one text is open or none, and in the end another
-- or none.
unfoldable pub HaveItems : Open → List (List ℕ) → List Item → Open → Type 0
HaveItems opened [] items left = (items ≡ []) × (left ≡ opened)
HaveItems opened (line ∷ lines) items left =
    (said : Option Item × Open) × (others : List Item) × Says opened line said × (items ≡ with_item said.0 others) × HaveItems said.1 lines others left

-- a byte at the front of the first line; what stands before no line end is a line where the bytes have ended
abbrev pub in_first_line : Bool → ℕ → List (List ℕ) → List (List ℕ)
in_first_line ended b (line ∷ lines) = (b ∷ line) ∷ lines
in_first_line true b [] = (b ∷ []) ∷ []
in_first_line false b [] = []

-- The bytes are cut after each line end. Where they have ended, what follows the last line end is a line too if
-- it isn't empty. Where they haven't, it isn't looked at.
unfoldable pub lines_in : Bool → List ℕ → List (List ℕ)
lines_in ended [] = []
lines_in ended (b ∷ bs) = elim (b == 10) [ true ↦ [] ∷ lines_in ended bs | false ↦ in_first_line ended b (lines_in ended bs) ]

-- The items of bytes to their end.
abbrev pub HasItems : Open → List ℕ → List Item → Open → Type 0
HasItems opened bytes items left = HaveItems opened (lines_in true bytes) items left

-- The items of the whole lines alone.
abbrev pub HasWholeItems : Open → List ℕ → List Item → Open → Type 0
HasWholeItems opened bytes items left = HaveItems opened (lines_in false bytes) items left
