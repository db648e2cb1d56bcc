-- What a script says next, and what it says after that.
use Rattle.std.specs.Prelude.{ℕ, ◌≡◌, ◌<◌, ◌↔◌, ⊤, length, Bool, true, List, [], ◌++◌, Option, Some, None}
use Rattle.ms_call.specs.Commands.{AsksForSome}
use Rattle.ms_call.specs.Items.{Item, command, bad_line, Open, with_item, HaveItems, lines_in}
use Rattle.ms_lines.specs.Buffers.{LacksLine}
use Rattle.ms_lines.specs.declared.Lines.{Lines}
use Rattle.ms_lines.specs.declared.Fed.{Fed}
use Rattle.ms_lines.specs.declared.Fed.TheVariants.{Command, BadCommand, NotYet}

abbrev pub item_of : Fed → Option Item
item_of (Command c) = Some (command c)
item_of BadCommand = Some bad_line
item_of NotYet = None

-- what a script has to say where more bytes come, which may be its end
abbrev pub HasLeft : Lines → Bool → List ℕ → List Item → Open → Type 0
HasLeft lines ended more items left = HaveItems lines.text (lines_in ended (lines.rest ++ more)) items left

-- Whatever may come, the script said the item, or nothing, and then what it has still to say.
abbrev pub SaysThen : Lines → Option Item → Lines → Type 0
SaysThen before item after =
    (ended : Bool) (more : List ℕ) (items : List Item) (left : Open) →
    HasLeft before ended more items left ↔ ((others : List Item) × (items ≡ with_item item others) × HasLeft after ended more others left)

-- The same where nothing more comes.
abbrev pub SaysAtEnd : Lines → Option Item → Lines → Type 0
SaysAtEnd before item after =
    (items : List Item) (left : Open) →
    HasLeft before true [] items left ↔ ((others : List Item) × (items ≡ with_item item others) × HasLeft after true [] others left)

-- What says an item leaves fewer bytes to read.
abbrev pub IsShorter : Fed → List ℕ → List ℕ → Type 0
IsShorter NotYet before after = ⊤
IsShorter fed before after = length after < length before

-- What says an item has read at least the first line.
abbrev pub LosesLine : Fed → List ℕ → List ℕ → Type 0
LosesLine NotYet before after = ⊤
LosesLine fed before after = LacksLine before after

abbrev pub GivesSome : Fed → Type 0
GivesSome (Command c) = AsksForSome c
GivesSome fed = ⊤
