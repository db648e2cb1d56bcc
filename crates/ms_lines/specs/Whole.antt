-- All that a script says.
use Rattle.std.specs.Prelude.{ℕ, ◌≡◌, ◌↔◌, Bool, true, List, [], ◌∷◌, ◌++◌, None, IsTrue, IsSome}
use Rattle.ms_call.specs.Items.{Item, Open, with_item, HaveItems, HasItems, lines_in}
use Rattle.ms_lines.specs.declared.Lines.{Lines}
use Rattle.ms_lines.specs.declared.Fed.{Fed}
use Rattle.ms_lines.specs.Feeding.{item_of, HasLeft}

abbrev pub items_of : List Fed → List Item
items_of [] = []
items_of (fed ∷ feds) = with_item (item_of fed) (items_of feds)

-- The bytes say these items and no others, and leave a text open or none.
pub record SaysAll (bytes : List ℕ) (items : List Item) (unfinished : Bool) : Type 0 where
  pub left : Open
  pub has : HasItems None bytes items left
  pub only : (others : List Item) (other : Open) → HasItems None bytes others other → (others ≡ items) × (other ≡ left)
  pub is_open : IsTrue unfinished ↔ IsSome left

-- Of these bytes this was said so far, whatever may come.
abbrev pub HasTold : List ℕ → List Fed → Lines → Type 0
HasTold bytes said lines =
    (ended : Bool) (more : List ℕ) (items : List Item) (left : Open) →
    HaveItems None (lines_in ended (bytes ++ more)) items left ↔ ((others : List Item) × (items ≡ items_of said ++ others) × HasLeft lines ended more others left)

-- The same where nothing more comes.
abbrev pub HasToldAtEnd : List ℕ → List Fed → Lines → Type 0
HasToldAtEnd bytes said lines =
    (items : List Item) (left : Open) →
    HasItems None bytes items left ↔ ((others : List Item) × (items ≡ items_of said ++ others) × HasLeft lines true [] others left)
