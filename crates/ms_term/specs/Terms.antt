-- The terms of a table by their names, which are numbers.
use Rattle.std.specs.Prelude.{◌≡◌, ℕ, ◌-◌, ◌^◌, ◌<◌, ◌≤◌, ◌⊎◌, min, pos, List, [], ◌∷◌, ◌++◌, length, slice_index_or, ⊤, ℤ, Option, Some, None}
pub use Rattle.ms_base.specs.Limits.{most_symbols}
use Rattle.ms_tree.specs.Tree.{Tree, number, text, function, Trees, no_tree, tree}
use Rattle.ms_tree.specs.Size.{tree_size}

-- The term of a name. A number that names nothing gives 0.
abbrev pub term_at : List Tree → ℕ → Tree
term_at ts i = slice_index_or ts i (number (pos 0))

abbrev pub terms_at : List Tree → List ℕ → Trees
terms_at ts [] = no_tree
terms_at ts (i ∷ is) = tree (term_at ts i) (terms_at ts is)

-- a size is held at the greatest u64
abbrev pub held : ℕ → ℕ
held n = min n (2 ^ 64 - 1)

abbrev pub AllBelow : ℕ → List ℕ → Type 0
AllBelow n [] = ⊤
AllBelow n (i ∷ is) = (i < n) × AllBelow n is

-- equal terms have equal names
abbrev pub AllDifferent : List Tree → Type 0
AllDifferent ts = (i j : ℕ) → i < length ts → j < length ts → term_at ts i ≡ term_at ts j → i ≡ j

-- The number i names the term t among the new terms. These are the old ones, and t at their end where
-- it wasn't among them, so each name stands for what it stood for.
pub record Names (old new : List Tree) (t : Tree) (i : ℕ) : Type 0 where
  pub within : i < length new
  pub names : term_at new i ≡ t
  pub grows : (new ≡ old) ⊎ (new ≡ old ++ t ∷ [])
  pub longer : length old ≤ length new
  pub kept : (i : ℕ) → i < length old → term_at new i ≡ term_at old i
  pub different : AllDifferent new

-- The number i names the term t, and no other number does.
pub record IsNameOf (ts : List Tree) (t : Tree) (i : ℕ) : Type 0 where
  pub within : i < length ts
  pub names : term_at ts i ≡ t
  pub only : (j : ℕ) → j < length ts → term_at ts j ≡ t → j ≡ i

-- none of the terms is t
abbrev pub HasNo : List Tree → Tree → Type 0
HasNo ts t = (i : ℕ) → i < length ts → ¬ (term_at ts i ≡ t)

-- the table has each of the terms side by side
abbrev pub HasEach : List Tree → Trees → Type 0
HasEach ts no_tree = ⊤
HasEach ts (tree t rest) = (¬ HasNo ts t) × HasEach ts rest

-- the arguments of each function of the table are in the table
abbrev pub AreWhole : List Tree → Type 0
AreWhole ts = (i : ℕ) (f : List ℕ) (args : Trees) → i < length ts → term_at ts i ≡ function f args → HasEach ts args

-- a term of more symbols than an atom may have
abbrev pub IsLarge : Tree → Type 0
IsLarge t = most_symbols < tree_size t

-- no term is large
abbrev pub AreSmall : List Tree → Type 0
AreSmall ts = (i : ℕ) → i < length ts → ¬ IsLarge (term_at ts i)

-- The term that i names is large, and no term before it is.
pub record IsFirstLarge (ts : List Tree) (i : ℕ) : Type 0 where
  pub within : i < length ts
  pub large : IsLarge (term_at ts i)
  pub before : (j : ℕ) → j < i → ¬ IsLarge (term_at ts j)

-- the part of a term that a look-up gives, where the term is of that kind
abbrev pub number_in : Tree → Option ℤ
number_in (number n) = Some n
number_in (text s) = None
number_in (function f ts) = None

abbrev pub text_in : Tree → Option (List ℕ)
text_in (number n) = None
text_in (text s) = Some s
text_in (function f ts) = None

abbrev pub name_in : Tree → Option (List ℕ)
name_in (number n) = None
name_in (text s) = None
name_in (function f ts) = Some f

-- the arguments of a function, and none of another term
abbrev pub arguments_in : Tree → Trees
arguments_in (number n) = no_tree
arguments_in (text s) = no_tree
arguments_in (function f ts) = ts
