-- The answer sets of a join under assumptions, and their listing.
use Rattle.std.specs.Prelude.{ℕ, ◌≡◌, ◌≢◌, ◌↔◌, ◌<◌, Bool, true, false, IsTrue, List, [], ◌∷◌, Some, All, AllPairs, Any, Contains, length, slice_get}
use Rattle.std.specs.List.{AllZip}
use Rattle.std.specs.List.Sorted.{IsStrictlySortedBy, IsSorted, IsPermutation}
use Rattle.std.specs.Cmp.Lexicographic.{slice_cmp}
use Rattle.ms_tree.specs.Tree.{Tree, number, text, function, Trees, no_tree, tree}
use Rattle.ms_tree.specs.Order.{compare_trees}
use Rattle.ms_grammar.specs.declared.value.Value.{Value}
use Rattle.ms_grammar.specs.declared.value.Value.TheOpen.{Value-F}
use Rattle.ms_grammar.specs.declared.value.Value.TheFolds.{fold-Value}
use Rattle.ms_call.specs.declared.command.Assumption.{Assumption}
use Rattle.ms_lits.specs.declared.note.Ending.{Ending}
use Rattle.ms_lits.specs.declared.note.Ending.TheVariants.{Complete, StillOpen, Cut}
use Rattle.ms_join.specs.AnswerSets.{IsAnswerSet, IsAtomSet, set_of}
use Rattle.ms_join.specs.Modules.{Join, rules_of}

-- terms side by side
unfoldable pub row : List Tree → Trees
row [] = no_tree
row (t ∷ ts) = tree t (row ts)

abbrev pub value_step : Value-F Tree → Tree
value_step (Value-F.Number n) = number n
value_step (Value-F.Text s) = text s
value_step (Value-F.Function f args) = function f (row args)

-- The term that a value is.
abbrev pub tree_of_value : Value → Tree
tree_of_value = fold-Value Tree value_step

-- The set has the atom with this term.
abbrev pub HasAtom : List Tree → List ℕ → Tree → Type 0
HasAtom names set t = Any (λ a. slice_get names a ≡ Some t) set

-- The atom is in the set or isn't, as it is assumed. An atom outside the base is in no set.
abbrev pub Meets : List Tree → List ℕ → Tree → Bool → Type 0
Meets names set t true = HasAtom names set t
Meets names set t false = ¬ HasAtom names set t

-- The set, as the list of its atoms in rising order, is an answer set of the join and meets each assumption.
pub record IsAnswer (names : List Tree) (join : Join) (assume : List Assumption) (set : List ℕ) : Type 0 where
  pub over_base : IsAtomSet join.atoms set
  pub answers : IsAnswerSet (rules_of join) (set_of set)
  pub assumed : All (λ s. Meets names set (tree_of_value s.atom) s.truth) assume

-- Sets of which it holds, each once.
pub record AreAnswers (Is : List ℕ → Type 0) (sets : List (List ℕ)) : Type 0 where
  pub each : All Is sets
  pub once : AllPairs (λ set other. set ≢ other) sets

-- Each set of which it holds is among them.
abbrev pub AreAllAnswers : (List ℕ → Type 0) → List (List ℕ) → Type 0
AreAllAnswers Is sets = (set : List ℕ) → Is set → Contains sets set

-- Fewer answer sets than were asked for, and all of them; or as many as were asked for; or fewer, where the search gave up.
abbrev pub EndsAs : Ending → ℕ → (List ℕ → Type 0) → List (List ℕ) → Type 0
EndsAs Complete asked Is sets = (length sets < asked) × AreAllAnswers Is sets
EndsAs StillOpen asked Is sets = length sets ≡ asked
EndsAs Cut asked Is sets = length sets < asked

-- The shown atoms of a set are those of its atoms that pass the test, in term order.
pub record IsShownList (shows : Tree → Bool) (names : List Tree) (set : List ℕ) (shown : List Tree) : Type 0 where
  pub ordered : IsStrictlySortedBy compare_trees shown
  pub members : (t : Tree) → Contains shown t ↔ (IsTrue (shows t) × HasAtom names set t)

-- The listing has one shown list for each set, and is sorted: a list comes before each that it begins.
pub record IsListing (shows : Tree → Bool) (names : List Tree) (sets : List (List ℕ)) (listing : List (List Tree)) : Type 0 where
  pub lists : List (List Tree)
  pub shown : AllZip (IsShownList shows names) sets lists
  pub same : IsPermutation lists listing
  pub ordered : IsSorted (slice_cmp compare_trees) listing

-- What a solve of a join lists that asks for so many answer sets.
pub record Solves (shows : Tree → Bool) (names : List Tree) (join : Join) (assume : List Assumption) (asked : ℕ) (ending : Ending) (count : ℕ) (listing : List (List Tree)) : Type 0 where
  pub sets : List (List ℕ)
  pub true_ones : AreAnswers (IsAnswer names join assume) sets
  pub ends : EndsAs ending asked (IsAnswer names join assume) sets
  pub counted : count ≡ length sets
  pub listed : IsListing shows names sets listing
