-- The inputs of a join, each with its place.
use Rattle.std.specs.Prelude.{ℕ, ◌≡◌, ◌≢◌, ◌↔◌, ◌<◌, ◌≤◌, ◌⊎◌, Bool, false, List, Option, Some, All, AllPairs, Contains, length, slice_index, slice_index_or}
use Rattle.ms_join.specs.declared.ground_rule.Input.{Input}
use Rattle.ms_base.specs.declared.truth.Effect.{Effect}
use Rattle.ms_base.specs.declared.truth.Effect.TheVariants.{Done, NoEffect}
use Rattle.ms_join.specs.Modules.{Join, IsInput, IsAssigned, IsReleased}

-- The place of each input's atom is the input's number.
pub record ArePlaced (places : List ℕ) (inputs : List Input) : Type 0 where
  pub within : (i : ℕ) (d : Input) → i < length inputs → (slice_index_or inputs i d).atom < length places
  pub at : (i : ℕ) (d : Input) → i < length inputs → slice_index places (slice_index_or inputs i d).atom ≡ i

-- the input with this number is of the atom
pub record IsInputAt (inputs : List Input) (a i : ℕ) : Type 0 where
  pub within : i < length inputs
  pub atom : (d : Input) → (slice_index_or inputs i d).atom ≡ a

-- The inputs are over the base, each once.
pub record AreInputs (j : Join) : Type 0 where
  pub within : All (λ i. i.atom < j.atoms) j.inputs
  pub once : AllPairs (λ i k. i.atom ≢ k.atom) j.inputs

-- The input has this value from now on. Where the atom is no input nothing changes.
abbrev pub Assigns : Join → ℕ → Option Bool → Join → Effect → Type 0
Assigns old a value new Done = IsInput old a × IsAssigned old a value new
Assigns old a value new NoEffect = (¬ IsInput old a) × (new ≡ old)

-- The input is an output from now on. Where the atom is no input nothing changes.
abbrev pub Releases : Join → ℕ → Join → Effect → Type 0
Releases old a new Done = IsInput old a × IsReleased old a new
Releases old a new NoEffect = (¬ IsInput old a) × (new ≡ old)

-- The atoms from `first` on are inputs from now on, with the value false.
pub record Declares (old : Join) (first : ℕ) (atoms : List ℕ) (new : Join) : Type 0 where
  pub atoms_stay : new.atoms ≡ old.atoms
  pub rules_stay : new.rules ≡ old.rules
  pub inputs : (i : Input) → Contains new.inputs i ↔ (Contains old.inputs i ⊎ ((first ≤ i.atom) × Contains atoms i.atom × (i.value ≡ Some false)))

-- None of the atoms is an input from now on.
pub record Withdraws (old : Join) (atoms : List ℕ) (new : Join) : Type 0 where
  pub atoms_stay : new.atoms ≡ old.atoms
  pub rules_stay : new.rules ≡ old.rules
  pub inputs : (i : Input) → Contains new.inputs i ↔ (Contains old.inputs i × (¬ Contains atoms i.atom))
