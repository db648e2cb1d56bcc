-- What the parts of the test of a module find.
use Rattle.std.specs.Prelude.{ℕ, ◌≡◌, ◌↔◌, List, Option, Some, None, Err, Any, Contains}
use Rattle.ms_tree.specs.Tree.{Tree}
use Rattle.ms_join.specs.declared.ground_module.GroundModule.{GroundModule}
use Rattle.ms_join.specs.declared.join_fault.JoinFault.{JoinFault}
use Rattle.ms_join.specs.Modules.{Join, IsOutput}
use Rattle.ms_join.specs.Composability.{Checks, IsComposable, IsInLoop, IsLeast, LoopsWith}
use Rattle.ms_cone.specs.Cones.{Numbered, number_of}
use Rattle.ms_module.specs.declared.loops.CrossLoop.{CrossLoop}

-- the atoms of a list of which it holds
abbrev pub AreThose : List ℕ → (ℕ → Type 0) → List ℕ → Type 0
AreThose atoms Is found = (a : ℕ) → Contains found a ↔ (Contains atoms a × Is a)

-- the numbers of the components of atoms
abbrev pub AreNumbersOf : Numbered → List ℕ → List ℕ → Type 0
AreNumbersOf cone atoms numbers = (n : ℕ) → Contains numbers n ↔ Any (λ a. number_of cone a ≡ Some n) atoms

-- the atom is in the cone
pub record HasNumber (cone : Numbered) (a : ℕ) : Type 0 where
  pub number : ℕ
  pub is : number_of cone a ≡ Some number

-- the atom's component has one of the numbers
pub record HasNumberAmong (cone : Numbered) (numbers : List ℕ) (a : ℕ) : Type 0 where
  pub number : ℕ
  pub is : number_of cone a ≡ Some number
  pub among : Contains numbers number

-- an output in one component of the cone with the atom
pub record LoopsInCone (j : Join) (cone : Numbered) (a b : ℕ) : Type 0 where
  pub output : IsOutput j b
  pub number : ℕ
  pub first : number_of cone a ≡ Some number
  pub second : number_of cone b ≡ Some number

-- a head that is in one component with an output
pub record IsInConeLoop (j : Join) (cone : Numbered) (heads : List ℕ) (a : ℕ) : Type 0 where
  pub head : Contains heads a
  pub loops : (b : ℕ) × LoopsInCone j cone a b

abbrev pub FindsInCone : List Tree → Join → Numbered → List ℕ → Option CrossLoop → Type 0
FindsInCone names j cone heads None = (a : ℕ) → ¬ IsInConeLoop j cone heads a
FindsInCone names j cone heads (Some l) = IsLeast names (IsInConeLoop j cone heads) l.new_head × IsLeast names (LoopsInCone j cone l.new_head) l.old

-- the least loop across modules
abbrev pub FindsLoop : List Tree → Join → GroundModule → Option CrossLoop → Type 0
FindsLoop names j m None = (a : ℕ) → ¬ IsInLoop j m a
FindsLoop names j m (Some l) = IsLeast names (IsInLoop j m) l.new_head × IsLeast names (LoopsWith j m l.new_head) l.old

-- the first fault
abbrev pub Finds : List Tree → Join → GroundModule → Option JoinFault → Type 0
Finds names j m None = IsComposable j m
Finds names j m (Some fault) = Checks names j m (Err fault)
