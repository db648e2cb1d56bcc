-- The searches along links from atoms to atoms.
use Rattle.std.specs.Prelude.{ℕ, ◌≡◌, ◌+◌, ◌^◌, ◌<◌, ◌≤◌, ◌⊎◌, nat_eq, List, [], Some, All, Contains, length, slice_get}
use Rattle.std.specs.List.{IsDistinct}
use Rattle.ms_graph.specs.declared.edge.Edge.{Edge}
use Rattle.ms_graph.specs.Components.{IsGraph, IsNumbering}
use Rattle.ms_cone.specs.declared.links.Link.{Link}
use Rattle.ms_cone.specs.Links.{IsLinked}
use Rattle.ms_cone.specs.Cones.{Numbered}

-- one of the links leads to the first atom from the second
abbrev pub led_by : List Link → List Link → ℕ → ℕ → Type 0
led_by old new a b = IsLinked old b a ⊎ IsLinked new b a

-- The number of atoms of the base, the atoms that were found so far, edges between their places, and how many of them
-- were visited.
pub record Found : Type 0 where
  pub atoms : ℕ
  pub members : List ℕ
  pub edges : List Edge
  pub visited : ℕ

-- Each member is there once, and is an atom of the base. The edges are between members.
pub record IsFound (s : Found) : Type 0 where
  pub once : IsDistinct nat_eq s.members
  pub below : All (λ a. a < s.atoms) s.members
  pub fits : length s.members ≤ s.atoms
  pub small : s.atoms < 2 ^ 32
  pub graph : IsGraph (length s.members) s.edges
  pub within : s.visited ≤ length s.members

-- Members stay in their places, and others come after them.
pub record Grows (old new : List ℕ) (Is : ℕ → Type 0) : Type 0 where
  pub kept : (i a : ℕ) → slice_get old i ≡ Some a → slice_get new i ≡ Some a
  pub only : (i a : ℕ) → slice_get new i ≡ Some a → (slice_get old i ≡ Some a) ⊎ (Is a × (length old ≤ i))

-- The atom is a member in this place now.
pub record Enters (old new : Found) (a place : ℕ) : Type 0 where
  pub atoms : new.atoms ≡ old.atoms
  pub visited : new.visited ≡ old.visited
  pub edges : new.edges ≡ old.edges
  pub members : Grows old.members new.members (λ x. x ≡ a)
  pub at : slice_get new.members place ≡ Some a
  pub graph : IsGraph (length old.members) new.edges

-- an edge leads from the place of the one atom to that of the other
pub record HasEdge (s : Found) (a b : ℕ) : Type 0 where
  pub from : ℕ
  pub to : ℕ
  pub start : slice_get s.members from ≡ Some a
  pub end : slice_get s.members to ≡ Some b
  pub edge : Contains s.edges (record { from = from; to = to })

-- Exactly these atoms become members with an edge to this one.
pub record Follows (old new : Found) (b : ℕ) (Is : ℕ → Type 0) : Type 0 where
  pub atoms : new.atoms ≡ old.atoms
  pub visited : new.visited ≡ old.visited
  pub members : Grows old.members new.members Is
  pub kept : (x y : ℕ) → HasEdge old x y → HasEdge new x y
  pub each : (a : ℕ) → Is a → HasEdge new a b
  pub only : (x y : ℕ) → HasEdge new x y → HasEdge old x y ⊎ (Is x × (y ≡ b))

-- The starts are members, and none was visited.
pub record IsStart (starts : List ℕ) (s : Found) : Type 0 where
  pub begun : (a : ℕ) → Contains starts a → Contains s.members a
  pub edges : s.edges ≡ []
  pub visited : s.visited ≡ 0

-- The starts are members, the edges are only between atoms of which it holds, and all of which it holds with a visited
-- member are there with their edges to it.
pub record IsExplored (Is : ℕ → ℕ → Type 0) (starts : List ℕ) (s : Found) : Type 0 where
  pub begun : (a : ℕ) → Contains starts a → Contains s.members a
  pub sound : (a b : ℕ) → HasEdge s a b → Is a b
  pub whole : (i b a : ℕ) → i < s.visited → slice_get s.members i ≡ Some b → Is a b → HasEdge s a b

-- One more member was visited.
pub record Visits (old new : Found) (Is : ℕ → ℕ → Type 0) : Type 0 where
  pub atoms : new.atoms ≡ old.atoms
  pub visited : new.visited ≡ old.visited + 1
  pub explored : (starts : List ℕ) → IsExplored Is starts old → IsExplored Is starts new

-- One of two searches visited one more member.
pub record Advances (old new : Found) (Is : ℕ → ℕ → Type 0) (other_old other_new : Found) (OtherIs : ℕ → ℕ → Type 0) : Type 0 where
  pub atoms : new.atoms ≡ old.atoms
  pub other_atoms : other_new.atoms ≡ other_old.atoms
  pub visited : new.visited + other_new.visited ≡ old.visited + other_old.visited + 1
  pub explored : (starts : List ℕ) → IsExplored Is starts old → IsExplored Is starts new
  pub other_explored : (starts : List ℕ) → IsExplored OtherIs starts other_old → IsExplored OtherIs starts other_new

-- Each member was visited.
pub record IsWhole (Is : ℕ → ℕ → Type 0) (starts : List ℕ) (s : Found) : Type 0 where
  pub found : IsFound s
  pub explored : IsExplored Is starts s
  pub each : s.visited ≡ length s.members

-- The members of a search with the numbers of the components that its edges join.
pub record AreNumbered (s : Found) (cone : Numbered) : Type 0 where
  pub members : cone.members ≡ s.members
  pub numbers : IsNumbering (length s.members) s.edges cone.numbers
