-- The links from each atom, each of which knows the one before it: the place after that, or 0.
use Rattle.std.specs.Prelude.{ℕ, ◌≡◌, ◌+◌, ◌<◌, ◌≤◌, List, Option, Some, None, length}
use Rattle.std.specs.List.{slice_index_or}
use Rattle.ms_cone.specs.declared.links.Chain.{Chain}
use Rattle.ms_cone.specs.declared.links.Link.{Link}
use Rattle.ms_cone.specs.Links.{Leads}

abbrev pub last_of : Option Chain → ℕ
last_of (Some chain) = chain.last
last_of None = 0

-- the place after the last link from the atom among the first so many, or 0 where there is none
pub record IsLast (links : List Link) (atom count place : ℕ) : Type 0 where
  pub within : place ≤ count
  pub found : (k : ℕ) (d : Link) → place ≡ k + 1 → (slice_index_or links k d).from ≡ atom
  pub others : (k : ℕ) (d : Link) → place ≤ k → k < count → (slice_index_or links k d).from ≡ atom → ⊥

-- Each atom knows its last link, and each link the one before it.
pub record AreChained (links : List Link) (chains : ℕ → Option Chain) : Type 0 where
  pub of_atoms : (atom : ℕ) → IsLast links atom (length links) (last_of (chains atom))
  pub of_links : (k : ℕ) (d : Link) → k < length links → IsLast links (slice_index_or links k d).from k (slice_index_or links k d).before

-- a link leads from the one atom to the other from this place on
pub record IsLinkedFrom (links : List Link) (start a b : ℕ) : Type 0 where
  pub place : ℕ
  pub after : start ≤ place
  pub within : place < length links
  pub is : (d : Link) → Leads a b (slice_index_or links place d)
