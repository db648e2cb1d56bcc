-- Links from atoms to atoms.
use Rattle.std.specs.Prelude.{ℕ, ◌≡◌, ◌<◌, ◌⊎◌, List, All, Any}
use Rattle.ms_cone.specs.declared.links.Link.{Link}

-- the link leads from the one atom to the other
pub record Leads (a b : ℕ) (l : Link) : Type 0 where
  pub from : l.from ≡ a
  pub to : l.to ≡ b

abbrev pub IsLinked : List Link → ℕ → ℕ → Type 0
IsLinked links a b = Any (Leads a b) links

-- the links lead to atoms below the number
abbrev pub HaveEndsBelow : ℕ → List Link → Type 0
HaveEndsBelow atoms links = All (λ l. l.to < atoms) links

-- Links between the atoms of which it holds come to the others.
pub record AddsLinks (old new : List Link) (Is : ℕ → ℕ → Type 0) : Type 0 where
  pub kept : (a b : ℕ) → IsLinked old a b → IsLinked new a b
  pub each : (a b : ℕ) → Is a b → IsLinked new a b
  pub only : (a b : ℕ) → IsLinked new a b → IsLinked old a b ⊎ Is a b
