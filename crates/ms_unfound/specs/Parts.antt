-- What the theory keeps of the modules of a join: the atoms of their cyclic components, by the variables that these have,
-- and the rules with these atoms as heads.
use Rattle.std.specs.Prelude.{ℕ, ◌≡◌, ◌≢◌, ◌<◌, List, All, length, slice_index}
use Rattle.ms_lits.specs.declared.trail.Entry.{Entry}
use Rattle.ms_unfound.specs.declared.part.Support.{Support}
use Rattle.ms_unfound.specs.declared.part.Part.{Part}

-- The number of variables, a part for each module with a cyclic component, and the entries of a trail that have been seen.
pub record Known : Type 0 where
  pub vars : ℕ
  pub parts : List Part
  pub seen : List Entry

-- the atoms in two places are in one component
abbrev pub AreInOne : Part → ℕ → ℕ → Type 0
AreInOne part i k = slice_index part.numbers i ≡ slice_index part.numbers k

-- The head has a place, each inner atom has one and is in the component of the head, and the body is no atom.
pub record IsSupport (vars : ℕ) (part : Part) (s : Support) : Type 0 where
  pub head : s.head < length part.atoms
  pub body : s.body < vars
  pub apart : All (λ var. var ≢ s.body) part.atoms
  pub inner : All (λ i. i < length part.atoms) s.inner
  pub together : All (λ i. AreInOne part i s.head) s.inner

pub record IsPart (vars : ℕ) (part : Part) : Type 0 where
  pub numbered : length part.numbers ≡ length part.atoms
  pub atoms : All (λ var. var < vars) part.atoms
  pub supports : All (IsSupport vars part) part.supports
