-- What the search relies on of a theory.
use Rattle.std.specs.Prelude.{ℕ, ◌≡◌, ◌<◌, ◌⊎◌, ◌↔◌, Bool, List, Some, All, AllPairs, take, length}
use Rattle.ms_lits.specs.declared.lit.Lit.{Lit}
use Rattle.ms_lits.specs.declared.trail.Entry.{Entry}
use Rattle.ms_lits.specs.Assignment.{value_in, IsWholeIn, IsUnitIn}
use Rattle.ms_nogood.specs.declared.theory.Verdict.{Verdict}
use Rattle.ms_nogood.specs.declared.theory.Verdict.TheVariants.{Quiet, Nogood}

-- Each of so many variables has its truth of the total assignment in the entries.
abbrev pub IsTotal : ℕ → List Entry → (ℕ → Bool) → Type 0
IsTotal vars entries total = (var : ℕ) → var < vars → value_in entries var ≡ Some (total var)

-- The total assignment contains the literals.
abbrev pub HasAll : (ℕ → Bool) → List Lit → Type 0
HasAll total lits = All (λ lit. total lit.var ≡ lit.truth) lits

-- The variables of the literals rise, so they are different.
abbrev pub AreRising : List Lit → Type 0
AreRising lits = AllPairs (λ l m. l.var < m.var) lits

-- The entries begin with these.
abbrev pub BeginWith : List Entry → List Entry → Type 0
BeginWith entries front = front ≡ take (length front) entries

-- The same holds of both.
abbrev pub Agree : {X : Type 0} → (X → Type 0) → (X → Type 0) → Type 0
Agree {X} P Q = (x : X) → P x ↔ Q x

-- All of the literals hold but one, which is unassigned.
pub record HasOpen (entries : List Entry) (lits : List Lit) : Type 0 where
  pub lit : Lit
  pub unit : IsUnitIn entries lits lit

module _ (Settled : List Entry → Type 0) (Gives : List Lit → Type 0) (vars : ℕ) where
  -- The theory gives the nogood, and it is violated or unit in the entries. Its variables rise and are among those of
  -- the theory.
  pub record IsTheoryNogood (entries : List Entry) (lits : List Lit) : Type 0 where
    pub given : Gives lits
    pub violated_or_unit : IsWholeIn entries lits ⊎ HasOpen entries lits
    pub within : All (λ lit. lit.var < vars) lits
    pub rising : AreRising lits

  -- What a check answers of the entries of a trail.
  abbrev pub Judges : List Entry → Verdict → Type 0
  Judges entries Quiet = Settled entries
  Judges entries (Nogood lits) = IsTheoryNogood entries lits
