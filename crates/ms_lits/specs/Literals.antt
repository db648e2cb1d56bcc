-- Literals, nogoods and their unit closure. A set of literals is a test.
-- Source: Gebser, Kaufmann and Schaub, "Conflict-driven answer set solving: from theory to practice" (2012).
use Rattle.std.specs.Prelude.{◌≡◌, ◌⊎◌, Bool, false, not, IsTrue, List, All, Contains}
use Rattle.ms_lits.specs.declared.lit.Lit.{Lit}

-- the literal that holds where this one doesn't
abbrev pub opposite_of : Lit → Lit
opposite_of lit = record { var = lit.var; truth = not lit.truth }

-- A nogood: literals of which not all may hold.
abbrev pub Nogood : Type 0
Nogood = List Lit

-- the first contains the second
abbrev pub IsContained : Nogood → Nogood → Type 0
IsContained nogood small = All (λ lit. Contains nogood lit) small

-- each literal of the nogood is in the set
abbrev pub IsWhole : (Lit → Bool) → Nogood → Type 0
IsWhole set nogood = All (λ lit. IsTrue (set lit)) nogood

-- The nogood forces the opposite of one of its literals: each of its literals is that one, or is in the set.
pub record Forces (set : Lit → Bool) (nogood : Nogood) (lit : Lit) : Type 0 where
  pub contained : Contains nogood lit
  pub others : All (λ other. (other ≡ lit) ⊎ IsTrue (set other)) nogood

-- The set holds each literal that one of the nogoods forces from it. Here and below nogoods are given by what holds of
-- each of them.
abbrev pub IsClosed : (Nogood → Type 0) → (Lit → Bool) → Type 0
IsClosed Among set = (nogood : Nogood) → Among nogood → (lit : Lit) → Forces set nogood lit → IsTrue (set (opposite_of lit))

-- A literal is in the unit closure: it is in every closed set that holds the start.
abbrev pub IsDerived : (Nogood → Type 0) → List Lit → Lit → Type 0
IsDerived Among start lit = (set : Lit → Bool) → IsWhole set start → IsClosed Among set → IsTrue (set lit)

-- A whole nogood of a set.
pub record HasWhole (Among : Nogood → Type 0) (set : Lit → Bool) : Type 0 where
  pub nogood : Nogood
  pub among : Among nogood
  pub whole : IsWhole set nogood

-- Both signs of one thing in a set.
pub record HasBothSigns (set : Lit → Bool) : Type 0 where
  pub lit : Lit
  pub holds : IsTrue (set lit)
  pub opposite : IsTrue (set (opposite_of lit))

-- The start is refuted with the nogoods: every closed set that holds it has a whole nogood or both signs of
-- a thing.
abbrev pub IsRefuted : (Nogood → Type 0) → List Lit → Type 0
IsRefuted Among start = (set : Lit → Bool) → IsWhole set start → IsClosed Among set → HasWhole Among set ⊎ HasBothSigns set

-- A nogood brings something new at one of its literals: a closed set holds its other literals, has no whole
-- nogood and no two signs of a thing, and lacks the opposite of that literal.
pub record IsNew (Among : Nogood → Type 0) (nogood : Nogood) : Type 0 where
  pub lit : Lit
  pub contained : Contains nogood lit
  pub set : Lit → Bool
  pub others : All (λ other. (other ≡ lit) ⊎ IsTrue (set other)) nogood
  pub closed : IsClosed Among set
  pub none_whole : ¬ HasWhole Among set
  pub one_sign : ¬ HasBothSigns set
  pub lacks : set (opposite_of lit) ≡ false
