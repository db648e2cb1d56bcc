-- Sets as lists.
use Rattle.std.specs.Prelude.{◌<◌, List, [], ◌∷◌, All, AllPairs, Any, Contains}
use Rattle.std.specs.List.Sorted.{IsNonDecreasingBy}
use Rattle.ms_lits.specs.declared.lit.Lit.{Lit}
use Rattle.ms_lits.specs.Literals.{Nogood}

-- Each of one list stands for one of the other, and each of the other for one of it.
pub record Match {A B : Type 0} (R : A → B → Type 0) (ones : List A) (others : List B) : Type 0 where
  pub each : All (λ b. Any (λ a. R a b) ones) others
  pub all : All (λ a. Any (R a) others) ones

-- The nogood has exactly these literals, in rising order of their variables.
pub record Writes (lits : List Lit) (nogood : Nogood) : Type 0 where
  pub rising : AllPairs (λ lit next. lit.var < next.var) nogood
  pub each : All (Contains lits) nogood
  pub all : All (Contains nogood) lits

abbrev pub pair : Lit → Lit → List Lit
pair first second = first ∷ second ∷ []

-- they stand in the order of their variables
abbrev pub IsByVar : List Lit → Type 0
IsByVar lits = IsNonDecreasingBy (λ l. l.var) lits
