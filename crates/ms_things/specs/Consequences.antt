-- What holds in every set that is possible for a join.
use Rattle.std.specs.Prelude.{ℕ, Bool, List}
use Rattle.ms_lits.specs.Literals.{Nogood}
use Rattle.ms_join.specs.Modules.{Join}
use Rattle.ms_join.specs.Possible.{IsPossible}
use Rattle.ms_join.specs.Things.{Thing}
use Rattle.ms_things.specs.Numbers.{ext}
use Rattle.ms_things.specs.Signs.{IsContainedIn}

-- No set that is possible, whatever the inputs are, contains the nogood.
abbrev pub IsConsequence : Join → List Thing → Nogood → Type 0
IsConsequence j things nogood = (set : ℕ → Bool) → IsPossible j set → ¬ IsContainedIn (ext set things) nogood
