-- What is possible after inputs changed.
use Rattle.std.proofs.Common.{ℕ, Bool, Option, sym, subst}
use Rattle.std.specs.Prelude.{◌↔◌}
use Rattle.ms_base.specs.declared.truth.Effect.{Effect}
use Rattle.ms_base.specs.declared.truth.Effect.TheVariants.{Done, NoEffect}
use Rattle.ms_join.specs.Modules.{Join}
use Rattle.ms_join.specs.Possible.{IsPossible}
use Rattle.ms_possible.proofs.FreeSets.{assigned_keeps, released_keeps}
use Rattle.ms_module.specs.Inputs.{Assigns, Releases}

pub possible_assigned : (old new : Join) (a : ℕ) (value : Option Bool) (effect : Effect) → Assigns old a value new effect → (set : ℕ → Bool) → IsPossible old set ↔ IsPossible new set
possible_assigned old new a value Done is set = assigned_keeps old new a value set is.1
possible_assigned old new a value NoEffect is set = subst (λ (j : Join). IsPossible old set ↔ IsPossible j set) (sym is.1) (λ possible. possible, λ possible. possible)

pub possible_released : (old new : Join) (a : ℕ) (effect : Effect) → Releases old a new effect → (set : ℕ → Bool) → IsPossible new set → IsPossible old set
possible_released old new a Done is set possible = released_keeps old new a set is.1 possible
possible_released old new a NoEffect is set possible = subst (λ (j : Join). IsPossible j set) is.1 possible
