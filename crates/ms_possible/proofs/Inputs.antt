-- Inputs of a join, and their atoms.
use Rattle.std.proofs.Common.{◌≡◌, ℕ, List, refl}
use Rattle.std.specs.List.{Contains}
use Rattle.ms_join.specs.declared.ground_rule.Input.{Input}
use Rattle.ms_join.specs.Modules.{Join, IsInput}

-- an input in the list, of its atom
pub input_from : (j : Join) (i : Input) → Contains j.inputs i → IsInput j i.atom
input_from j i (k, within, is) = (k, i, within, is, refl)

-- the input of an atom
pub record InputOf (inputs : List Input) (a : ℕ) : Type 0 where
  pub input : Input
  pub there : Contains inputs input
  pub atom : input.atom ≡ a

pub input_of : (j : Join) (a : ℕ) → IsInput j a → InputOf j.inputs a
input_of j a (k, x, within, is, atom) = record { input = x; there = (k, within, is); atom = atom }
