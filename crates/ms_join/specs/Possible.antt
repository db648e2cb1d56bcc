-- Sets of atoms that stay possible for a join whatever its inputs are set to, and their cut to an earlier base.
-- Source: that an input may be in a set or not is after Oikarinen and Janhunen, "Modular equivalence for normal logic
-- programs" (2006), and the cut to the atoms of the lower part after Lifschitz and Turner, "Splitting a logic
-- program" (1994).
use Rattle.std.specs.Prelude.{ℕ, nat_lt, Bool, ◌&&◌, List, Some, None, map}
use Rattle.ms_join.specs.declared.ground_rule.Input.{Input}
use Rattle.ms_join.specs.AnswerSets.{IsAnswerSet}
use Rattle.ms_join.specs.Modules.{Join}

-- the inputs, where each is free
abbrev pub freed : List Input → List Input
freed inputs = map (λ i. record { atom = i.atom; value = None }) inputs

-- the inputs, where each has this value
abbrev pub valued : (ℕ → Bool) → List Input → List Input
valued values inputs = map (λ i. record { atom = i.atom; value = Some (values i.atom) }) inputs

-- Where all inputs are free, the set is an answer set of the join.
abbrev pub IsPossible : Join → (ℕ → Bool) → Type 0
IsPossible j set = IsAnswerSet (record { rules = j.rules; inputs = freed j.inputs }) set

-- Where the inputs have these values, the set is an answer set of the join.
abbrev pub IsAnswerUnder : Join → (ℕ → Bool) → (ℕ → Bool) → Type 0
IsAnswerUnder j values set = IsAnswerSet (record { rules = j.rules; inputs = valued values j.inputs }) set

-- the set without the atoms from this number on
abbrev pub cut : ℕ → (ℕ → Bool) → ℕ → Bool
cut n set a = nat_lt a n && set a
