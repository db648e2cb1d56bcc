-- The turns of a loop that grows a program step by step.
-- Source: the incremental mode of clingo (incmode), whose constants are `imin`, `imax` and `istop`.
use Rattle.std.specs.Prelude.{ℕ, suc, ◌<◌, ◌==◌, nat_lt, ℤ, pos, int_lt, Bool, true, false, not, ◌&&◌, ◌||◌, cond, IsTrue, List, [], ◌∷◌, length, Option, Some, None, slice_get, IsSomeAnd}
use Rattle.ms_inc.specs.declared.turn.Outcome.{Outcome}
use Rattle.ms_inc.specs.declared.turn.Outcome.TheVariants.{Sat, Unsat, Unknown}
use Rattle.ms_inc.specs.declared.turn.Last.{Last}
use Rattle.ms_inc.specs.declared.turn.Last.TheVariants.{Start, Ended, Refused}
use Rattle.ms_inc.specs.declared.turn.Turn.{Turn}

-- The constants of a loop: so many turns are made however solves end, turns have numbers below `imax` where that is
-- given, and the loop stops where a solve ends as `istop` says.
pub record Plan : Type 0 where
  pub imin : ℤ
  pub imax : Option ℤ
  pub istop : Outcome

abbrev pub is_same : Outcome → Outcome → Bool
is_same Sat Sat = true
is_same Unsat Unsat = true
is_same Unknown Unknown = true
is_same outcome other = false

abbrev pub is_start : Last → Bool
is_start Start = true
is_start (Ended outcome) = false
is_start Refused = false

-- the turn is below the greatest number, where there is one
abbrev pub is_below : Option ℤ → ℕ → Bool
is_below None t = true
is_below (Some imax) t = int_lt (pos t) imax

-- Another turn is wanted after this: the first always, and a later one below `imin` or until a solve ends as it should.
-- None is wanted after a refusal.
abbrev pub is_wanted : Plan → ℕ → Last → Bool
is_wanted plan t Start = true
is_wanted plan t (Ended outcome) = int_lt (pos t) plan.imin || not (is_same outcome plan.istop)
is_wanted plan t Refused = false

-- turn t is made where the turn before it came to this
abbrev pub is_made : Plan → ℕ → Last → Bool
is_made plan t last = is_below plan.imax t && is_wanted plan t last

abbrev pub turn_of : ℕ → Turn
turn_of t = record { step = t }

-- the turns from this number on, where the loop is told this, up to the first that isn't made
unfoldable pub turns_from : Plan → ℕ → List Last → List Turn
turns_from plan t [] = []
turns_from plan t (last ∷ told) = cond (is_made plan t last) (turn_of t ∷ turns_from plan (suc t) told) []

-- The turns that a loop makes which is told this: before each turn what came of the one before.
abbrev pub turns : Plan → List Last → List Turn
turns plan told = turns_from plan 0 told

-- turn t is made, where all turns before it are
abbrev pub IsMadeIn : Plan → List Last → ℕ → Type 0
IsMadeIn plan told t = IsSomeAnd (slice_get told t) (λ last. IsTrue (is_made plan t last))

-- it was asked for more turns than it made
abbrev pub HasEnded : Plan → List Last → Type 0
HasEnded plan told = length (turns plan told) < length told

-- A loop: its constants, how many turns it has made, and whether it has ended.
pub record Loop : Type 0 where
  pub plan : Plan
  pub made : ℕ
  pub over : Bool

abbrev pub loop_of : ℤ → Option ℤ → Outcome → ℕ → Bool → Loop
loop_of imin imax istop made over = record { plan = record { imin = imin; imax = imax; istop = istop }; made = made; over = over }

-- the loop after it was told this
abbrev pub loop_after : Plan → List Last → Loop
loop_after plan told = record { plan = plan; made = length (turns plan told); over = nat_lt (length (turns plan told)) (length told) }

-- it was told nothing yet
abbrev pub is_fresh : Loop → Bool
is_fresh l = l.made == 0 && not l.over
