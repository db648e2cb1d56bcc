-- The things and the nogoods of the program are those of a join from the start on, and stay so where an input is assigned or
-- released. A released atom is an output without a rule.
use Rattle.std.specs.Prelude.{ℕ, ◌≡◌, Bool, List, [], ◌∷◌, Option, Some, None}
use Rattle.ms_lits.specs.declared.lit.Lit.{Lit}
use Rattle.ms_nogood.specs.Store.{Store, Wakes, slot_at}
use Rattle.ms_join.specs.Modules.{Join, IsAssigned, IsInput, IsJoin, IsReleased, no_join}
use Rattle.ms_join.specs.Things.{Thing}
use Rattle.ms_join.specs.Things.Thing.{atom}
use Rattle.ms_things.specs.Signs.{IsFor, plus}
use Rattle.ms_complete.specs.Completing.{AreOf}

-- No things and an empty store are those of the join of no modules.
abbrev pub StartCompletes : Type 0
StartCompletes = (store : Store) → ((key : ℕ) → slot_at store key ≡ None) → AreOf no_join [] store

-- Assigning changes nothing of them.
abbrev pub AssignCompletes : Type 0
AssignCompletes = (j assigned : Join) (a : ℕ) (value : Option Bool) (things : List Thing) (store : Store) → IsAssigned j a value assigned → AreOf j things store → AreOf assigned things store

-- The key has the nogood that the atom is true, and it is asleep.
pub record IsHeldFor (things : List Thing) (a : ℕ) (store : Store) (key : ℕ) : Type 0 where
  pub lit : Lit
  pub says : IsFor things (plus (atom a)) lit
  pub asleep : slot_at store key ≡ Some (record { lits = lit ∷ []; kind = None })

-- Where an input is released and the nogood that it is true is woken, the nogoods of the program are again the completion
-- nogoods of the join.
abbrev pub ReleaseCompletes : Type 0
ReleaseCompletes =
    (j released : Join) (a key : ℕ) (things : List Thing) (store after : Store) → IsJoin j → IsInput j a → IsReleased j a released → AreOf j things store
    → IsHeldFor things a store key → Wakes store after key → AreOf released things after
