-- What taking a module does to the declared things and to the nogoods of the program.
use Rattle.std.specs.Prelude.{◌≡◌, ◌++◌, List, All, Contains}
use Rattle.ms_nogood.specs.Store.{Store}
use Rattle.ms_join.specs.declared.ground_module.GroundModule.{GroundModule}
use Rattle.ms_join.specs.Modules.{Join, IsJoin, IsJoined, IsWellFormed}
use Rattle.ms_join.specs.Composability.{IsComposable}
use Rattle.ms_join.specs.Things.{Thing}
use Rattle.ms_things.specs.Numbers.{AreThings}
use Rattle.ms_things.specs.Completion.{IsCompletionNogood}
use Rattle.ms_complete.specs.Bases.{HasExactly, KeepsKeys}
use Rattle.ms_complete.specs.Numbering.{Numbering, IsFrom}

-- The things are those of the join, and the nogoods of the program its completion nogoods.
pub record AreOf (j : Join) (things : List Thing) (store : Store) : Type 0 where
  pub are : AreThings j things
  pub completion : HasExactly store (IsCompletionNogood j things)

-- The module can be joined to a join with these things, whose completion nogoods are those of the program.
pub record CanTake (j : Join) (things : List Thing) (store : Store) (m : GroundModule) : Type 0 where
  pub join : IsJoin j
  pub of : AreOf j things store
  pub well_formed : IsWellFormed j.atoms m
  pub composable : IsComposable j m

-- Things keep their numbers, and exactly those of the module are declared. Keys keep what they have, and only nogoods of the
-- program are added. Where the module can be joined, the things and the nogoods of the program become those of the new join.
pub record Completes (old : Numbering) (m : GroundModule) (store : Store) (new : Numbering) (after : Store) : Type 0 where
  pub more : List Thing
  pub things : new.things ≡ old.things ++ more
  pub from : All (IsFrom m) more
  pub all : (t : Thing) → IsFrom m t → Contains new.things t
  pub names : new.names ≡ old.names ++ m.names
  pub keeps : KeepsKeys store after
  pub completes : (j joined : Join) → CanTake j old.things store m → IsJoined j m joined → AreOf joined new.things after
