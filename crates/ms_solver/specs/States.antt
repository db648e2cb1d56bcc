-- What a solver keeps, and when that is what a join asks for.
use Rattle.std.specs.Prelude.{ℕ, ◌≡◌, ◌<◌, ◌∷◌, [], List, Option, Some, None, All, length, slice_get}
use Rattle.ms_lits.specs.Literals.{Nogood}
use Rattle.ms_nogood.specs.Store.{AreKept, Store, slot_at}
use Rattle.ms_join.specs.declared.ground_module.GroundModule.{GroundModule}
use Rattle.ms_join.specs.Composability.{IsComposable}
use Rattle.ms_join.specs.Modules.{Join, IsInput, IsJoin, IsJoined, IsReleased, IsWellFormed}
use Rattle.ms_join.specs.Things.{Thing}
use Rattle.ms_join.specs.Things.Thing.{atom}
use Rattle.ms_things.specs.Consequences.{IsConsequence}
use Rattle.ms_complete.specs.Completing.{AreOf}
use Rattle.ms_complete.specs.Numbering.{Numbering}
use Rattle.ms_complete.specs.Rules.{holds}
use Rattle.ms_search.specs.Problems.{AreLasting, kept_nogoods}
use Rattle.ms_search.specs.Runs.{Resting}
use Rattle.ms_unfound.specs.Parts.{Known}
use Rattle.ms_unfound.specs.Taking.{AreLoopsOf}
use Rattle.ms_problem.specs.Numbered.{AreNumbers}

-- What is kept of a join: the store of nogoods, the declared things, what is kept of loops, the number of each atom, and for
-- each atom the key of the nogood that sleeps for it, where there is one.
pub record Knowledge : Type 0 where
  pub store : Store
  pub numbering : Numbering
  pub loops : Known
  pub atoms : List ℕ
  pub sleepers : List (Option ℕ)

-- That, and the search between its runs, by a way of propagating.
pub record State (P : Type 0) : Type 0 where
  pub knows : Knowledge
  pub search : Resting P

-- the nogoods that are kept from solve to solve
abbrev pub kept_of : Knowledge → List Nogood
kept_of s = kept_nogoods s.store

-- The nogood that makes the atom false, which has this key, is asleep.
pub record HasSleeper (things : List Thing) (store : Store) (sleepers : List (Option ℕ)) (a : ℕ) : Type 0 where
  pub key : ℕ
  pub at : slice_get sleepers a ≡ Some (Some key)
  pub number : ℕ
  pub thing : slice_get things number ≡ Some (atom a)
  pub asleep : slot_at store key ≡ Some (record { lits = holds number ∷ []; kind = None })

-- The nogood is over these things, and no set that is possible contains it, whatever the inputs are.
pub record IsLasting (j : Join) (things : List Thing) (nogood : Nogood) : Type 0 where
  pub within : All (λ lit. lit.var < length things) nogood
  pub consequence : IsConsequence j things nogood

-- The things are those of the join. The nogoods of the program are exactly its completion nogoods, its loop nogoods are
-- given, each other one that isn't asleep is kept, the kept ones are consequences, and one sleeps for each input.
pub record Serves (s : Knowledge) (j : Join) : Type 0 where
  pub join : IsJoin j
  pub of : AreOf j s.numbering.things s.store
  pub loops : AreLoopsOf j s.numbering.things s.loops
  pub lasting : AreLasting s.store
  pub order : AreKept s.store.slots s.store.kept
  pub kept : All (IsLasting j s.numbering.things) (kept_of s)
  pub sleepers : (a : ℕ) → IsInput j a → HasSleeper s.numbering.things s.store s.sleepers a
  pub named : length s.numbering.names ≡ j.atoms
  pub places : length s.sleepers ≡ j.atoms
  pub atoms : AreNumbers s.numbering.things j.atoms s.atoms

-- It serves a join over which the module is well formed.
pub record CanExtend (s : Knowledge) (m : GroundModule) : Type 0 where
  pub join : Join
  pub serves : Serves s join
  pub well_formed : IsWellFormed join.atoms m

-- The module can be joined to the one join, and the other is the join with it.
pub record Joins (old : Join) (m : GroundModule) (new : Join) : Type 0 where
  pub well_formed : IsWellFormed old.atoms m
  pub composable : IsComposable old m
  pub joined : IsJoined old m new
  pub join : IsJoin new

-- It serves a join of which the atom is an input.
pub record CanRelease (s : Knowledge) (a : ℕ) : Type 0 where
  pub join : Join
  pub serves : Serves s join
  pub input : IsInput join a

-- The atom is an input of the one join, and the other is what the join is after its release.
pub record Releases (old : Join) (a : ℕ) (new : Join) : Type 0 where
  pub input : IsInput old a
  pub released : IsReleased old a new
  pub join : IsJoin new
