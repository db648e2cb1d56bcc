-- Sets of literals that are total, and trails whose lower levels are settled.
use Rattle.std.specs.Prelude.{ℕ, ◌≡◌, ◌<◌, ◌⊎◌, Bool, not, List, None, All, Contains, IsTrue, length, take}
use Rattle.std.specs.List.{slice_index_or}
use Rattle.ms_lits.specs.declared.lit.Lit.{Lit}
use Rattle.ms_lits.specs.declared.trail.Entry.{Entry}
use Rattle.ms_lits.specs.Literals.{IsContained, Nogood, opposite_of}
use Rattle.ms_lits.specs.Assignment.{up_to}
use Rattle.ms_nogood.specs.Store.{Store}
use Rattle.ms_nogood.specs.Propagation.{IsForced, IsSettled}

-- Of each variable exactly one literal is in the set.
abbrev pub IsTotalSet : (Lit → Bool) → Type 0
IsTotalSet set = (lit : Lit) → set (opposite_of lit) ≡ not (set lit)

-- The resolvent has the literals of the first but one, and those of the second but the opposite of that one.
pub record Resolves (first second : Nogood) (lit : Lit) (resolvent : Nogood) : Type 0 where
  pub in_second : Contains second (opposite_of lit)
  pub from_first : All (λ other. (other ≡ lit) ⊎ Contains resolvent other) first
  pub from_second : All (λ other. (other ≡ opposite_of lit) ⊎ Contains resolvent other) second

-- The literals up to each level below this one are settled.
abbrev pub AreClosedPrefixes : Store → ℕ → List Entry → Type 0
AreClosedPrefixes store level entries = (lower : ℕ) → lower < level → IsSettled store (up_to lower entries)

-- the nogoods that pass a test
abbrev pub Passes : (Nogood → Bool) → Nogood → Type 0
Passes test nogood = IsTrue (test nogood)

-- The nogood contains one of these.
pub record ContainsOne (Among : Nogood → Type 0) (nogood : Nogood) : Type 0 where
  pub small : Nogood
  pub among : Among small
  pub contained : IsContained nogood small

-- Each entry has no reason, or its reason is a nogood of the store that was unit in the entries before it.
abbrev pub AreReasoned : Store → List Entry → Type 0
AreReasoned store entries = (i : ℕ) (d : Entry) → i < length entries → ((slice_index_or entries i d).reason ≡ None) ⊎ IsForced store (slice_index_or entries i d).level (take i entries) (slice_index_or entries i d)

-- The literals of the entries without a reason are among these.
abbrev pub AreDecided : List Lit → List Entry → Type 0
AreDecided start entries = (i : ℕ) (d : Entry) → i < length entries → (slice_index_or entries i d).reason ≡ None → Contains start (slice_index_or entries i d).lit
