-- When the nogood of a solve may be dropped before the end of the solve.
use Rattle.std.specs.Prelude.{ℕ, ◌≡◌, ◌≢◌, true, List, Option, Some, None, All}
use Rattle.ms_lits.specs.declared.lit.Lit.{Lit}
use Rattle.ms_lits.specs.declared.trail.Entry.{Entry}
use Rattle.ms_lits.specs.Assignment.{entry_of}
use Rattle.ms_lits.specs.Literals.{IsContained, Nogood}
use Rattle.ms_nogood.specs.Store.{Store, Stored, ends, slot_at}

-- the reason of an entry, where there is one
abbrev pub reason_in : Option Entry → Option ℕ
reason_in None = None
reason_in (Some entry) = entry.reason

-- The literal's variable isn't assigned by the nogood of this key.
abbrev pub HasNoReason : List Entry → ℕ → Lit → Type 0
HasNoReason entries key lit = reason_in (entry_of entries lit.var) ≢ Some key

-- The key has another nogood of this solve that contains the newest one, and is the reason of none of its variables.
pub record IsNeedless (store : Store) (entries : List Entry) (newest : ℕ) (own : Nogood) (key : ℕ) : Type 0 where
  pub other : key ≢ newest
  pub ending : ends (slot_at store key) ≡ true
  pub stored : Stored
  pub found : slot_at store key ≡ Some stored
  pub contains : IsContained stored.lits own
  pub free : All (HasNoReason entries key) stored.lits
