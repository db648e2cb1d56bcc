-- What makers make where there are ranges before.
use Rattle.std.specs.Prelude.{◌≡◌, ℕ, ◌+◌, List, ◌++◌, length}
use Rattle.ms_core.specs.declared.rule.Range.{Range}
use Rattle.ms_core.specs.Ranges.{Maker}

-- The maker gives the value, and its ranges stand behind the old ones, the first of which has the number `first`.
pub record IsMade {T : Type 0} (make : Maker T) (first : ℕ) (old : List Range) (value : T) (new : List Range) : Type 0 where
  pub value_is : value ≡ (make (first + length old)).value
  pub ranges_are : new ≡ old ++ (make (first + length old)).ranges
