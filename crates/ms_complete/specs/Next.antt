-- How a literal stands to the one before it.
use Rattle.std.specs.Prelude.{◌≡◌, ◌≢◌, Option, Some, None, ⊤}
use Rattle.ms_lits.specs.declared.lit.Lit.{Lit}
use Rattle.ms_complete.specs.declared.written.Next.{Next}
use Rattle.ms_complete.specs.declared.written.Next.TheVariants.{Greater, Equal, Opposite}

abbrev pub IsNext : Option Lit → Lit → Next → Type 0
IsNext None lit Greater = ⊤
IsNext None lit Equal = ⊥
IsNext None lit Opposite = ⊥
IsNext (Some last) lit Greater = last.var ≢ lit.var
IsNext (Some last) lit Equal = (last.var ≡ lit.var) × (last.truth ≡ lit.truth)
IsNext (Some last) lit Opposite = (last.var ≡ lit.var) × (last.truth ≢ lit.truth)
