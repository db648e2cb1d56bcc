-- The words of the program.
use Rattle.std.specs.Prelude.{◌≡◌, ◌⊎◌, List, [], ◌∷◌, map, codes, String}
use Rattle.std.specs.String.{string_bytes}
use Rattle.std.specs.declared.alloc.Global.{Global}

-- the word `run` alone
abbrev pub AreRun : List (String Global) → Type 0
AreRun words = map string_bytes words ≡ codes "run" ∷ []

-- the same behind the word `log`
abbrev pub AreLogRun : List (String Global) → Type 0
AreLogRun words = map string_bytes words ≡ codes "log" ∷ codes "run" ∷ []

abbrev pub AreRunWords : List (String Global) → Type 0
AreRunWords words = AreRun words ⊎ AreLogRun words
