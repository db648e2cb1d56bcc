-- What the text of a function with arguments ends with.
use Rattle.std.specs.Prelude.{ℕ, List, [], ◌∷◌}
use Rattle.ms_term.specs.declared.text.Closing.{Closing}
use Rattle.ms_term.specs.declared.text.Closing.TheVariants.{Plain, OfOne}

abbrev pub closing_bytes : Closing → List ℕ
closing_bytes Plain = 41 ∷ []
closing_bytes OfOne = 44 ∷ 41 ∷ []
