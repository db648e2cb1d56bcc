-- What the crate finds of a line, in the words of the script's definitions.
use Rattle.std.specs.Prelude.{◌≡◌, ℕ, List, ◌∷◌}
use Rattle.ms_call.specs.Lines.{is_space, skipped, IsBlank, OpensText, IsCommand, IsBad}
use Rattle.ms_lines.specs.declared.kinds.LineKind.{LineKind}
use Rattle.ms_lines.specs.declared.kinds.LineKind.TheVariants.{Passed, OpensText as opens_text, Command as is_command, Bad}

abbrev pub IsKind : List ℕ → LineKind → Type 0
IsKind line Passed = IsBlank line
IsKind line opens_text = OpensText line
IsKind line (is_command command) = IsCommand line command
IsKind line Bad = IsBad line

-- no at sign stands behind the spaces and tabs at the front
abbrev pub HasNoSign : List ℕ → Type 0
HasNoSign line = (after : List ℕ) → skipped is_space line ≡ 64 ∷ after → ⊥
