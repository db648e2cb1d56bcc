-- The order of the literals of a line, by numbers.
use Rattle.std.specs.Prelude.{ℕ, ◌+◌, ◌*◌, if◌then◌else◌}
use Rattle.ms_lits.specs.declared.lit.Lit.{Lit}

-- a number by which they rise
abbrev pub line_place : Lit → ℕ
line_place lit = (if lit.truth then 2 * lit.var else 2 * lit.var + 1)
