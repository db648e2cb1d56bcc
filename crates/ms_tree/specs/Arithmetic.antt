-- Arithmetic on integers of 64 bits. The signs are those of ASP-Core-2, and `\` is clingo's remainder.
-- That an operation is undefined where its result isn't within 64 bits is this project's own.
use Rattle.std.specs.Prelude.{◌≢◌, ℤ, pos, ◌+ℤ◌, ◌-ℤ◌, ◌*ℤ◌, int_div, int_rem, FitsSigned}
use Rattle.std.specs.Int.{w64}
use Rattle.ms_tree.specs.declared.op.Op.{Op}
use Rattle.ms_tree.specs.declared.op.Op.TheVariants.{Add, Sub, Mul, Div, Rem}

-- `/` goes toward zero, and `\` is what it leaves, with the sign of the dividend
abbrev pub value_of : Op → ℤ → ℤ → ℤ
value_of Add a b = a +ℤ b
value_of Sub a b = a -ℤ b
value_of Mul a b = a *ℤ b
value_of Div a b = int_div a b
value_of Rem a b = int_rem a b

-- the divisor isn't 0, and the result is within 64 bits. The operation `\` is defined where `/` is.
abbrev pub IsDefined : Op → ℤ → ℤ → Type 0
IsDefined Add a b = FitsSigned w64 (a +ℤ b)
IsDefined Sub a b = FitsSigned w64 (a -ℤ b)
IsDefined Mul a b = FitsSigned w64 (a *ℤ b)
IsDefined Div a b = (b ≢ pos 0) × FitsSigned w64 (int_div a b)
IsDefined Rem a b = (b ≢ pos 0) × FitsSigned w64 (int_div a b)
