-- The definitions on small examples.
use Rattle.std.proofs.Common.{◌≡◌, pos, negsuc, Some, None, refl}
use Rattle.ms_tree.specs.declared.op.Op.TheVariants.{Add, Sub, Div, Rem}
use Rattle.ms_copies.specs.Evaluating.{operate, absolute}

-- `-7/2`, `-7\2` and `7/0`
toward_zero : operate Div (negsuc 6) (pos 2) ≡ Some (negsuc 2)
toward_zero = refl

with_sign_of_dividend : operate Rem (negsuc 6) (pos 2) ≡ Some (negsuc 0)
with_sign_of_dividend = refl

by_zero : operate Div (pos 7) (pos 0) ≡ None
by_zero = refl

-- one more than the greatest integer
past_64_bits : operate Add (pos 9223372036854775807) (pos 1) ≡ None
past_64_bits = refl

least_negated : operate Sub (pos 0) (negsuc 9223372036854775807) ≡ None
least_negated = refl

-- `|1-2|`
difference : absolute (negsuc 0) ≡ Some (pos 1)
difference = refl
