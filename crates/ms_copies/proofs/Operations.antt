-- An operation has a result exactly where it is defined.
use Rattle.std.proofs.Common.{◌≡◌, ◌≢◌, ℤ, pos, negsuc, ◌^◌, Bool, true, false, not, ◌&&◌, Option, Some, None, refl, ap}
use Rattle.std.specs.Prelude.{SomeIff, FitsSigned, int_div, if◌then◌else◌}
use Rattle.std.specs.Int.{w64}
use Rattle.std.specs.Ordering.{int_eq}
use Rattle.std.proofs.lemmas.Bool.{and_parts}
use Rattle.std.proofs.lemmas.Bool.Decides.{Decides-int_eq, Decides-ltb}
use Rattle.ms_tree.specs.declared.op.Op.{Op}
use Rattle.ms_tree.specs.declared.op.Op.TheVariants.{Add, Sub, Mul, Div, Rem}
use Rattle.ms_tree.specs.Arithmetic.{value_of, IsDefined}
use Rattle.ms_copies.specs.Evaluating.{fits, is_defined, operate}

pub fits_from : (z : ℤ) → FitsSigned w64 z → fits z ≡ true
fits_from (pos n) h = (Decides-ltb n (2 ^ 63)).1 h.sfits
fits_from (negsuc n) h = (Decides-ltb n (2 ^ 63)).1 h.sfits

pub fits_to : (z : ℤ) → fits z ≡ true → FitsSigned w64 z
fits_to (pos n) e = record { sfits = (Decides-ltb n (2 ^ 63)).0 e }
fits_to (negsuc n) e = record { sfits = (Decides-ltb n (2 ^ 63)).0 e }

not_true : (b : Bool) → b ≢ true → not b ≡ true
not_true true h = absurd (h refl)
not_true false h = refl

both_true : (a b : Bool) → a ≡ true → b ≡ true → (a && b) ≡ true
both_true true true p q = refl
both_true true false p q = q
both_true false b p q = p

divisor_from : (b : ℤ) → b ≢ pos 0 → not (int_eq b (pos 0)) ≡ true
divisor_from b h = not_true (int_eq b (pos 0)) (λ e. h ((Decides-int_eq b (pos 0)).0 e))

divisor_to : (b : ℤ) → not (int_eq b (pos 0)) ≡ true → b ≢ pos 0
divisor_to b h e = let same : int_eq b (pos 0) ≡ true = (Decides-int_eq b (pos 0)).1 e in cc

-- the test says what makes an operation defined
pub defined_from : (op : Op) (a b : ℤ) → IsDefined op a b → is_defined op a b ≡ true
defined_from Add a b h = fits_from _ h
defined_from Sub a b h = fits_from _ h
defined_from Mul a b h = fits_from _ h
defined_from Div a b h = both_true _ _ (divisor_from b h.0) (fits_from (int_div a b) h.1)
defined_from Rem a b h = both_true _ _ (divisor_from b h.0) (fits_from (int_div a b) h.1)

pub defined_to : (op : Op) (a b : ℤ) → is_defined op a b ≡ true → IsDefined op a b
defined_to Add a b e = fits_to _ e
defined_to Sub a b e = fits_to _ e
defined_to Mul a b e = fits_to _ e
defined_to Div a b e = let parts = and_parts _ _ e in (divisor_to b parts.0, fits_to (int_div a b) parts.1)
defined_to Rem a b e = let parts = and_parts _ _ e in (divisor_to b parts.0, fits_to (int_div a b) parts.1)

result_by : (t : Bool) (v : ℤ) (r : Option ℤ) (P : Type 0) → (P → t ≡ true) → (t ≡ true → P) → SomeIff r P v → r ≡ (if t then Some v else None)
result_by true v (Some x) P from to h = ap Some h.1
result_by true v None P from to h = absurd (h (to refl))
result_by false v (Some x) P from to h = let yes : false ≡ true = from h.0 in cc
result_by false v None P from to h = refl

pub operation_result : (op : Op) (a b : ℤ) (r : Option ℤ) → SomeIff r (IsDefined op a b) (value_of op a b) → r ≡ operate op a b
operation_result op a b r h = result_by (is_defined op a b) (value_of op a b) r (IsDefined op a b) (defined_from op a b) (defined_to op a b) h
