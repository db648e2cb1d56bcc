-- The integers between the ends of a range.
use Rattle.std.proofs.Common.{◌≡◌, ℤ, ◌<ℤ◌, [], Option, Some, None, refl, sym, ap, ◌∙◌}
use Rattle.ms_grammar.specs.Terms.{both}
use Rattle.ms_copies.specs.InOrder.{integers, integers_between}
use Rattle.ms_copies.proofs.Integers.{integers_none}

abbrev pub two_ends : Option ℤ → Option ℤ → Option (ℤ × ℤ)
two_ends a b = both (λ low high. Some (low, high)) a b

pub no_span : (a b : Option ℤ) (r : Option (ℤ × ℤ)) → r ≡ two_ends a b → r ≡ None → integers_between a b ≡ []
no_span (Some l) (Some h) r e f = cc
no_span (Some l) None r e f = refl
no_span None b r e f = refl

pub a_span : (a b : Option ℤ) (r : Option (ℤ × ℤ)) (s : ℤ × ℤ) → r ≡ two_ends a b → r ≡ Some s → integers_between a b ≡ integers s.0 s.1
a_span (Some l) (Some h) r s e f = ap (λ o. elim o [ Some p ↦ integers p.0 p.1 | None ↦ [] ]) (sym e ∙ f)
a_span (Some l) None r s e f = cc
a_span None b r s e f = cc

pub empty_span : (a b : Option ℤ) (r : Option (ℤ × ℤ)) (s : ℤ × ℤ) → r ≡ two_ends a b → r ≡ Some s → s.1 <ℤ s.0 → integers_between a b ≡ []
empty_span a b r s e f less = a_span a b r s e f ∙ integers_none s.0 s.1 less
