-- The minuses before a part, one by one.
use Rattle.std.proofs.Common.{◌≡◌, ℕ, zero, suc, ◌-◌, ◌<◌, Some, ap, ◌∙◌, sym, arith}
use Rattle.std.specs.Option.{option_and_then}
use Rattle.ms_grammar.specs.declared.term.TextTerm.{Neg}
use Rattle.ms_grammar.specs.declared.part.Part.{Part}
use Rattle.ms_grammar.specs.Terms.{round}
use Rattle.ms_read_term.specs.Closing.{negated}

-- the innermost minus
pub negated_first : (m : ℕ) (p q : Part) → 0 < m → round Neg p ≡ Some q → negated (m - 1) q ≡ negated m p
negated_first zero p q h e = absurd (omega arith)
negated_first (suc m) p q h e = let one : suc m - 1 ≡ m = omega arith in ap (λ n. negated n q) one ∙ sym (ap (option_and_then (negated m)) e)
