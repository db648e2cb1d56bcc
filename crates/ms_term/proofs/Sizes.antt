-- The size of a list of arguments, added up from the left.
use Rattle.std.proofs.Common.{◌≡◌, ℕ, ◌+◌, ◌^◌, ◌<◌, List, [], ◌∷◌, length, sym, ap, ◌∙◌, arith, add-zero}
use Rattle.ms_tree.specs.Tree.{Tree}
use Rattle.ms_tree.specs.Size.{sizes}
use Rattle.ms_term.specs.Terms.{terms_at, held}

held-low : (n : ℕ) → n < 2 ^ 64 → n ≡ held n
held-low n h = omega arith

-- with nothing left to add the sum is the size
pub size-whole : (ts : List Tree) (rest : List ℕ) (size all : ℕ) → length rest < 1 → size < 2 ^ 64
    → held (size + sizes (terms_at ts rest)) ≡ held all → size ≡ held all
size-whole ts [] size all h low e = held-low size low ∙ (ap (λ n. held n) (sym (add-zero size)) ∙ e)
size-whole ts (i ∷ rest) size all h low e = absurd (omega arith)
