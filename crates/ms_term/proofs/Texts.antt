-- What the text of a function with arguments ends with.
use Rattle.std.proofs.Common.{◌≡◌, ℕ, ◌<◌, List, [], ◌∷◌, length, refl, arith}
use Rattle.ms_tree.specs.Tree.{Tree, Trees, no_tree, tree}
use Rattle.ms_tree.specs.Text.{closing_text}
use Rattle.ms_term.specs.Terms.{terms_at}

pub closing_text-named : (f : List ℕ) (ts : Trees) → 0 < length f → 41 ∷ [] ≡ closing_text f ts
closing_text-named [] ts h = absurd (omega arith)
closing_text-named (c ∷ f) no_tree h = refl
closing_text-named (c ∷ f) (tree t ts) h = refl

pub closing_text-more : (ts : List Tree) (is : List ℕ) → 0 < length is → 41 ∷ [] ≡ closing_text [] (terms_at ts is)
closing_text-more ts [] h = absurd (omega arith)
closing_text-more ts (i ∷ is) h = refl
