-- The lines of a listing.
use Rattle.std.specs.Prelude.{ℕ, List, [], ◌∷◌, ◌++◌, codes}
use Rattle.std.specs.List.{flat_map}
use Rattle.ms_tree.specs.Tree.{Tree}
use Rattle.ms_tree.specs.Text.{tree_text}

-- a text with its line end
abbrev pub line : List ℕ → List ℕ
line text = text ++ 10 ∷ []

-- the shown atoms of one answer set
abbrev pub answer_line : List Tree → List ℕ
answer_line shown = line (codes "answer:" ++ flat_map (λ t. 32 ∷ tree_text t) shown)
