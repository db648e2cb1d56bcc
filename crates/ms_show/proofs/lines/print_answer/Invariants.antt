use Rattle.std.proofs.Common.{◌≡◌, ◌∷◌, ◌++◌, codes, map, take}
use Rattle.std.specs.List.{flat_map}
use Rattle.ms_tree.specs.Text.{tree_text}
use Rattle.ms_term.specs.Terms.{term_at}
use Rattle.ms_show.proofs.lines.print_answer.Given as goal

-- the atoms so far stand in the line
abbrev pub invariant-loop-atom : goal.invariant-loop-atom
invariant-loop-atom l =
    l.into.items ≡ (l.fn.into.items ++ codes "answer:") ++ flat_map (λ t. 32 ∷ tree_text t) (map (term_at l.terms) (take l.atom-index l.atoms))
