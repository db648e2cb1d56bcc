-- Which atoms are shown.
use Rattle.std.specs.Prelude.{Bool, false}
use Rattle.ms_tree.specs.Tree.{Tree, number, text as string, function, tree_count}
use Rattle.ms_core.specs.Texts.{Texts, shows}

-- an atom is shown by its name and the number of its arguments
abbrev pub shows_atom : Texts → Tree → Bool
shows_atom texts (function f ts) = shows texts f (tree_count ts)
shows_atom texts (number n) = false
shows_atom texts (string s) = false
