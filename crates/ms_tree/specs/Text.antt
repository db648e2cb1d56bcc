-- The text of ground terms, as ASP-Core-2 writes them, with the tuples of clingo.
use Rattle.std.specs.Prelude.{ℕ, List, [], ◌∷◌, ◌++◌, if◌then◌else◌, ◌==◌}
use Rattle.std.specs.Fmt.{signed_decimal}
use Rattle.ms_tree.specs.Tree.{Tree, number, text, function, Trees, no_tree, tree}

-- a byte of a string: quote, backslash and line end are escaped
abbrev pub escaped_byte : ℕ → List ℕ
escaped_byte b =
    if b == 34 then (92 ∷ 34 ∷ []) else
    (if b == 92 then (92 ∷ 92 ∷ []) else (if b == 10 then (92 ∷ 110 ∷ []) else (b ∷ [])))

abbrev pub escaped : List ℕ → List ℕ
escaped [] = []
escaped (b ∷ bs) = escaped_byte b ++ escaped bs

-- what a function without arguments has after its name: the empty tuple has parentheses
abbrev pub no_arguments_text : List ℕ → List ℕ
no_arguments_text [] = 40 ∷ 41 ∷ []
no_arguments_text (c ∷ f) = []

-- what a function with these arguments after the first one ends with: a tuple of one has a `,` there
abbrev pub closing_text : List ℕ → Trees → List ℕ
closing_text [] no_tree = 44 ∷ 41 ∷ []
closing_text [] (tree t ts) = 41 ∷ []
closing_text (c ∷ f) no_tree = 41 ∷ []
closing_text (c ∷ f) (tree t ts) = 41 ∷ []

abbrev mutual
  -- an integer is decimal with a leading `-` where negative, and a string stands in double quotes
  pub tree_text : Tree → List ℕ
  tree_text (number n) = signed_decimal n
  tree_text (text s) = 34 ∷ (escaped s ++ 34 ∷ [])
  tree_text (function f ts) = f ++ arguments_text f ts

  -- the arguments in parentheses, separated by `,`
  pub arguments_text : List ℕ → Trees → List ℕ
  arguments_text f no_tree = no_arguments_text f
  arguments_text f (tree t ts) = 40 ∷ (tree_text t ++ (after_text ts ++ closing_text f ts))

  -- each argument after a `,`
  pub after_text : Trees → List ℕ
  after_text no_tree = []
  after_text (tree t ts) = 44 ∷ (tree_text t ++ after_text ts)
