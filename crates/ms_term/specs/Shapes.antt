-- A term as its parts, which are lent.
use Rattle.std.specs.Prelude.{◌≡◌, ℕ, List, ⊤}
use Rattle.ms_tree.specs.Tree.{Tree, number, text, function}
use Rattle.ms_tree.specs.Size.{tree_size}
use Rattle.ms_term.specs.declared.shape.Shape.{Shape}
use Rattle.ms_term.specs.declared.shape.Shape.TheVariants.{Number, Text, Function}
use Rattle.ms_term.specs.Terms.{term_at, terms_at, held, AllBelow}

abbrev pub shape_tree : List Tree → Shape → Tree
shape_tree ts (Number n) = number n
shape_tree ts (Text bytes) = text bytes.now
shape_tree ts (Function name arguments size) = function name.now (terms_at ts arguments.now)

abbrev pub shape_size : Shape → ℕ
shape_size (Number n) = 1
shape_size (Text bytes) = 1
shape_size (Function name arguments size) = size

abbrev pub ShapeBelow : ℕ → Shape → Type 0
ShapeBelow n (Number k) = ⊤
ShapeBelow n (Text bytes) = ⊤
ShapeBelow n (Function name arguments size) = AllBelow n arguments.now

-- these are the parts of the term that i names
pub record IsShapeOf (ts : List Tree) (i : ℕ) (s : Shape) : Type 0 where
  pub is : term_at ts i ≡ shape_tree ts s
  pub below : ShapeBelow i s
  pub size : shape_size s ≡ held (tree_size (shape_tree ts s))
