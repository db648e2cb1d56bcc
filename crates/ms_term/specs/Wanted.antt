-- Which node a look-up is for.
use Rattle.std.specs.Prelude.{Bool, false, ◌&&◌, nat_eq}
use Rattle.std.specs.Ordering.{int_eq}
use Rattle.std.specs.Cmp.Lexicographic.{pointwise}
use Rattle.ms_term.specs.declared.node.Node.{Node}
use Rattle.ms_term.specs.declared.node.Node.TheVariants as node
use Rattle.ms_term.specs.declared.wanted.Wanted.{Wanted}
use Rattle.ms_term.specs.declared.wanted.Wanted.TheVariants.{Number, Text, Function}

abbrev pub matches : Wanted → Node → Bool
matches (Number m) (node.Number n) = int_eq m n
matches (Number m) (node.Text w) = false
matches (Number m) (node.Function g ys l) = false
matches (Text v) (node.Number n) = false
matches (Text v) (node.Text w) = nat_eq v w
matches (Text v) (node.Function g ys l) = false
matches (Function f xs k) (node.Number n) = false
matches (Function f xs k) (node.Text w) = false
matches (Function f xs k) (node.Function g ys l) = nat_eq f g && (pointwise nat_eq xs.now ys.items && nat_eq k l)
