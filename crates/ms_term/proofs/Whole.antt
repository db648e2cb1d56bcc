-- The arguments of the functions of a table are in the table.
use Rattle.std.proofs.Common.{◌≡◌, ◌∙◌, ℕ, ◌<◌, ◌≤◌, pos, List, [], ◌∷◌, length, get_or, refl, sym, ap, subst, arith}
use Rattle.std.proofs.lemmas.List.{get_or_default}
use Rattle.ms_tree.specs.Tree.{Tree, number, text, function, Trees, no_tree}
use Rattle.ms_term.specs.declared.node.Node.{Node}
use Rattle.ms_term.specs.declared.node.Node.TheVariants as node
use Rattle.ms_term.specs.Terms.{AllBelow, AreWhole, HasEach, term_at, terms_at}
use Rattle.ms_term.specs.Tables.{Describes, IsTable}

there : (ts : List Tree) (i : ℕ) (is : List ℕ) → AllBelow i is → i ≤ length ts → HasEach ts (terms_at ts is)
there ts i [] below few = tt
there ts i (k ∷ is) below few =
    let less : k < i = below.0 in
    (λ none. none k (omega arith) refl, there ts i is below.1 few)

arguments_of : Tree → Trees
arguments_of (number n) = no_tree
arguments_of (text s) = no_tree
arguments_of (function f ts) = ts

described : (ws : List (List ℕ)) (ts : List Tree) (i : ℕ) (n : Node) (f : List ℕ) (args : Trees) → i < length ts → Describes ws ts i n → term_at ts i ≡ function f args → HasEach ts args
unfolding arguments_of
described ws ts i (node.Number k) f args within d is = subst (HasEach ts) (ap arguments_of (sym d.is ∙ is)) tt
described ws ts i (node.Text word) f args within d is = subst (HasEach ts) (ap arguments_of (sym d.is ∙ is)) tt
described ws ts i (node.Function name arguments size) f args within d is =
    let few : i ≤ length ts = omega arith in
    subst (HasEach ts) (ap arguments_of (sym d.is ∙ is)) (there ts i arguments.items d.below few)

pub whole : (ws : List (List ℕ)) (nodes : List Node) (ts : List Tree) → IsTable ws nodes ts → AreWhole ts
whole ws nodes ts table i f args within is =
    let inside : i < length nodes = omega (arith, within, table.count) in
    let n : Node = get_or nodes i (node.Number (pos 0)) in
    described ws ts i n f args within (table.stands i n inside (get_or_default nodes i (node.Number (pos 0)) n inside)) is
