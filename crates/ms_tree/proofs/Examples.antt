-- Worked examples of the definitions.
use Rattle.std.proofs.Common.{◌≡◌, pos, negsuc, [], ◌∷◌, refl}
use Rattle.std.specs.declared.cmp.Ordering.TheVariants.{Less, Greater}
use Rattle.std.specs.Fmt.{digits}
use Rattle.ms_tree.specs.Tree.{number, text, function, no_tree, tree}
use Rattle.ms_tree.specs.Order.{compare_trees}
use Rattle.ms_tree.specs.Text.{tree_text}
use Rattle.ms_tree.specs.Size.{tree_size}
use Rattle.ms_tree.specs.declared.op.Op.TheVariants.{Div, Rem}
use Rattle.ms_tree.specs.Arithmetic.{value_of}

-- a comes before p(3)
constant_before_call : compare_trees (function (97 ∷ []) no_tree) (function (112 ∷ []) (tree (number (pos 3)) no_tree)) ≡ Less
constant_before_call = refl

-- p("a") comes after p(3)
text_after_number : compare_trees (function (112 ∷ []) (tree (text (97 ∷ [])) no_tree)) (function (112 ∷ []) (tree (number (pos 3)) no_tree)) ≡ Greater
text_after_number = refl

-- f("\n",(1,),())
printed : tree_text (function (102 ∷ []) (tree (text (10 ∷ [])) (tree (function [] (tree (number (pos 1)) no_tree)) (tree (function [] no_tree) no_tree))))
    ≡ 102 ∷ 40 ∷ 34 ∷ 92 ∷ 110 ∷ 34 ∷ 44 ∷ 40 ∷ 49 ∷ 44 ∷ 41 ∷ 44 ∷ 40 ∷ 41 ∷ 41 ∷ []
unfolding digits
printed = refl

-- the integer -7
printed_negative : tree_text (number (negsuc 6)) ≡ 45 ∷ 55 ∷ []
unfolding digits
printed_negative = refl

-- f(a,1) has three symbols
three_symbols : tree_size (function (102 ∷ []) (tree (function (97 ∷ []) no_tree) (tree (number (pos 1)) no_tree))) ≡ 3
three_symbols = refl

-- -7/2 = -3 and -7\2 = -1
toward_zero : value_of Div (negsuc 6) (pos 2) ≡ negsuc 2
toward_zero = refl

sign_of_the_dividend : value_of Rem (negsuc 6) (pos 2) ≡ negsuc 0
sign_of_the_dividend = refl
