-- Comparisons of integers.
use Rattle.std.proofs.Common.{◌≡◌, ℤ, Bool, false, Option, Some, None, refl, sym, ap, ◌∙◌}
use Rattle.std.specs.Prelude.{unwrap_or}
use Rattle.ms_tree.specs.Tree.{Tree, number}
use Rattle.ms_grammar.specs.Terms.{both}
use Rattle.ms_grammar.specs.declared.statement.Cmp.{Cmp}
use Rattle.ms_core.specs.declared.rule.Test.{Test}
use Rattle.ms_copies.specs.Evaluating.{Chosen, integer, value, compares}
use Rattle.ms_copies.proofs.Listed.{integer_some}
use Rattle.ms_instances.specs.Listing.{holds}

-- whether a comparison holds of two integers, where there are two
abbrev of_integers : Cmp → Option ℤ → Option ℤ → Option Bool
of_integers cmp l r = both (λ a b. Some (compares cmp (number a) (number b))) l r

abbrev of_values : Cmp → Option Tree → Option Tree → Bool
of_values cmp l r = unwrap_or (both (λ a b. Some (compares cmp a b)) l r) false

compared : (cmp : Cmp) (l r : Option Tree) (m n : Option ℤ) (it : Bool) → integer l ≡ m → integer r ≡ n → of_integers cmp m n ≡ Some it → it ≡ of_values cmp l r
compared cmp l r None n it el er e = cc
compared cmp l r (Some a) None it el er e = cc
compared cmp l r (Some a) (Some b) it el er e =
    let same : compares cmp (number a) (number b) ≡ it = cc in
    sym same
    ∙ ap (λ (v : Option Tree). of_values cmp v (Some (number b))) (sym (integer_some l a el))
    ∙ ap (λ (v : Option Tree). of_values cmp l v) (sym (integer_some r b er))

pub integers_compared : (test : Test) (chosen : Chosen) (o : Option Bool) (it : Bool)
    → o ≡ of_integers test.cmp (integer (value chosen test.left)) (integer (value chosen test.right)) → o ≡ Some it → it ≡ holds chosen test
integers_compared test chosen o it e is =
    compared test.cmp (value chosen test.left) (value chosen test.right) (integer (value chosen test.left)) (integer (value chosen test.right)) it refl refl (sym e ∙ is)
