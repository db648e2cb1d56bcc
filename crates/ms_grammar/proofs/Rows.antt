-- The definitions at worked examples.
use Rattle.std.specs.Prelude.{◌≡◌, refl, pos, neg_ℤ, ◌^◌, [], ◌∷◌, Some, codes}
use Rattle.ms_tree.specs.declared.op.Op.TheVariants.{Sub}
use Rattle.ms_grammar.specs.declared.term.TextTerm.{Number, Function, Neg, Binary}
use Rattle.ms_grammar.specs.Terms

-- 1-2-3 is read from the left
left_to_right : Terms.sum_part (Terms.minus (Terms.minus (Terms.product (Terms.unary (Terms.primary (Terms.numeral 1)))) (Terms.unary (Terms.primary (Terms.numeral 2)))) (Terms.unary (Terms.primary (Terms.numeral 3)))) ≡ Some (record { term = Binary Sub (Binary Sub (Number (pos 1)) (Number (pos 2))) (Number (pos 3)); height = 3; choices = 1 })
left_to_right = refl

-- the least number stands with its minus
least_number : Terms.unary_part (Terms.negative Terms.least) ≡ Some (record { term = Neg (Number (neg_ℤ (pos (2 ^ 63)))); height = 2; choices = 1 })
least_number = refl

-- p(1;2,3) has two alternatives
alternatives : Terms.primary_part (Terms.function (codes "p") (Terms.or_list (Terms.one_list (Terms.arguments (Terms.one_term (Terms.single (Terms.product (Terms.unary (Terms.primary (Terms.numeral 1)))))))) Terms.no_arguments)) ≡ Some (record { term = Function (codes "p") ((Number (pos 1) ∷ []) ∷ [] ∷ []); height = 2; choices = 2 })
alternatives = refl

-- a parenthesis round one term adds nothing, and a last comma makes a tuple
one_in_parentheses : Terms.primary_part (Terms.parenthesis (Terms.one_tuple (Terms.tuple (Terms.one_term (Terms.single (Terms.product (Terms.unary (Terms.primary (Terms.constant (codes "b")))))))))) ≡ Some (record { term = Function (codes "b") ([] ∷ []); height = 1; choices = 1 })
one_in_parentheses = refl

tuple_of_one : Terms.primary_part (Terms.parenthesis (Terms.one_tuple (Terms.tuple_comma (Terms.one_term (Terms.single (Terms.product (Terms.unary (Terms.primary (Terms.constant (codes "b")))))))))) ≡ Some (record { term = Function [] ((Function (codes "b") ([] ∷ []) ∷ []) ∷ []); height = 2; choices = 1 })
tuple_of_one = refl
