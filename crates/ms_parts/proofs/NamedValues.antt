-- Values of names among parameters.
use Rattle.std.proofs.Common.{◌≡◌, ℕ, true, false, if◌then◌else◌, List, [], ◌∷◌, length, Some, None, refl, ap, ◌∙◌, arith}
use Rattle.ms_grammar.specs.declared.value.Value.{Value}
use Rattle.ms_core.specs.Texts.{value_in, is_name, paired}

-- the value of a name among parameters and their values, from the first pair on
module _ (name p : List ℕ) (v : Value) (params more : List (List ℕ)) (args others : List Value) (first : params ≡ p ∷ more) (second : args ≡ v ∷ others) where
  pairs_are : paired params args ≡ (p, v) ∷ paired more others
  unfolding paired
  pairs_are = rw first (rw second refl)

  pub argument_here : is_name p name ≡ true → value_in (paired params args) name ≡ Some v
  unfolding value_in
  argument_here named = ap (λ l. value_in l name) pairs_are ∙ ap (λ b. if b then Some v else value_in (paired more others) name) named

  pub argument_further : is_name p name ≡ false → value_in (paired params args) name ≡ value_in (paired more others) name
  unfolding value_in
  argument_further named = ap (λ l. value_in l name) pairs_are ∙ ap (λ b. if b then Some v else value_in (paired more others) name) named

pub no_argument_left : (name : List ℕ) (params : List (List ℕ)) (args : List Value) → length params ≡ 0 → value_in (paired params args) name ≡ None
unfolding value_in paired
no_argument_left name [] args e = refl
no_argument_left name (p ∷ params) args e = absurd (omega (arith, e))

pub no_value_left : (name : List ℕ) (params : List (List ℕ)) (args : List Value) → length args ≡ 0 → value_in (paired params args) name ≡ None
unfolding value_in paired
no_value_left name [] args e = refl
no_value_left name (p ∷ params) [] e = refl
no_value_left name (p ∷ params) (v ∷ args) e = absurd (omega (arith, e))
