-- The front of a list, as a loop over it grows.
use Rattle.std.proofs.Common.{◌≡◌, ◌≢◌, ℕ, ◌+◌, ◌<◌, List, [], ◌∷◌, ◌++◌, length, length-take, get_or, get_or-take, take, ap, sym, ◌∙◌, subst, arith, ⊎_elim}
use Rattle.std.proofs.lemmas.List.Elements.{Contains-append_cases}
use Rattle.std.specs.List.{All, AllPairs, Contains}
use Rattle.std.proofs.lemmas.List.{take_more}

pub take_read : {X : Type 0} (xs : List X) (i : ℕ) (x : X) → i < length xs → x ≡ get_or xs i x → take (i + 1) xs ≡ take i xs ++ x ∷ []
take_read xs i x within is = take_more xs i x within ∙ ap (λ y. take i xs ++ y ∷ []) (sym is)

-- a name that the base lacks and that is none of those before it
pub absent_at : (base names : List ℕ) (i t : ℕ) → i < length names → t ≡ get_or names i t → All (λ n. Contains base n → ⊥) names → AllPairs (λ m n. m ≢ n) names → Contains (base ++ take i names) t → ⊥
absent_at base names i t within is new different h =
    ⊎_elim
    (λ (old : Contains base t). new i t within (subst (Contains base) is old))
    (λ (earlier : Contains (take i names) t).
    let (j, below, at) = earlier in
    let before : j < i = omega (arith, length-take i names) in
    different j i t before within (sym (get_or-take i names j t before) ∙ at ∙ is))
    (Contains-append_cases base (take i names) t h)
