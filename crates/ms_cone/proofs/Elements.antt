-- What holds of some element of a list made from others.
use Rattle.std.proofs.Common.{◌≡◌, ◌⊎◌, ℕ, List, [], ◌∷◌, ◌++◌, Any, Contains, inl, inr, refl, sym, subst}
use Rattle.std.proofs.lemmas.List.Elements.{Contains-append_cases, Contains-append_left, Contains-append_right, Contains-push_cases}

module _ {X : Type 0} (P : X → Type 0) where
  pub any_left : (xs ys : List X) → Any P xs → Any P (xs ++ ys)
  any_left xs ys (k, x, within, at, is) =
      let there : Contains (xs ++ ys) x = Contains-append_left xs ys x (k, within, at) in
      (there.0, x, there.1, there.2, is)

  pub any_right : (xs ys : List X) → Any P ys → Any P (xs ++ ys)
  any_right xs ys (k, x, within, at, is) =
      let there : Contains (xs ++ ys) x = Contains-append_right xs ys x (k, within, at) in
      (there.0, x, there.1, there.2, is)

  pub any_cases : (xs ys : List X) → Any P (xs ++ ys) → Any P xs ⊎ Any P ys
  any_cases xs ys (k, x, within, at, is) = elim (Contains-append_cases xs ys x (k, within, at)) [
    | inl there ↦ inl (there.0, x, there.1, there.2, is)
    | inr there ↦ inr (there.0, x, there.1, there.2, is)
  ]

  pub any_push_cases : (xs : List X) (y : X) → Any P (xs ++ y ∷ []) → Any P xs ⊎ P y
  any_push_cases xs y (k, x, within, at, is) = elim (Contains-push_cases xs y x (k, within, at)) [
    | inl there ↦ inl (there.0, x, there.1, there.2, is)
    | inr last ↦ inr (subst P (sym last) is)
  ]

-- an atom of a list, as an element that is equal to it
pub any_from_contains : (atoms : List ℕ) (b : ℕ) → Contains atoms b → Any (λ x. b ≡ x) atoms
any_from_contains atoms b (k, within, at) = (k, b, within, at, refl)

pub contains_from_any : (atoms : List ℕ) (b : ℕ) → Any (λ x. b ≡ x) atoms → Contains atoms b
contains_from_any atoms b (k, x, within, at, is) = subst (Contains atoms) (sym is) (k, within, at)
