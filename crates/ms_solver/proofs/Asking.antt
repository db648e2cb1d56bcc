-- The literals of assumptions, one for each.
use Rattle.std.proofs.Common.{List, [], ◌∷◌, ◌++◌}
use Rattle.std.specs.List.{All, AllZip, Any}
use Rattle.std.proofs.lemmas.List.Elements.{All-cons, All-nil, All-weaker}
use Rattle.ms_complete.specs.Sets.{Match}
use Rattle.ms_complete.proofs.Lists.{any_here, any_later}

module _ {A B : Type 0} (R : A → B → Type 0) where
  pub zip_push : (xs : List A) (ys : List B) (x : A) (y : B) → AllZip R xs ys → R x y → AllZip R (xs ++ x ∷ []) (ys ++ y ∷ [])
  zip_push [] [] x y all is = (is, tt)
  zip_push [] (b ∷ ys) x y all is = absurd all
  zip_push (a ∷ xs) [] x y all is = absurd all
  zip_push (a ∷ xs) (b ∷ ys) x y all is = (all.0, zip_push xs ys x y all.1 is)

  each_zip : (xs : List A) (ys : List B) → AllZip R xs ys → All (λ (b : B). Any (λ (a : A). R a b) xs) ys
  each_zip [] [] all = All-nil (λ (b : B). Any (λ (a : A). R a b) [])
  each_zip [] (b ∷ ys) all = absurd all
  each_zip (a ∷ xs) [] all = absurd all
  each_zip (a ∷ xs) (b ∷ ys) all = All-cons (λ (c : B). Any (λ (d : A). R d c) (a ∷ xs)) b ys (any_here (λ (d : A). R d b) a xs all.0)
      (All-weaker (λ (c : B). Any (λ (d : A). R d c) xs) (λ (c : B). Any (λ (d : A). R d c) (a ∷ xs)) (λ c some. any_later (λ (d : A). R d c) a xs some) ys (each_zip xs ys all.1))

  all_zip : (xs : List A) (ys : List B) → AllZip R xs ys → All (λ (a : A). Any (R a) ys) xs
  all_zip [] [] all = All-nil (λ (a : A). Any (R a) [])
  all_zip [] (b ∷ ys) all = absurd all
  all_zip (a ∷ xs) [] all = absurd all
  all_zip (a ∷ xs) (b ∷ ys) all = All-cons (λ (d : A). Any (R d) (b ∷ ys)) a xs (any_here (R a) b ys all.0)
      (All-weaker (λ (d : A). Any (R d) ys) (λ (d : A). Any (R d) (b ∷ ys)) (λ d some. any_later (R d) b ys some) xs (all_zip xs ys all.1))

  pub match_zip : (xs : List A) (ys : List B) → AllZip R xs ys → Match R xs ys
  match_zip xs ys all = record { each = each_zip xs ys all; all = all_zip xs ys all }
