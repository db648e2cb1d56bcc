-- Lists after a sort by keys, and lists side by side.
use Rattle.std.proofs.Common.{◌+◌, ◌<◌, List, [], ◌∷◌, length, map, subst, arith}
use Rattle.std.proofs.lemmas.List.{get_or-map, length-map}
use Rattle.std.specs.List.{All, AllZip}
use Rattle.std.proofs.lemmas.List.Elements.{All-nil, All-cons}
use Rattle.std.specs.List.Sorted.{IsSorted, IsSortedByKey}
use Rattle.std.specs.declared.cmp.Ordering.{Ordering}

-- what is sorted by keys has sorted keys
pub IsSorted-map : {X K : Type 0} (key : X → K) (R : K → K → Ordering) (xs : List X) (e : X) → IsSortedByKey key R xs → IsSorted R (map key xs)
IsSorted-map key R xs e sorted k d low high =
    let next : k + 1 < length xs = subst (λ n. k + 1 < n) (length-map xs key) high in
    rw (get_or-map key xs (k + 1) e d next, get_or-map key xs k e d (omega arith)) (sorted k e low next)

-- lists side by side, of which the second is changed at each place
pub AllZip-map : {A B C : Type 0} (f : B → C) (S : A → B → Type 0) (R : A → C → Type 0) → ((a : A) (b : B) → S a b → R a (f b)) → (xs : List A) (ys : List B) → AllZip S xs ys → AllZip R xs (map f ys)
AllZip-map f S R each [] [] all = tt
AllZip-map f S R each [] (y ∷ ys) all = absurd all
AllZip-map f S R each (x ∷ xs) [] all = absurd all
AllZip-map f S R each (x ∷ xs) (y ∷ ys) all = (each x y all.0, AllZip-map f S R each xs ys all.1)

-- what holds at each second element holds of all of them
pub All-from_zip : {A B : Type 0} (S : A → B → Type 0) (P : B → Type 0) → ((a : A) (b : B) → S a b → P b) → (xs : List A) (ys : List B) → AllZip S xs ys → All P ys
All-from_zip S P each [] [] all = All-nil P
All-from_zip S P each [] (y ∷ ys) all = absurd all
All-from_zip S P each (x ∷ xs) [] all = absurd all
All-from_zip S P each (x ∷ xs) (y ∷ ys) all = All-cons P y ys (each x y all.0) (All-from_zip S P each xs ys all.1)
