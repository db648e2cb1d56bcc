-- Rows of choices.
use Rattle.std.proofs.Common.{◌≡◌, ℕ, ◌+◌, ◌<◌, length, take, get_or, List, [], ◌∷◌, ◌++◌, map, Ok, Err, refl, sym, ap, ◌∙◌}
use Rattle.std.specs.List.{flat_map}
use Rattle.std.proofs.lemmas.List.{append-nil, map-append, take_more}
use Rattle.std.proofs.lemmas.Grind.{flat_map-append}
use Rattle.std.proofs.lemmas.List.Concat.{flat_map_single}
use Rattle.ms_core.specs.Pools.{choices, pairs_with}
use Rattle.ms_parts.specs.Rows.{extended, only_of}

pub only_is : {A : Type 0} (xs : List A) (x : A) → only_of xs ≡ Ok x → xs ≡ x ∷ []
only_is [] x e = absurd (let f : ⊥ = cc in f)
only_is (y ∷ []) x e = let same : y ≡ x = cc in ap (λ z. z ∷ []) same
only_is (y ∷ z ∷ more) x e = absurd (let f : ⊥ = cc in f)

pub only_back : {A : Type 0} (xs ys : List A) → only_of xs ≡ Err ys → xs ≡ ys
only_back [] ys e = cc
only_back (y ∷ []) ys e = absurd (let f : ⊥ = cc in f)
only_back (y ∷ z ∷ more) ys e = cc

each_behind : {A : Type 0} (x : A) (row items : List A) → map (λ y. (x ∷ row) ++ y ∷ []) items ≡ map (λ r. x ∷ r) (map (λ y. row ++ y ∷ []) items)
each_behind x row [] = refl
each_behind x row (y ∷ items) = ap (λ l. (x ∷ row ++ y ∷ []) ∷ l) (each_behind x row items)

-- an item before each row stays there
extended_behind : {A : Type 0} (x : A) (rows : List (List A)) (items : List A) → extended (map (λ row. x ∷ row) rows) items ≡ map (λ row. x ∷ row) (extended rows items)
extended_behind x [] items = refl
extended_behind x (row ∷ rows) items =
    ap (λ l. l ++ extended (map (λ r. x ∷ r) rows) items) (each_behind x row items)
    ∙ ap (λ l. map (λ r. x ∷ r) (map (λ y. row ++ y ∷ []) items) ++ l) (extended_behind x rows items)
    ∙ sym (map-append (λ r. x ∷ r) (map (λ y. row ++ y ∷ []) items) (extended rows items))

extended_choices : {A : Type 0} (rows : List (List A)) (xs items : List A) → extended (pairs_with (λ x row. x ∷ row) xs rows) items ≡ pairs_with (λ x row. x ∷ row) xs (extended rows items)
extended_choices rows [] items = refl
extended_choices rows (x ∷ xs) items =
    flat_map-append (λ row. map (λ y. row ++ y ∷ []) items) (map (λ row. x ∷ row) rows) (pairs_with (λ x row. x ∷ row) xs rows)
    ∙ ap (λ l. l ++ extended (pairs_with (λ x row. x ∷ row) xs rows) items) (extended_behind x rows items)
    ∙ ap (λ l. map (λ row. x ∷ row) (extended rows items) ++ l) (extended_choices rows xs items)

-- one more list
pub choices_push : {A : Type 0} (lists : List (List A)) (items : List A) → choices (lists ++ items ∷ []) ≡ extended (choices lists) items
unfolding choices
choices_push [] items = flat_map_single (λ x. x ∷ []) items ∙ sym (append-nil (map (λ x. x ∷ []) items))
choices_push (xs ∷ lists) items = ap (pairs_with (λ x row. x ∷ row) xs) (choices_push lists items) ∙ sym (extended_choices (choices lists) xs items)

map_map : {A B C : Type 0} (g : B → C) (f : A → B) (xs : List A) → map g (map f xs) ≡ map (λ x. g (f x)) xs
map_map g f [] = refl
map_map g f (x ∷ xs) = ap (λ l. g (f x) ∷ l) (map_map g f xs)

-- pairs, and what is made of them
pub map_pairs : {A B C : Type 0} (f : A × B → C) (xs : List A) (ys : List B) → map f (pairs_with (λ x y. (x, y)) xs ys) ≡ pairs_with (λ x y. f (x, y)) xs ys
map_pairs f [] ys = refl
map_pairs f (x ∷ xs) ys =
    map-append f (map (λ y. (x, y)) ys) (pairs_with (λ x y. (x, y)) xs ys)
    ∙ ap (λ l. l ++ map f (pairs_with (λ x y. (x, y)) xs ys)) (map_map f (λ y. (x, y)) ys)
    ∙ ap (λ l. map (λ y. f (x, y)) ys ++ l) (map_pairs f xs ys)

-- what was made of the elements before a place, and of one more
pub flat_map_next : {X A : Type 0} (f : X → List A) (xs : List X) (i : ℕ) (x : X) (made : List A) → i < length xs → x ≡ get_or xs i x → made ≡ flat_map f (take i xs) → made ++ f x ≡ flat_map f (take (i + 1) xs)
flat_map_next f xs i x made inside is so_far =
    let up : take (i + 1) xs ≡ take i xs ++ x ∷ [] = take_more xs i x inside ∙ ap (λ y. take i xs ++ y ∷ []) (sym is) in
    ap (λ m. m ++ f x) so_far
    ∙ ap (λ l. flat_map f (take i xs) ++ l) (sym (append-nil (f x)))
    ∙ sym (flat_map-append f (take i xs) (x ∷ []))
    ∙ sym (ap (flat_map f) up)

pub extended_by_only : {A : Type 0} (rows : List (List A)) (items : List A) (item : A) → only_of items ≡ Ok item → map (λ row. row ++ item ∷ []) rows ≡ extended rows items
extended_by_only rows items item is = sym (flat_map_single (λ row. row ++ item ∷ []) rows) ∙ sym (ap (extended rows) (only_is items item is))

pub choices_none : {A : Type 0} → choices {A = A} [] ≡ [] ∷ []
unfolding choices
choices_none = refl

-- the rows of the elements before a place, and of one more
pub choices_next : {X A : Type 0} (f : X → List A) (xs : List X) (i : ℕ) (x : X) (rows : List (List A)) → i < length xs → x ≡ get_or xs i x → rows ≡ choices (map f (take i xs)) → extended rows (f x) ≡ choices (map f (take (i + 1) xs))
choices_next f xs i x rows inside is so_far =
    let up : take (i + 1) xs ≡ take i xs ++ x ∷ [] = take_more xs i x inside ∙ ap (λ y. take i xs ++ y ∷ []) (sym is) in
    ap (λ r. extended r (f x)) so_far
    ∙ sym (choices_push (map f (take i xs)) (f x))
    ∙ ap choices (sym (map-append f (take i xs) (x ∷ [])))
    ∙ ap (λ l. choices (map f l)) (sym up)
