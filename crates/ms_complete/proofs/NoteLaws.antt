-- The notes that declare things, one after the other.
use Rattle.std.proofs.Common.{◌≡◌, ◌∙◌, ◌+◌, ◌<◌, ◌≤◌, ℕ, List, [], ◌∷◌, ◌++◌, Option, Some, None, map, take, drop, length, get_or, refl, sym, ap, subst, arith}
use Rattle.std.specs.Prelude.{slice_get, IsSomeAnd}
use Rattle.std.specs.List.{AllZip}
use Rattle.std.proofs.lemmas.List.{drop_all, drop-append-le, length-take, take_all, take_more}
use Rattle.std.proofs.lemmas.Option.{slice_get-get_or, get_or_from_slice_get, slice_get_within}
use Rattle.std.proofs.lemmas.Slice.Zip.{all_zipped_more}
use Rattle.ms_join.specs.Things.{Thing}
use Rattle.ms_complete.specs.declared.key.ThingKey.{ThingKey}
use Rattle.ms_complete.specs.Keys.{thing_in}
use Rattle.ms_complete.proofs.KeyLaws.{at_key}
use Rattle.ms_tree.specs.Tree.{Tree}
use Rattle.ms_tree.specs.Text.{tree_text}
use Rattle.ms_term.specs.Terms.{term_at}
use Rattle.ms_lits.specs.declared.note.Note.TheVariants.{Atom as NoteAtom}

-- a value of which something holds
pub some_and : {X : Type 0} (o : Option X) (P : X → Type 0) → IsSomeAnd o P → (x : X) × (o ≡ Some x) × P x
some_and None P is = absurd is
some_and (Some x) P is = (x, refl, is)

module _ {A B : Type 0} (R : A → B → Type 0) (xs : List A) (first : ℕ) where
  -- none of them so far
  pub none_told : AllZip R (drop first (take first xs)) []
  none_told = subst (λ (ys : List A). AllZip R ys []) (sym (drop_all first (take first xs) (omega (arith, length-take first xs)))) tt

  -- the next one
  pub next_told : (i : ℕ) (ys news : List B) (y : B) → first ≤ i → IsSomeAnd (slice_get xs i) (λ x. R x y) → AllZip R (drop first (take i xs)) ys → news ≡ ys ++ y ∷ []
      → AllZip R (drop first (take (i + 1) xs)) news
  next_told i ys news y least tells before pushed =
      let (x, at, told) = some_and (slice_get xs i) (λ x. R x y) tells in
      let within : i < length xs = slice_get_within xs i x at in
      let more : take (i + 1) xs ≡ take i xs ++ x ∷ [] = take_more xs i x within ∙ ap (λ (z : A). take i xs ++ z ∷ []) (get_or_from_slice_get xs i x x at) in
      let long : first ≤ length (take i xs) = omega (arith, least, within, length-take i xs) in
      let is : drop first (take (i + 1) xs) ≡ drop first (take i xs) ++ x ∷ [] = ap (drop first) more ∙ drop-append-le first (take i xs) (x ∷ []) long in
      subst (λ (zs : List B). AllZip R (drop first (take (i + 1) xs)) zs) (sym pushed)
      (subst (λ (zs : List A). AllZip R zs (ys ++ y ∷ [])) (sym is) (all_zipped_more R (drop first (take i xs)) ys x y before told))

  -- all of them
  pub all_told : (i : ℕ) (ys : List B) → length xs ≤ i → AllZip R (drop first (take i xs)) ys → AllZip R (drop first xs) ys
  all_told i ys end told = subst (λ (zs : List A). AllZip R (drop first zs) ys) (take_all i xs end) told

-- the name of a declared atom
module _ (names slice : List ℕ) (bound a i : ℕ) (slice_is : slice ≡ names) (same : i ≡ a) (named : IsSomeAnd (slice_get names a) (λ name. name < bound)) where
  pub name_within : i < length slice
  name_within =
      let (name, at, less) = some_and (slice_get names a) (λ name. name < bound) named in
      let within : a < length names = slice_get_within names a name at in
      omega (arith, within, same, ap length slice_is)

  name_is : (name : ℕ) → name ≡ get_or slice i name → slice_get names a ≡ Some name
  name_is name is =
      let here : get_or names a name ≡ name = ap (λ (xs : List ℕ). get_or xs a name) (sym slice_is) ∙ (ap (λ (k : ℕ). get_or slice k name) (sym same) ∙ sym is) in
      let within : a < length names = omega (arith, name_within, same, ap length slice_is) in
      slice_get-get_or names a name within ∙ ap Some here

  pub name_below : (name : ℕ) → name ≡ get_or slice i name → name < bound
  name_below name is = subst (λ (o : Option ℕ). IsSomeAnd o (λ (n : ℕ). n < bound)) (name_is name is) named

  pub atom_told : (terms : List Tree) (name : ℕ) (text : List ℕ) → name ≡ get_or slice i name → text ≡ tree_text (term_at terms name) → (n : ℕ) × (slice_get names a ≡ Some n) × (NoteAtom text ≡ NoteAtom (tree_text (term_at terms n)))
  atom_told terms name text is told = (name, name_is name is, ap NoteAtom told)

-- the thing of a key
pub thing_at : (keys slice : List ThingKey) (things : List Thing) (number : ℕ) (k key : ThingKey) → slice ≡ keys → map thing_in keys ≡ things → number < length things → k ≡ get_or slice number k → k ≡ key
    → slice_get things number ≡ Some (thing_in key)
thing_at keys slice things number k key slice_is view within is same =
    subst (λ (ts : List Thing). slice_get ts number ≡ Some (thing_in key)) view
    (at_key keys slice number k key slice_is (subst (λ (ts : List Thing). number < length ts) (sym view) within) is same)

-- what is told of a thing is told of that in its place
pub told_at : (things : List Thing) (number : ℕ) (t : Thing) (P : Thing → Type 0) → slice_get things number ≡ Some t → P t → IsSomeAnd (slice_get things number) P
told_at things number t P at told = subst (λ (o : Option Thing). IsSomeAnd o P) (sym at) told
