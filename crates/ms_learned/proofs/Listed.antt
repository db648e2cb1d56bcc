-- An answer in the log is one that the reply lists, and there are as many.
use Rattle.std.proofs.Common.{◌≡◌, ◌∙◌, ℕ, ◌<◌, Bool, true, nat_eq, List, [], ◌∷◌, Some, length, map, get_or, refl, sym, ap, subst, inl, inr, arith}
use Rattle.std.specs.Prelude.{IsTrue, slice_get}
use Rattle.std.specs.List.{AllZip, Any, Contains, filter}
use Rattle.std.proofs.lemmas.Bool.{cases_Bool, eqb-true, false_from_ne_true, false≢true}
use Rattle.std.proofs.lemmas.List.Folds.{Any-from_list_any}
use Rattle.std.proofs.lemmas.List.Elements.{Contains-get_or}
use Rattle.std.proofs.lemmas.List.Sorted.{Contains-permutation, length_permutation}
use Rattle.std.proofs.lemmas.Option.{slice_get-get_or, slice_get_within}
use Rattle.std.proofs.lemmas.Slice.Zip.{AllZip-long}
use Rattle.ms_base.proofs.Lists.{Contains-filter, passes-filtered}
use Rattle.ms_tree.specs.Tree.{Tree}
use Rattle.ms_join.specs.Sets.{set_of}
use Rattle.ms_join.specs.Things.{Thing}
use Rattle.ms_join.specs.Things.Thing.{atom}
use Rattle.ms_things.specs.Numbers.{ext, known_truth}
use Rattle.ms_lawful.proofs.Lists.{Contains-cons, Contains-cons_cases, Contains-here, Contains-none}
use Rattle.ms_problem.specs.Numbered.{AreNumbers, numbers_in}
use Rattle.ms_solving.specs.Listing.{IsListing, IsShownList}
use Rattle.ms_released.proofs.Seen.{in_set}
use Rattle.ms_learned.specs.Learned.{ListsAtoms, answer_by}

from_set_of : (set : List ℕ) (a : ℕ) → IsTrue (set_of set a) → Contains set a
from_set_of set a is =
    let some : Any (λ (b : ℕ). nat_eq b a ≡ true) set = Any-from_list_any (λ (b : ℕ). nat_eq b a) set is in
    subst (Contains set) (eqb-true some.1 a some.4) (some.0, some.2, some.3)

alike : (t u : Bool) → (IsTrue t → IsTrue u) → (IsTrue u → IsTrue t) → t ≡ u
alike t u to back = elim (cases_Bool t) [
  | inl is ↦ is ∙ sym (to is)
  | inr fails ↦ fails ∙ sym (false_from_ne_true u (λ is. false≢true (sym fails ∙ back is)))
]

filter_agrees : (t u : ℕ → Bool) (xs : List ℕ) → filter t xs ≡ filter u xs → (x : ℕ) → Contains xs x → t x ≡ u x
filter_agrees t u xs same x has = alike (t x) (u x)
    (λ is. passes-filtered u xs x (subst (λ (ys : List ℕ). Contains ys x) same (Contains-filter t xs x has is)))
    (λ is. passes-filtered t xs x (subst (λ (ys : List ℕ). Contains ys x) (sym same) (Contains-filter u xs x has is)))

from_map : {X Y : Type 0} → (f : X → Y) (xs : List X) (y : Y) → Contains (map f xs) y → (x : X) × Contains xs x × (f x ≡ y)
from_map f [] y among = absurd (Contains-none y among)
from_map f (x ∷ xs) y among = elim (Contains-cons_cases (f x) y (map f xs) among) [
  | inl same ↦ (x, Contains-here x x xs refl, same)
  | inr later ↦ (let rest = from_map f xs y later in (rest.0, Contains-cons x rest.0 xs rest.1, rest.2))
]

zipped : {X Y : Type 0} → (R : X → Y → Type 0) (xs : List X) (ys : List Y) (x : X) → AllZip R xs ys → Contains xs x → (y : Y) × Contains ys y × R x y
zipped R [] ys x zip among = absurd (Contains-none x among)
zipped R (z ∷ xs) [] x zip among = absurd zip
zipped R (z ∷ xs) (y ∷ ys) x zip among = elim (Contains-cons_cases z x xs among) [
  | inl same ↦ (y, Contains-here y y ys refl, subst (λ w. R w y) same zip.0)
  | inr later ↦ (let rest = zipped R xs ys x zip.1 later in (rest.0, Contains-cons y rest.0 ys rest.1, rest.2))
]

-- A set whose atoms have the numbers of an answer has the atoms that are true there.
module _ (things : List Thing) (count : ℕ) (numbers : List ℕ) (are : AreNumbers things count numbers) (names : List Tree) (named : length names ≡ count) where
  module _ (list : List ℕ) (set : ℕ → Bool) (same : numbers_in things numbers list ≡ answer_by (ext set things) numbers) where
    agrees : (a : ℕ) → a < count → set_of list a ≡ set a
    agrees a within =
        let long : a < length numbers = omega (arith, within, are.counted) in
        let number : ℕ = get_or numbers a 0 in
        let thing : slice_get things number ≡ Some (atom a) = are.each a number (slice_get-get_or numbers a 0 long) in
        sym (ap (known_truth (set_of list)) thing)
        ∙ (filter_agrees (ext (set_of list) things) (ext set things) numbers same number (Contains-get_or numbers a 0 long) ∙ ap (known_truth set) thing)

    pub lists_atoms : (shows : Tree → Bool) (shown : List Tree) → IsShownList shows names list shown → ListsAtoms shows names set shown
    lists_atoms shows shown is t = (
      (λ among.
          let both = (is.members t).0 among in
          let (k, a, within, at, name) = both.1 in
          let low : a < count = subst (λ (n : ℕ). a < n) named (slice_get_within names a t name) in
          (both.0, (a, name, sym (agrees a low) ∙ in_set list a (k, within, at)))),
      (λ both.
          let (a, name, holds) = both.1 in
          let low : a < count = subst (λ (n : ℕ). a < n) named (slice_get_within names a t name) in
          let has = from_set_of list a (agrees a low ∙ holds) in
          (is.members t).1 (both.0, (has.0, a, has.1, has.2, name))),
    )

  -- what is among the answers is listed
  pub listed : (shows : Tree → Bool) (sets : List (List ℕ)) (listing : List (List Tree)) (set : ℕ → Bool) → IsListing shows names sets listing
      → Contains (map (numbers_in things numbers) sets) (answer_by (ext set things) numbers) → (shown : List Tree) × Contains listing shown × ListsAtoms shows names set shown
  listed shows sets listing set is among =
      let (list, there, same) = from_map (numbers_in things numbers) sets (answer_by (ext set things) numbers) among in
      let (shown, listed_there, shown_is) = zipped (IsShownList shows names) sets is.lists list is.shown there in
      (shown, Contains-permutation is.lists listing shown is.same listed_there, lists_atoms list set same shows shown shown_is)

-- a listing has a list for each set
pub long_listing : (shows : Tree → Bool) (names : List Tree) (sets : List (List ℕ)) (listing : List (List Tree)) → IsListing shows names sets listing → length listing ≡ length sets
long_listing shows names sets listing is = length_permutation is.lists listing is.same ∙ AllZip-long (IsShownList shows names) sets is.lists is.shown
