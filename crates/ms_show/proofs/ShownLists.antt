-- The names of the shown atoms of a set, in term order, are its shown list.
use Rattle.std.proofs.Common.{◌≡◌, ℕ, ◌+◌, ◌<◌, ◌∙◌, Bool, true, IsTrue, List, [], ◌∷◌, ◌++◌, filter, map, take, length, get_or, ap, sym, subst, Some, false}
use Rattle.std.specs.List.{Contains, slice_get}
use Rattle.std.proofs.lemmas.Bool.{cond-true, cond-false}
use Rattle.std.proofs.lemmas.List.{append-nil, get_or_default, get_or-map, length-map, take_more, map-append}
use Rattle.std.proofs.lemmas.List.Elements.{Contains-get_or, All-filter, All-contains, filter-append}
use Rattle.std.proofs.lemmas.Option.{slice_get-get_or, get_or_from_slice_get, none-some}
use Rattle.ms_tree.specs.Tree.{Tree, number, text, function, tree_count}
use Rattle.ms_core.specs.Texts.{Texts, shows}
use Rattle.ms_solving.specs.Showing.{shows_atom}
use Rattle.ms_term.specs.Terms.{term_at, name_in, arguments_in}
use Rattle.ms_join.specs.AnswerSets.{IsAtomSet}
use Rattle.ms_solving.specs.Listing.{HasAtom}
use Rattle.ms_term.specs.TermOrder.{IsInTermOrder}
use Rattle.ms_show.specs.ShownLists.{AreIn, IsShownOf, name_of, shown_of}
use Rattle.ms_base.proofs.Lists.{Contains-filter, Contains-filtered, passes-filtered}

Contains-map : {X Y : Type 0} (f : X → Y) (xs : List X) (x : X) → Contains xs x → Contains (map f xs) (f x)
Contains-map f xs x (k, h, e) = (
  k,
  subst (λ n. k < n) (sym (length-map xs f)) h,
  get_or-map f xs k x (f x) h ∙ ap f e,
)

-- an element of the base at the atoms of a set over it
AreIn-names : (table : List Tree) (base set : List ℕ) → AreIn table base → IsAtomSet (length base) set → AreIn table (map (name_of base) set)
AreIn-names table base set in_base over k d short =
    let here : k < length set = subst (λ n. k < n) (length-map set (name_of base)) short in
    rw (get_or-map (name_of base) set k 0 d here) (in_base (get_or set k 0) 0 (over.within k 0 here))

pub AreIn-shown_of : (table : List Tree) (shows : Tree → Bool) (base set : List ℕ) → AreIn table base → IsAtomSet (length base) set → AreIn table (shown_of table shows base set)
AreIn-shown_of table shows base set in_base over =
    All-filter (λ n. shows (term_at table n)) (λ n. n < length table) (map (name_of base) set) (AreIn-names table base set in_base over)

-- a name of the base at an atom of the set
atom_of : (table : List Tree) (base set : List ℕ) (n : ℕ) → IsAtomSet (length base) set → Contains (map (name_of base) set) n → HasAtom (map (term_at table) base) set (term_at table n)
atom_of table base set n over (k, h, e) =
    let here : k < length set = subst (λ m. k < m) (length-map set (name_of base)) h in
    let a = get_or set k 0 in
    let within : a < length base = over.within k 0 here in
    let named : name_of base a ≡ n = sym (get_or-map (name_of base) set k 0 n here) ∙ e in
    let t = term_at table n in
    let in_names : a < length (map (term_at table) base) = subst (λ m. a < m) (sym (length-map base (term_at table))) within in (
      k,
      a,
      here,
      get_or_default set k a 0 here,
      slice_get-get_or (map (term_at table) base) a t in_names ∙ ap Some (get_or-map (term_at table) base a 0 t within ∙ ap (term_at table) named),
    )

to_shown : (table : List Tree) (shows : Tree → Bool) (base set : List ℕ) (n : ℕ) → IsAtomSet (length base) set → Contains (shown_of table shows base set) n → IsTrue (shows (term_at table n)) × HasAtom (map (term_at table) base) set (term_at table n)
to_shown table shows base set n over c =
    let p : ℕ → Bool = λ m. shows (term_at table m) in
    let names = map (name_of base) set in
    (passes-filtered p names n c, atom_of table base set n over (Contains-filtered p names n c))

-- the name of a shown atom of the set
from_shown : (table : List Tree) (shows : Tree → Bool) (base set : List ℕ) (t : Tree) → IsAtomSet (length base) set → IsTrue (shows t) → HasAtom (map (term_at table) base) set t → (n : ℕ) × Contains (shown_of table shows base set) n × (term_at table n ≡ t)
from_shown table shows base set t over is_shown (k, a, h, e, at) =
    let p : ℕ → Bool = λ m. shows (term_at table m) in
    let within : a < length base = subst (λ b. b < length base) e (over.within k a h) in
    let n = name_of base a in
    let named : term_at table n ≡ t = sym (get_or-map (term_at table) base a 0 t within) ∙ get_or_from_slice_get (map (term_at table) base) a t t at in
    let listed : Contains (map (name_of base) set) n = Contains-map (name_of base) set a (k, h, e) in
    (n, Contains-filter p (map (name_of base) set) n listed (ap shows named ∙ is_shown), named)

pub IsShownOf-from_order : (table : List Tree) (shows : Tree → Bool) (base set ordered : List ℕ) → AreIn table base → IsAtomSet (length base) set → IsInTermOrder table (shown_of table shows base set) ordered → IsShownOf table shows base set ordered
IsShownOf-from_order table shows base set ordered in_base over order = record {
  list = record {
    ordered = order.rising;
    members = λ t. (
      λ (k, h, e).
          let here : k < length ordered = subst (λ m. k < m) (length-map ordered (term_at table)) h in
          let n = get_or ordered k 0 in
          let named : term_at table n ≡ t = sym (get_or-map (term_at table) ordered k 0 t here) ∙ e in
          let listed : Contains (shown_of table shows base set) n = (order.members n).0 (Contains-get_or ordered k 0 here) in
          subst (λ u. IsTrue (shows u) × HasAtom (map (term_at table) base) set u) named (to_shown table shows base set n over listed),
      λ (is_shown, has).
          let found = from_shown table shows base set t over is_shown has in
          subst (Contains (map (term_at table) ordered)) found.2 (Contains-map (term_at table) ordered found.0 ((order.members found.0).1 found.1)),
    );
  };
  within = λ k d short.
      All-contains (λ n. n < length table) (shown_of table shows base set) (get_or ordered k d) (AreIn-shown_of table shows base set in_base over) ((order.members (get_or ordered k d)).0 (Contains-get_or ordered k d short));
}

-- the atoms so far, and one more
pub shown_more : (table : List Tree) (shows : Tree → Bool) (base set : List ℕ) (i : ℕ) (a : ℕ) → i < length set → a ≡ get_or set i a → shown_of table shows base (take (i + 1) set) ≡ shown_of table shows base (take i set) ++ shown_of table shows base (a ∷ [])
shown_more table shows base set i a here is =
    let p : ℕ → Bool = λ m. shows (term_at table m) in
    ap (shown_of table shows base) (take_more set i a here ∙ ap (λ b. take i set ++ b ∷ []) (sym is))
    ∙ ap (filter p) (map-append (name_of base) (take i set) (a ∷ []))
    ∙ filter-append p (map (name_of base) (take i set)) (map (name_of base) (a ∷ []))

-- the name of one more atom that is shown, and one that isn't
pub shown_kept : (table : List Tree) (shows : Tree → Bool) (base set : List ℕ) (i a n : ℕ) (old new : List ℕ) → i < length set → a ≡ get_or set i a → slice_get base a ≡ Some n → shows (term_at table n) ≡ true → old ≡ shown_of table shows base (take i set) → new ≡ old ++ n ∷ [] → new ≡ shown_of table shows base (take (i + 1) set)
shown_kept table shows base set i a n old new here is named is_shown so_far more =
    let same : name_of base a ≡ n = get_or_from_slice_get base a n 0 named in
    let one : shown_of table shows base (a ∷ []) ≡ n ∷ [] = ap (λ m. filter (λ k. shows (term_at table k)) (m ∷ [])) same ∙ cond-true (shows (term_at table n)) (n ∷ []) [] is_shown in
    more ∙ ap (λ xs. xs ++ n ∷ []) so_far ∙ ap (λ xs. shown_of table shows base (take i set) ++ xs) (sym one) ∙ sym (shown_more table shows base set i a here is)

pub shown_passed : (table : List Tree) (shows : Tree → Bool) (base set : List ℕ) (i a n : ℕ) (old new : List ℕ) → i < length set → a ≡ get_or set i a → slice_get base a ≡ Some n → shows (term_at table n) ≡ false → old ≡ shown_of table shows base (take i set) → new ≡ old → new ≡ shown_of table shows base (take (i + 1) set)
shown_passed table shows base set i a n old new here is named hidden so_far same_list =
    let same : name_of base a ≡ n = get_or_from_slice_get base a n 0 named in
    let none : shown_of table shows base (a ∷ []) ≡ [] = ap (λ m. filter (λ k. shows (term_at table k)) (m ∷ [])) same ∙ cond-false (shows (term_at table n)) (n ∷ []) [] hidden in
    same_list ∙ so_far ∙ sym (append-nil (shown_of table shows base (take i set))) ∙ ap (λ xs. shown_of table shows base (take i set) ++ xs) (sym none) ∙ sym (shown_more table shows base set i a here is)

-- a function is shown by its name and the number of its arguments
pub shows_named : (texts : Texts) (t : Tree) (name : List ℕ) (count : ℕ) → Some name ≡ name_in t → count ≡ tree_count (arguments_in t) → shows texts name count ≡ shows_atom texts t
shows_named texts (number n) name count is counted = absurd (none-some name (sym is))
shows_named texts (text s) name count is counted = absurd (none-some name (sym is))
shows_named texts (function f ts) name count is counted =
    let same : name ≡ f = cc in
    ap (λ x. shows texts x count) same ∙ ap (λ k. shows texts f k) counted
