-- Keys and the things that they stand for.
use Rattle.std.proofs.Common.{◌≡◌, ◌≢◌, ◌∙◌, ◌⊎◌, ◌<◌, ℕ, Bool, true, false, ◌&&◌, nat_eq, if◌then◌else◌, List, [], ◌∷◌, ◌++◌, Some, map, length, get_or, refl, sym, ap, subst, inl, inr, arith, eq-eqb}
use Rattle.std.specs.Prelude.{slice_get}
use Rattle.std.specs.List.{AllPairs, Contains, IsDistinct, list_any, position}
use Rattle.std.specs.Cmp.Lexicographic.{pointwise}
use Rattle.std.proofs.lemmas.Bool.Decides.{Decides-eqb}
use Rattle.std.proofs.lemmas.Bool.{and_parts, false≢true}
use Rattle.std.proofs.lemmas.Slice.Eq.{bytes_eq-Decides}
use Rattle.std.proofs.lemmas.List.{length-map, map-append}
use Rattle.std.proofs.lemmas.Option.{slice_get-get_or}
use Rattle.std.proofs.lemmas.List.Elements.{All-from_recursion, All-map, All-weaker}
use Rattle.std.proofs.lemmas.List.Folds.{Any-from_list_any, list_any-from_Any}
use Rattle.std.proofs.lemmas.List.Kept.{AllPairs-cons}
use Rattle.std.proofs.lemmas.List.Quantifiers.{position-Some}
use Rattle.indexmap.specs.IndexSet.{insert_key}
use Rattle.ms_join.specs.Things.{Body, Thing}
use Rattle.ms_join.specs.Things.Thing.{atom, body, tuple, aggregate}
use Rattle.ms_complete.specs.declared.key.ThingKey.{ThingKey}
use Rattle.ms_complete.specs.declared.key.ThingKey.TheVariants.{Atom, Body as BodyKey}
use Rattle.ms_complete.specs.contracts.key.ThingKeyPartialEq.TheImpl.{eq-value}
use Rattle.ms_complete.specs.Keys.{plain, thing_in}
use Rattle.ms_complete.proofs.Lists.{any_from, member_of, at_map, member_map, member_map_cases}

abbrev pub key_eq : ThingKey → ThingKey → Bool
key_eq a b = (eq-value).it a b

bodies_eq : (p n q m : List ℕ) → key_eq (BodyKey p n) (BodyKey q m) ≡ (pointwise nat_eq p q && pointwise nat_eq n m)
bodies_eq p n q m = refl

both_true : (x y : Bool) → x ≡ true → y ≡ true → (x && y) ≡ true
both_true true true p q = refl
both_true true false p q = q
both_true false y p q = p

same_from_eq : (a b : ThingKey) → key_eq a b ≡ true → thing_in a ≡ thing_in b
same_from_eq (Atom a) (Atom b) e = ap atom ((Decides-eqb a b).0 e)
same_from_eq (Atom a) (BodyKey q m) e = absurd (false≢true e)
same_from_eq (BodyKey p n) (Atom b) e = absurd (false≢true e)
same_from_eq (BodyKey p n) (BodyKey q m) e =
    let parts = and_parts (pointwise nat_eq p q) (pointwise nat_eq n m) e in
    let pos : p ≡ q = (bytes_eq-Decides p q).0 parts.0 in
    let neg : n ≡ m = (bytes_eq-Decides n m).0 parts.1 in
    ap (λ (x : List ℕ). body (plain x n)) pos ∙ ap (λ (x : List ℕ). body (plain q x)) neg

-- what an atom or a body is made of, and nothing of the others
abbrev number_in : Thing → ℕ
number_in (atom a) = a
number_in (body b) = 0
number_in (tuple t) = 0
number_in (aggregate g) = 0

abbrev body_in : Thing → Body
body_in (atom a) = plain [] []
body_in (body b) = b
body_in (tuple t) = plain [] []
body_in (aggregate g) = plain [] []

abbrev is_atom : Thing → Bool
is_atom (atom a) = true
is_atom (body b) = false
is_atom (tuple t) = false
is_atom (aggregate g) = false

pub same_atom : (a b : ℕ) → atom a ≡ atom b → a ≡ b
same_atom a b e = ap number_in e

pub same_body : (a b : Body) → body a ≡ body b → a ≡ b
same_body a b e = ap body_in e

pub atom_is_body : (a : ℕ) (b : Body) → atom a ≡ body b → ⊥
atom_is_body a b e = false≢true (sym (ap is_atom e))

eq_from_same : (a b : ThingKey) → thing_in a ≡ thing_in b → key_eq a b ≡ true
eq_from_same (Atom a) (Atom b) e = eq-eqb a b (same_atom a b e)
eq_from_same (Atom a) (BodyKey q m) e = absurd (atom_is_body a (plain q m) e)
eq_from_same (BodyKey p n) (Atom b) e = absurd (atom_is_body b (plain p n) (sym e))
eq_from_same (BodyKey p n) (BodyKey q m) e =
    let same = same_body (plain p n) (plain q m) e in
    both_true (pointwise nat_eq p q) (pointwise nat_eq n m)
    ((bytes_eq-Decides p q).1 (ap (λ (b : Body). b.pos) same)) ((bytes_eq-Decides n m).1 (ap (λ (b : Body). b.neg) same))

-- a key that equals one of the keys stands for a thing of theirs, and another doesn't
pub there_from_any : (key : ThingKey) (keys : List ThingKey) → list_any (key_eq key) keys ≡ true → Contains (map thing_in keys) (thing_in key)
there_from_any key keys e =
    let found = Any-from_list_any (key_eq key) keys e in
    subst (Contains (map thing_in keys)) (sym (same_from_eq key found.1 found.4)) (member_map thing_in keys found.1 (member_of (λ k. key_eq key k ≡ true) keys found))

pub any_from_there : (key : ThingKey) (keys : List ThingKey) → Contains (map thing_in keys) (thing_in key) → list_any (key_eq key) keys ≡ true
any_from_there key keys has =
    let (other, among, same) = member_map_cases thing_in keys (thing_in key) has in
    list_any-from_Any (key_eq key) keys (any_from (λ k. key_eq key k ≡ true) keys other among (eq_from_same key other (sym same)))

-- the place of a key is that of its thing
pub place_is : (key : ThingKey) (keys : List ThingKey) (place : ℕ) → position (key_eq key) keys ≡ Some place → slice_get (map thing_in keys) place ≡ Some (thing_in key)
place_is key keys place is =
    let (within, passes, first) = position-Some (key_eq key) keys place key is in
    at_map thing_in keys place (get_or keys place key) (slice_get-get_or keys place key within)
    ∙ ap Some (sym (same_from_eq key (get_or keys place key) passes))

pub stored_is : (key : ThingKey) (keys : List ThingKey) (place : ℕ) → ((k : ThingKey) × (slice_get keys place ≡ Some k) × (key_eq key k ≡ true))
    → slice_get (map thing_in keys) place ≡ Some (thing_in key)
stored_is key keys place (k, at, same) = at_map thing_in keys place k at ∙ ap Some (sym (same_from_eq key k same))

-- different keys stand for different things
pub once_from_distinct : (keys : List ThingKey) → IsDistinct key_eq keys → AllPairs (λ t u. t ≢ u) (map thing_in keys)
unfolding IsDistinct
once_from_distinct [] d = λ i j x less within. absurd (omega arith)
once_from_distinct (key ∷ keys) d =
    AllPairs-cons (λ t u. t ≢ u) (thing_in key) (map thing_in keys)
    (All-map (λ u. thing_in key ≢ u) thing_in keys
    (All-weaker (λ k. key_eq key k ≡ false) (λ k. thing_in key ≢ thing_in k) (λ k apart same. false≢true (sym apart ∙ eq_from_same key k same)) keys
    (All-from_recursion (λ k. key_eq key k ≡ false) keys d.0)))
    (once_from_distinct keys d.1)

-- what an insertion does to the things
inserted_by : (b : Bool) (keys : List ThingKey) (key : ThingKey) → list_any (key_eq key) keys ≡ b
    → (Contains (map thing_in keys) (thing_in key) × (map thing_in (if b then keys else keys ++ key ∷ []) ≡ map thing_in keys))
    ⊎ ((¬ Contains (map thing_in keys) (thing_in key)) × (map thing_in (if b then keys else keys ++ key ∷ []) ≡ map thing_in keys ++ thing_in key ∷ []))
inserted_by true keys key e = inl (there_from_any key keys e, refl)
inserted_by false keys key e = inr (λ has. false≢true (sym e ∙ any_from_there key keys has), map-append thing_in keys (key ∷ []))

pub inserted : (old new : List ThingKey) (key : ThingKey) → new ≡ insert_key key_eq old key
    → (Contains (map thing_in old) (thing_in key) × (map thing_in new ≡ map thing_in old))
    ⊎ ((¬ Contains (map thing_in old) (thing_in key)) × (map thing_in new ≡ map thing_in old ++ thing_in key ∷ []))
inserted old new key is =
    let P : List ThingKey → Type 0 = λ keys. (Contains (map thing_in old) (thing_in key) × (map thing_in keys ≡ map thing_in old))
    ⊎ ((¬ Contains (map thing_in old) (thing_in key)) × (map thing_in keys ≡ map thing_in old ++ thing_in key ∷ [])) in
    subst P (sym is) (inserted_by (list_any (key_eq key) old) old key refl)

-- A body of a key has no aggregates.
plain_thing : (k : ThingKey) (b : Body) → thing_in k ≡ body b → plain b.pos b.neg ≡ b
plain_thing (Atom a) b e = absurd (atom_is_body a b e)
plain_thing (BodyKey p n) b e = subst (λ (c : Body). plain c.pos c.neg ≡ c) (same_body (plain p n) b e) refl

pub key_of_body : (keys : List ThingKey) (b : Body) (pos neg : List ℕ) → Contains (map thing_in keys) (body b) → pos ≡ b.pos → neg ≡ b.neg → thing_in (BodyKey pos neg) ≡ body b
key_of_body keys b pos neg has first second =
    let (k, among, same) = member_map_cases thing_in keys (body b) has in
    ap (λ (x : List ℕ). body (plain x neg)) first ∙ (ap (λ (x : List ℕ). body (plain b.pos x)) second ∙ ap body (plain_thing k b same))

-- the thing of the key in a place
pub at_key : (keys slice : List ThingKey) (number : ℕ) (k key : ThingKey) → slice ≡ keys → number < length (map thing_in keys) → k ≡ get_or slice number k → k ≡ key → slice_get (map thing_in keys) number ≡ Some (thing_in key)
at_key keys slice number k key slice_is within is same =
    let long : length (map thing_in keys) ≡ length keys = length-map keys thing_in in
    let inside : number < length keys = omega (arith, within, long) in
    at_map thing_in keys number (get_or keys number k) (slice_get-get_or keys number k inside)
    ∙ ap (λ (x : ThingKey). Some (thing_in x)) (ap (λ (ks : List ThingKey). get_or ks number k) (sym slice_is) ∙ (sym is ∙ same))
