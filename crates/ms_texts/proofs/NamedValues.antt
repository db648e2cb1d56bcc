-- Values of names in lists.
use Rattle.std.proofs.Common.{◌≡◌, ℕ, ◌+◌, ◌<◌, ◌≤◌, Bool, true, false, cond, if◌then◌else◌, List, [], ◌∷◌, ◌++◌, length, take, drop, get_or, Option, Some, None, refl, sym, ap, ◌∙◌}
use Rattle.std.specs.Prelude.{Vec, nat_eq}
use Rattle.std.specs.Map.{lookup}
use Rattle.std.specs.Cmp.Lexicographic.{pointwise, nat_list_eq_equiv}
use Rattle.std.proofs.lemmas.List.{drop_more, map-append, take-map}
use Rattle.std.proofs.Math.ListN.{drop_of_length-le}
use Rattle.indexmap.specs.IndexMap.{IndexMap, insert_entry}
use Rattle.indexmap.proofs.CallerLemmas.{insert_entry-new}
use Rattle.ms_grammar.specs.declared.value.Value.{Value}
use Rattle.ms_core.specs.Texts.{Texts, value_in, is_name, constant, defined}
use Rattle.ms_texts.specs.Additions.{named}

-- what is left of a list from the place of an element on
pub left_from : {A : Type 0} (xs : List A) (i : ℕ) (x : A) → i < length xs → x ≡ get_or xs i x → drop i xs ≡ x ∷ drop (i + 1) xs
left_from xs i x inside is = drop_more xs i x inside ∙ ap (λ y. y ∷ drop (i + 1) xs) (sym is)

value_at : (xs : List (List ℕ × Value)) (name : List ℕ) (i : ℕ) (x : List ℕ × Value) → i < length xs → x ≡ get_or xs i x → value_in (drop i xs) name ≡ (if is_name x.0 name then Some x.1 else value_in (drop (i + 1) xs) name)
unfolding value_in
value_at xs name i x inside is = ap (λ l. value_in l name) (left_from xs i x inside is)

pub value_found : (xs : List (List ℕ × Value)) (name : List ℕ) (i : ℕ) (x : List ℕ × Value) → i < length xs → x ≡ get_or xs i x → is_name x.0 name ≡ true → value_in (drop i xs) name ≡ Some x.1
value_found xs name i x inside is named = value_at xs name i x inside is ∙ ap (λ b. if b then Some x.1 else value_in (drop (i + 1) xs) name) named

pub value_further : (xs : List (List ℕ × Value)) (name : List ℕ) (i : ℕ) (x : List ℕ × Value) → i < length xs → x ≡ get_or xs i x → is_name x.0 name ≡ false → value_in (drop i xs) name ≡ value_in (drop (i + 1) xs) name
value_further xs name i x inside is named = value_at xs name i x inside is ∙ ap (λ b. if b then Some x.1 else value_in (drop (i + 1) xs) name) named

pub value_nowhere : (xs : List (List ℕ × Value)) (name : List ℕ) (i : ℕ) → length xs ≤ i → value_in (drop i xs) name ≡ None
unfolding value_in
value_nowhere xs name i past = ap (λ l. value_in l name) (drop_of_length-le xs past)

-- the first value, or else the other one
abbrev pub or_else : Option Value → Option Value → Option Value
or_else (Some v) other = Some v
or_else None other = other

or_else_if : (b : Bool) (v : Value) (x y z : Option Value) → z ≡ or_else x y → (if b then Some v else z) ≡ or_else (if b then Some v else x) y
or_else_if true v x y z e = refl
or_else_if false v x y z e = e

pub value_in_append : (xs ys : List (List ℕ × Value)) (name : List ℕ) → value_in (xs ++ ys) name ≡ or_else (value_in xs name) (value_in ys name)
unfolding value_in
value_in_append [] ys name = refl
value_in_append (x ∷ xs) ys name = or_else_if (is_name x.0 name) x.1 (value_in xs name) (value_in ys name) (value_in (xs ++ ys) name) (value_in_append xs ys name)

pub constant_given : (t : Texts) (name : List ℕ) (v : Value) → value_in t.given name ≡ Some v → constant t name ≡ Some v
constant_given t name v is = value_in_append t.given (defined t) name ∙ ap (λ o. or_else o (value_in (defined t) name)) is

pub constant_defined : (t : Texts) (name : List ℕ) → value_in t.given name ≡ None → constant t name ≡ value_in (defined t) name
constant_defined t name is = value_in_append t.given (defined t) name ∙ ap (λ o. or_else o (value_in (defined t) name)) is

-- a look-up by the hash of a name finds its value
pub value_in-named : {A : Type 0} (entries : List (Vec ℕ A × Value)) (name : List ℕ) → lookup (λ (key : Vec ℕ A). pointwise nat_eq name key.items) entries ≡ value_in (named entries) name
unfolding value_in
value_in-named [] name = refl
value_in-named (e ∷ es) name =
    ap (λ b. cond b (Some e.1) (lookup (λ key. pointwise nat_eq name key.items) es)) (nat_list_eq_equiv.symm name e.0.items)
    ∙ ap (λ o. if is_name e.0.items name then Some e.1 else o) (value_in-named es name)

pub named-append : {A : Type 0} (es fs : List (Vec ℕ A × Value)) → named (es ++ fs) ≡ named es ++ named fs
named-append es fs = map-append (λ e. (e.0.items, e.1)) es fs

pub named-take : {A : Type 0} (n : ℕ) (es : List (Vec ℕ A × Value)) → named (take n es) ≡ take n (named es)
named-take n es = sym (take-map (λ e. (e.0.items, e.1)) n es)

abbrev vec_eq : {A : Type 0} → Vec ℕ A → Vec ℕ A → Bool
vec_eq x y = pointwise nat_eq x.items y.items

-- what a map is with the value of a name that it doesn't have
pub named-new : {A S : Type 0} (m : IndexMap (Vec ℕ A) Value S) (after : List (Vec ℕ A × Value)) (name : List ℕ) (k : Vec ℕ A) (v : Value) → after ≡ insert_entry vec_eq m.entries k v → k.items ≡ name → value_in (named m.entries) name ≡ None → named after ≡ named m.entries ++ (name, v) ∷ []
named-new {A} {S} m after name k v inserted key none =
    let absent : lookup (vec_eq k) m.entries ≡ None = ap (λ n. lookup (λ (y : Vec ℕ A). pointwise nat_eq n y.items) m.entries) key ∙ value_in-named m.entries name ∙ none in
    ap named (inserted ∙ insert_entry-new vec_eq m k v absent)
    ∙ named-append m.entries ((k, v) ∷ [])
    ∙ ap (λ n. named m.entries ++ (n, v) ∷ []) key
