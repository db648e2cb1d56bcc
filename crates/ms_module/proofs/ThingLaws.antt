-- The things of rules without aggregates: their atoms and bodies.
use Rattle.std.proofs.Common.{◌≡◌, ◌≢◌, ℕ, zero, suc, ◌+◌, ◌<◌, inl, inr, List, [], ◌∷◌, ◌++◌, map, length, get_or, sym, ap, ◌∙◌, subst, arith, length-append, Contains}
use Rattle.std.specs.List.{All, AllPairs, Any}
use Rattle.std.proofs.lemmas.Bool.{cases_lt}
use Rattle.std.proofs.lemmas.List.{get_or_default, length-map}
use Rattle.std.proofs.lemmas.List.Elements.{All-append, All-contains, Contains-append_left, Contains-append_right, Contains-get_or}
use Rattle.std.proofs.lemmas.List.Kept.{AllPairs-cons}
use Rattle.std.proofs.Math.ListN.{get_or-map}
use Rattle.ms_join.specs.declared.aggregate.SignedAgg.{SignedAgg}
use Rattle.ms_join.specs.declared.aggregate.GroundAgg.{GroundAgg}
use Rattle.ms_join.specs.declared.ground_rule.GroundRule.{GroundRule}
use Rattle.ms_join.specs.Composability.{HasTooMany, most_things}
use Rattle.ms_join.specs.Things.{Body, Thing, atom, body, tuple, aggregate, AnyAggregate, IsThing}
use Rattle.ms_module.specs.Bodies.{ArePlain, IsBodyIn}
use Rattle.ms_module.proofs.BodyLaws.{AllPairs-together}

-- the atoms below a number
unfoldable atoms_below : ℕ → List Thing
atoms_below zero = []
atoms_below (suc n) = atom n ∷ atoms_below n

atoms_len : (n : ℕ) → length (atoms_below n) ≡ n
unfolding atoms_below
atoms_len zero = omega arith
atoms_len (suc n) = let rest = atoms_len n in omega (arith, rest)

atom_there : (n a : ℕ) → a < n → Contains (atoms_below n) (atom a)
unfolding atoms_below
atom_there zero a less = absurd (omega (arith, less))
atom_there (suc n) a less = elim (cases_lt a n) [
  | inl before ↦ let (k, within, is) = atom_there n a before in (suc k, omega (arith, within), is)
  | inr more ↦ let same : n ≡ a = omega (arith, less, more) in (zero, omega arith, ap atom same)
]

-- a thing among them is an atom
record AtomAt (n : ℕ) (t : Thing) : Type 0 where
  number : ℕ
  less : number < n
  is : t ≡ atom number

atom_at : (n : ℕ) (t : Thing) → Contains (atoms_below n) t → AtomAt n t
unfolding atoms_below
atom_at zero t (k, within, is) = absurd (omega (arith, within))
atom_at (suc n) t (zero, within, is) = record { number = n; less = omega arith; is = sym is }
atom_at (suc n) t (suc k, within, is) =
    let before = atom_at n t (k, omega (arith, within), is) in
    record { number = before.number; less = (let less = before.less in omega (arith, less)); is = before.is }

atoms_once : (n : ℕ) → AllPairs (λ t u. t ≢ u) (atoms_below n)
unfolding atoms_below
atoms_once zero = λ i j d less within. absurd (omega (arith, within))
atoms_once (suc n) =
    AllPairs-cons (λ t u. t ≢ u) (atom n) (atoms_below n)
    (λ k d within same.
    let at = atom_at n (get_or (atoms_below n) k d) (Contains-get_or (atoms_below n) k d within) in
    let atoms : atom n ≡ atom at.number = same ∙ at.is in
    let number : n ≡ at.number = cc in
    let less = at.less in
    omega (arith, number, less))
    (atoms_once n)

-- ---- bodies

no_body : Body
no_body = record { pos = []; neg = []; aggs = [] }

body_in_place : (bodies : List Body) (k : ℕ) (d : Thing) → k < length bodies → get_or (map body bodies) k d ≡ body (get_or bodies k no_body)
body_in_place bodies k d within =
    let long = length-map bodies body in
    get_or_default (map body bodies) k d (body no_body) (omega (arith, within, long)) ∙ get_or-map body bodies k no_body

body_there : (bodies : List Body) (b : Body) → Contains bodies b → Contains (map body bodies) (body b)
body_there bodies b (k, within, is) = (k, let long = length-map bodies body in omega (arith, within, long), get_or-map body bodies k b ∙ ap body is)

-- a thing among them is a body
record BodyAt (bodies : List Body) (t : Thing) : Type 0 where
  value : Body
  there : Contains bodies value
  is : t ≡ body value

body_at : (bodies : List Body) (t : Thing) → Contains (map body bodies) t → BodyAt bodies t
body_at bodies t (k, within, is) =
    let long = length-map bodies body in
    let inside : k < length bodies = omega (arith, within, long) in
    record { value = get_or bodies k no_body; there = Contains-get_or bodies k no_body inside; is = sym is ∙ body_in_place bodies k t inside }

bodies_once : (bodies : List Body) → AllPairs (λ b c. b ≢ c) bodies → AllPairs (λ t u. t ≢ u) (map body bodies)
bodies_once bodies once i j d less within same =
    let long = length-map bodies body in
    let inside : j < length bodies = omega (arith, within, long) in
    let first = body_in_place bodies i d (omega (arith, less, inside)) in
    let second = body_in_place bodies j d inside in
    let bodies_same : body (get_or bodies i no_body) ≡ body (get_or bodies j no_body) = sym first ∙ (same ∙ second) in
    once i j no_body less inside cc

-- ---- both

pub things_of : ℕ → List Body → List Thing
things_of n bodies = atoms_below n ++ map body bodies

pub things_len : (n : ℕ) (bodies : List Body) → length (things_of n bodies) ≡ n + length bodies
unfolding things_of
things_len n bodies =
    let all = length-append (atoms_below n) (map body bodies) in
    let atoms = atoms_len n in
    let long = length-map bodies body in
    omega (arith, all, atoms, long)

pub things_once : (n : ℕ) (bodies : List Body) → AllPairs (λ b c. b ≢ c) bodies → AllPairs (λ t u. t ≢ u) (things_of n bodies)
unfolding things_of
things_once n bodies once =
    AllPairs-together (atoms_below n) (map body bodies) (atoms_once n) (bodies_once bodies once)
    (λ t in_bodies in_atoms.
    let left = atom_at n t in_atoms in
    let right = body_at bodies t in_bodies in
    let both : atom left.number ≡ body right.value = sym left.is ∙ right.is in
    cc)

body_is_thing : (n : ℕ) (rules : List GroundRule) (b : Body) → IsBodyIn rules b → IsThing n rules (body b)
body_is_thing n rules b (k, rule, within, at, is) = (k, rule, within, at, inl is)

pub are_things : (n : ℕ) (rules : List GroundRule) (bodies : List Body) → ((b : Body) → Contains bodies b → IsBodyIn rules b) → All (IsThing n rules) (things_of n bodies)
unfolding things_of
are_things n rules bodies each =
    All-append (IsThing n rules) (atoms_below n) (map body bodies)
    (λ k d within.
    let at = atom_at n (get_or (atoms_below n) k d) (Contains-get_or (atoms_below n) k d within) in
    subst (IsThing n rules) (sym at.is) at.less)
    (λ k d within.
    let at = body_at bodies (get_or (map body bodies) k d) (Contains-get_or (map body bodies) k d within) in
    subst (IsThing n rules) (sym at.is) (body_is_thing n rules at.value (each at.value at.there)))

none_of_plain : (Is : GroundAgg → Type 0) (rules : List GroundRule) (rule : GroundRule) → ArePlain rules → Contains rules rule → ¬ AnyAggregate Is rule
none_of_plain Is rules rule plain there any =
    let empty = All-contains (λ (r : GroundRule). r.aggs ≡ []) rules rule plain there in
    let inside : Any (λ (s : SignedAgg). Is s.agg) [] = subst (λ (ss : List SignedAgg). Any (λ (s : SignedAgg). Is s.agg) ss) empty any in
    let less = inside.2 in
    omega (arith, less)

-- each thing of the rules is among them
pub thing_there : (n : ℕ) (rules : List GroundRule) (bodies : List Body) → ArePlain rules → ((b : Body) → IsBodyIn rules b → Contains bodies b) → (t : Thing) → IsThing n rules t → Contains (things_of n bodies) t
unfolding things_of
thing_there n rules bodies plain all (atom a) is = Contains-append_left (atoms_below n) (map body bodies) (atom a) (atom_there n a is)
thing_there n rules bodies plain all (body b) (k, rule, within, at, is) = elim is [
  | inl same ↦ Contains-append_right (atoms_below n) (map body bodies) (body b) (body_there bodies b (all b (k, rule, within, at, same)))
  | inr inside ↦ absurd (none_of_plain _ rules rule plain (k, within, at) inside)
]
thing_there n rules bodies plain all (tuple t) (k, rule, within, at, is) = absurd (none_of_plain _ rules rule plain (k, within, at) is)
thing_there n rules bodies plain all (aggregate g) (k, rule, within, at, is) = absurd (none_of_plain _ rules rule plain (k, within, at) is)

-- the atoms alone may be too many
pub many_atoms : (n : ℕ) (rules : List GroundRule) → most_things < n → HasTooMany n rules
many_atoms n rules many = record {
  things = things_of n [];
  each = are_things n rules [] (λ b (k, within, is). absurd (omega (arith, within)));
  once = things_once n [] (λ i j d less within. absurd (omega (arith, within)));
  many = let long = things_len n [] in omega (arith, many, long);
}
