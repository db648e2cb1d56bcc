-- Literals that are gathered from inputs and from assumptions, one after the other.
use Rattle.std.proofs.Common.{◌≡◌, ◌∙◌, ℕ, ◌+◌, ◌<◌, ◌++◌, List, [], ◌∷◌, length, take, get_or, All, Any, Contains, Bool, true, false, ◌||◌, Option, Some, None, inl, inr, refl, sym, ap, subst}
use Rattle.std.specs.Prelude.{◌↔◌, ◌⊎◌, slice_get}
use Rattle.std.proofs.lemmas.List.Elements.{All-push, Contains-append_left, Contains-push, Contains-push_cases}
use Rattle.ms_tree.specs.Tree.{Tree}
use Rattle.ms_call.specs.declared.command.Assumption.{Assumption}
use Rattle.ms_join.specs.declared.assumption.AtomLit.{AtomLit}
use Rattle.ms_join.specs.declared.ground_rule.Input.{Input}
use Rattle.ms_solving.specs.Listing.{tree_of_value}
use Rattle.ms_machine.specs.Machine.{IsAskOf, IsDemanded, State, by_assumption, by_input}
use Rattle.ms_complete.proofs.Lists.{all_from, any_here, any_left, any_more_cases, any_right, next_one, none_is_some, same_some, some_at}
use Rattle.ms_session.specs.Assuming.{AddsAssumed, AreExactly, IsAssumed, IsImpossibleFor, IsKnown, IsValue}
use Rattle.ms_session.specs.Kept.{IsAtomOf, IsNumberOf}

-- an input with the value that the literal says
valued : AtomLit → Input
valued lit = record { atom = lit.atom; value = Some lit.truth }

module _ (inputs : List Input) (i : ℕ) (input : Input) (within : i < length inputs) (is : input ≡ get_or inputs i input) (lits : List AtomLit) (so_far : AreExactly (IsValue (take i inputs)) lits) where
  one_more : take (i + 1) inputs ≡ take i inputs ++ input ∷ []
  one_more = next_one inputs i input within is

  value_before : (lit : AtomLit) → IsValue (take i inputs) lit → IsValue (take (i + 1) inputs) lit
  value_before lit has =
      subst (λ (xs : List Input). IsValue xs lit) (sym one_more) (Contains-append_left (take i inputs) (input ∷ []) (record { atom = lit.atom; value = Some lit.truth }) has)

  value_cases : (lit : AtomLit) → IsValue (take (i + 1) inputs) lit → IsValue (take i inputs) lit ⊎ (input ≡ record { atom = lit.atom; value = Some lit.truth })
  value_cases lit has =
      Contains-push_cases (take i inputs) input (record { atom = lit.atom; value = Some lit.truth }) (subst (λ (xs : List Input). IsValue xs lit) one_more has)

  module _ (truth : Bool) (value : input.value ≡ Some truth) where
    added : AtomLit
    added = record { atom = input.atom; truth = truth }

    is_input : input ≡ record { atom = input.atom; value = Some truth }
    is_input = λ j. record { atom = input.atom; value = value j }

    value_now : IsValue (take (i + 1) inputs) (record { atom = input.atom; truth = truth })
    value_now =
        subst (λ (xs : List Input). Contains xs (record { atom = input.atom; value = Some truth })) (sym one_more)
        (subst (λ (x : Input). Contains (take i inputs ++ input ∷ []) x) is_input (Contains-push (take i inputs) input))

    same_lit : (lit : AtomLit) → input ≡ record { atom = lit.atom; value = Some lit.truth } → record { atom = input.atom; truth = truth } ≡ lit
    same_lit lit same =
        let atom : input.atom ≡ lit.atom = ap (λ (x : Input). x.atom) same in
        let says : truth ≡ lit.truth = same_some truth lit.truth (sym value ∙ ap (λ (x : Input). x.value) same) in
        λ j. record { atom = atom j; truth = says j }

    pub value_added : AreExactly (IsValue (take (i + 1) inputs)) (lits ++ record { atom = input.atom; truth = truth } ∷ [])
    value_added lit = (
      λ has. elim (Contains-push_cases lits (record { atom = input.atom; truth = truth }) lit has) [
        | inl old ↦ value_before lit ((so_far lit).0 old)
        | inr same ↦ subst (λ (l : AtomLit). IsValue (take (i + 1) inputs) l) same value_now
      ],
      λ of. elim (value_cases lit of) [
        | inl old ↦ Contains-append_left lits (record { atom = input.atom; truth = truth } ∷ []) lit ((so_far lit).1 old)
        | inr same ↦ subst (λ (l : AtomLit). Contains (lits ++ record { atom = input.atom; truth = truth } ∷ []) l) (same_lit lit same) (Contains-push lits (record { atom = input.atom; truth = truth }))
      ],
    )

  pub value_skipped : input.value ≡ None → AreExactly (IsValue (take (i + 1) inputs)) lits
  value_skipped free lit = (
    λ has. value_before lit ((so_far lit).0 has),
    λ of. elim (value_cases lit of) [
      | inl old ↦ (so_far lit).1 old
      | inr same ↦ absurd (none_is_some lit.truth (sym free ∙ ap (λ (x : Input). x.value) same))
    ],
  )

-- what the assumption says of an atom
Says : List Tree → AtomLit → Assumption → Type 0
Says names lit given = (slice_get names lit.atom ≡ Some (tree_of_value given.atom)) × (lit.truth ≡ given.truth)

-- the number that a look-up gave
pub no_number : (names : List Tree) (t : Tree) (number : Option ℕ) → number ≡ None → IsNumberOf names t number → ¬ Contains names t
no_number names t number is found = subst (λ (n : Option ℕ). IsNumberOf names t n) is found

pub some_number : (names : List Tree) (t : Tree) (number : Option ℕ) (a : ℕ) → number ≡ Some a → IsNumberOf names t number → IsAtomOf names t a
some_number names t number a is found = subst (λ (n : Option ℕ). IsNumberOf names t n) is found

or_cases : (a b : Bool) → (a || b) ≡ true → (a ≡ true) ⊎ (b ≡ true)
or_cases true b h = inl refl
or_cases false b h = inr h

pub or_left : (a b : Bool) → a ≡ true → (a || b) ≡ true
or_left true b h = refl
or_left false b h = cc

pub or_second : (a b : Bool) → a ≡ false → (a || b) ≡ b
or_second true b h = cc
or_second false b h = refl

or_right : (a b : Bool) → b ≡ true → (a || b) ≡ true
or_right true b h = refl
or_right false b h = h

module _ (names : List Tree) (assume : List Assumption) (i : ℕ) (given : Assumption) (within : i < length assume) (is : given ≡ get_or assume i given) where
  more_assumed : take (i + 1) assume ≡ take i assume ++ given ∷ []
  more_assumed = next_one assume i given within is

  before : (P : Assumption → Type 0) → Any P (take i assume) → Any P (take (i + 1) assume)
  before P some = subst (Any P) (sym more_assumed) (any_left P (take i assume) (given ∷ []) some)

  now : (P : Assumption → Type 0) → P given → Any P (take (i + 1) assume)
  now P holds = subst (Any P) (sym more_assumed) (any_right P (take i assume) (given ∷ []) (any_here P given [] holds))

  cases : (P : Assumption → Type 0) → Any P (take (i + 1) assume) → Any P (take i assume) ⊎ P given
  cases P some = any_more_cases P (take i assume) given (subst (Any P) more_assumed some)

  pub known_more : (number : Option ℕ) → IsNumberOf names (tree_of_value given.atom) number → All (IsKnown names) (take i assume) → All (IsKnown names) (take (i + 1) assume)
  known_more number found all = subst (All (IsKnown names)) (sym more_assumed) (All-push (IsKnown names) (take i assume) given all (number, found))

  module _ (a : ℕ) (atom : IsAtomOf names (tree_of_value given.atom) a) where
    same_assumed : (lit : AtomLit) → Says names lit given → record { atom = a; truth = given.truth } ≡ lit
    unfolding Says
    same_assumed lit says =
        let at : lit.atom ≡ a = atom.only lit.atom says.0 in
        λ j. record { atom = sym at j; truth = sym says.1 j }

    pub known_added : (old lits : List AtomLit) → AddsAssumed names (take i assume) old lits → AddsAssumed names (take (i + 1) assume) old (lits ++ record { atom = a; truth = given.truth } ∷ [])
    unfolding Says
    known_added old lits so_far lit = (
      λ has. elim (Contains-push_cases lits (record { atom = a; truth = given.truth }) lit has) [
        | inl there ↦ elim ((so_far lit).0 there) [
          | inl first ↦ inl first
          | inr some ↦ inr (before (Says names lit) some)
        ]
        | inr same ↦ inr (subst (λ (l : AtomLit). IsAssumed names (take (i + 1) assume) l) same (now (Says names (record { atom = a; truth = given.truth })) (atom.there, refl)))
      ],
      λ of. elim of [
        | inl first ↦ Contains-append_left lits (record { atom = a; truth = given.truth } ∷ []) lit ((so_far lit).1 (inl first))
        | inr some ↦ elim (cases (Says names lit) some) [
          | inl there ↦ Contains-append_left lits (record { atom = a; truth = given.truth } ∷ []) lit ((so_far lit).1 (inr there))
          | inr says ↦ subst (λ (l : AtomLit). Contains (lits ++ record { atom = a; truth = given.truth } ∷ []) l) (same_assumed lit says) (Contains-push lits (record { atom = a; truth = given.truth }))
        ]
      ],
    )

    pub possible_known : (impossible : Bool) → (impossible ≡ true) ↔ IsImpossibleFor names (take i assume) → (impossible ≡ true) ↔ IsImpossibleFor names (take (i + 1) assume)
    possible_known impossible so_far = (
      λ is_so. before (λ g. (g.truth ≡ true) × ¬ Contains names (tree_of_value g.atom)) (so_far.0 is_so),
      λ some. elim (cases (λ g. (g.truth ≡ true) × ¬ Contains names (tree_of_value g.atom)) some) [
        | inl there ↦ so_far.1 there
        | inr here ↦ absurd (here.1 (some_at names a (tree_of_value given.atom) atom.there))
      ],
    )

  module _ (missing : ¬ Contains names (tree_of_value given.atom)) where
    pub unknown_skipped : (old lits : List AtomLit) → AddsAssumed names (take i assume) old lits → AddsAssumed names (take (i + 1) assume) old lits
    unfolding Says
    unknown_skipped old lits so_far lit = (
      λ has. elim ((so_far lit).0 has) [
        | inl first ↦ inl first
        | inr some ↦ inr (before (Says names lit) some)
      ],
      λ of. elim of [
        | inl first ↦ (so_far lit).1 (inl first)
        | inr some ↦ elim (cases (Says names lit) some) [
          | inl there ↦ (so_far lit).1 (inr there)
          | inr says ↦ absurd (missing (some_at names lit.atom (tree_of_value given.atom) says.0))
        ]
      ],
    )

    pub impossible_unknown : (impossible : Bool) → (impossible ≡ true) ↔ IsImpossibleFor names (take i assume) → ((impossible || given.truth) ≡ true) ↔ IsImpossibleFor names (take (i + 1) assume)
    impossible_unknown impossible so_far = (
      λ either. elim (or_cases impossible given.truth either) [
        | inl is_so ↦ before (λ g. (g.truth ≡ true) × ¬ Contains names (tree_of_value g.atom)) (so_far.0 is_so)
        | inr truth ↦ now (λ g. (g.truth ≡ true) × ¬ Contains names (tree_of_value g.atom)) (truth, missing)
      ],
      λ some. elim (cases (λ g. (g.truth ≡ true) × ¬ Contains names (tree_of_value g.atom)) some) [
        | inl there ↦ or_left impossible given.truth (so_far.1 there)
        | inr here ↦ or_right impossible given.truth here.0
      ],
    )

-- Literals that are gathered from inputs and assumptions, each once, are an ask of the machine.
module _ (s : State) (assume : List Assumption) (inputs : List Input) (first second third whole : List AtomLit) (same_inputs : inputs ≡ s.join.inputs) (values : AreExactly (IsValue inputs) first)
    (adds : AddsAssumed s.names assume first second) (once : (lit : AtomLit) → Contains third lit ↔ Contains second lit) (is_whole : whole ≡ third) where
  is_demanded : (lit : AtomLit) → Contains whole lit → IsDemanded s assume lit
  is_demanded lit has = elim ((adds lit).0 ((once lit).0 (subst (λ (xs : List AtomLit). Contains xs lit) is_whole has))) [
    | inl valued_so ↦ by_input (subst (λ (xs : List Input). IsValue xs lit) same_inputs ((values lit).0 valued_so))
    | inr assumed ↦ by_assumption assumed
  ]

  gathered : (lit : AtomLit) → Contains first lit ⊎ IsAssumed s.names assume lit → Contains whole lit
  gathered lit of = subst (λ (xs : List AtomLit). Contains xs lit) (sym is_whole) ((once lit).1 ((adds lit).1 of))

  has_demanded : (lit : AtomLit) → IsDemanded s assume lit → Contains whole lit
  has_demanded lit (by_input value) = gathered lit (inl ((values lit).1 (subst (λ (xs : List Input). IsValue xs lit) (sym same_inputs) value)))
  has_demanded lit (by_assumption assumed) = gathered lit (inr assumed)

  pub is_ask : (asked limit : ℕ) (impossible : Bool) → (impossible ≡ true) ↔ IsImpossibleFor s.names assume
      → IsAskOf s asked limit assume (record { count = asked; limit = limit; assume = whole; impossible = impossible })
  is_ask asked limit impossible so = record {
    count = refl;
    limit_is = refl;
    each = all_from (IsDemanded s assume) whole is_demanded;
    all = has_demanded;
    impossible = so;
  }
