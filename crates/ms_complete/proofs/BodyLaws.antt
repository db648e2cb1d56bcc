-- The completion of a body, by numbers and by things.
use Rattle.std.proofs.Common.{◌≡◌, ◌≢◌, ◌∙◌, ◌+◌, ◌<◌, ◌≤◌, ℕ, not, Bool, List, [], ◌∷◌, ◌++◌, Option, Some, take, length, get_or, refl, sym, ap, subst, inl, inr, arith, append_assoc}
use Rattle.std.specs.Prelude.{slice_get}
use Rattle.std.specs.List.{All, AllPairs, Any, Contains}
use Rattle.std.proofs.lemmas.Bool.{cases_eq}
use Rattle.std.proofs.lemmas.List.{map-append}
use Rattle.std.proofs.lemmas.List.Elements.{All-cons, All-contains, Contains-push, Contains-push_cases}
use Rattle.std.proofs.lemmas.Option.{slice_get_within}
use Rattle.ms_lits.specs.declared.lit.Lit.{Lit}
use Rattle.ms_lits.specs.Literals.{Nogood, opposite_of}
use Rattle.ms_nogood.specs.Store.{Store}
use Rattle.ms_join.specs.Things.{Body, Thing}
use Rattle.ms_join.specs.Things.Thing.{atom, body}
use Rattle.ms_things.specs.Signs.{Signed, IsFor, IsNogoodOf, plus, minus, turned}
use Rattle.ms_things.specs.Completion.{parts_of}
use Rattle.ms_complete.specs.Bases.{AddsExactly}
use Rattle.ms_complete.specs.Numbering.{AreDeclared}
use Rattle.ms_complete.specs.Rules.{holds, fails, signed_atoms, PartsSay, BodySays, BodyNogood, ThingNogood, ThingSays, NewSay}
use Rattle.ms_complete.specs.Sets.{Match, Writes, pair}
use Rattle.ms_complete.proofs.Lists.{any_from, any_here, any_later, any_left, member_of, some_at, all_from, next_one}
use Rattle.ms_complete.proofs.NumberLaws.{match_push}
use Rattle.ms_complete.proofs.Stores.{adds_none, adds_same, adds_then}
use Rattle.ms_complete.proofs.Writing.{nogood_from, writes_from}
use Rattle.ms_complete.proofs.Carried.{match_two, thing_says}

module _ (things : List Thing) (b : Body) (number : ℕ) (parts : List Lit) (at : slice_get things number ≡ Some (body b)) (paired : Match (IsFor things) (parts_of b) parts) where
  pair_for : (s : Signed) (part : Lit) → IsFor things s part → Match (IsFor things) (plus (body b) ∷ turned s ∷ []) (pair (holds number) (opposite_of part))
  pair_for s part f = match_two things (plus (body b)) (turned s) (holds number) (opposite_of part) (at, refl) (f.0, ap not f.1)

  whole_match : Match (IsFor things) (minus (body b) ∷ parts_of b) (parts ++ fails number ∷ [])
  whole_match = record {
    each = all_from (λ l. Any (λ s. IsFor things s l) (minus (body b) ∷ parts_of b)) (parts ++ fails number ∷ []) (λ l has. elim (Contains-push_cases parts (fails number) l has) [
      | inl before ↦
          any_later (λ s. IsFor things s l) (minus (body b)) (parts_of b) (All-contains (λ (l : Lit). Any (λ s. IsFor things s l) (parts_of b)) parts l paired.each before)
      | inr last ↦ any_here (λ s. IsFor things s l) (minus (body b)) (parts_of b) (subst (IsFor things (minus (body b))) last (at, refl))
    ]);
    all = All-cons (λ (s : Signed). Any (IsFor things s) (parts ++ fails number ∷ [])) (minus (body b)) (parts_of b)
        (any_from (IsFor things (minus (body b))) (parts ++ fails number ∷ []) (fails number) (Contains-push parts (fails number)) (at, refl))
        (all_from (λ s. Any (IsFor things s) (parts ++ fails number ∷ [])) (parts_of b) (λ s has.
        any_left (IsFor things s) parts (fails number ∷ []) (All-contains (λ (t : Signed). Any (IsFor things t) parts) (parts_of b) s paired.all has)));
  }

  body_from : (n : Nogood) → BodySays number parts n → BodyNogood things b n
  body_from n says = elim says [
    | inl some ↦
        let part = some.1 in
        let its = All-contains (λ (l : Lit). Any (λ s. IsFor things s l) (parts_of b)) parts part paired.each (member_of (λ part. Writes (pair (holds number) (opposite_of part)) n) parts some) in
        inl (any_from (λ s. IsNogoodOf things (plus (body b) ∷ turned s ∷ []) n) (parts_of b) its.1 (member_of (λ s. IsFor things s part) (parts_of b) its)
        (nogood_from things (plus (body b) ∷ turned its.1 ∷ []) (pair (holds number) (opposite_of part)) (pair_for its.1 part its.4) n some.4))
    | inr whole ↦ inr (nogood_from things (minus (body b) ∷ parts_of b) (parts ++ fails number ∷ []) whole_match n whole)
  ]

  body_to : AllPairs (λ t u. t ≢ u) things → (n : Nogood) → BodyNogood things b n → BodySays number parts n
  body_to once n nogood = elim nogood [
    | inl some ↦
        let its = All-contains (λ (s : Signed). Any (IsFor things s) parts) (parts_of b) some.1 paired.all (member_of (λ s. IsNogoodOf things (plus (body b) ∷ turned s ∷ []) n) (parts_of b) some) in
        inl (any_from (λ part. Writes (pair (holds number) (opposite_of part)) n) parts its.1 (member_of (IsFor things some.1) parts its)
        (writes_from things (plus (body b) ∷ turned some.1 ∷ []) (pair (holds number) (opposite_of its.1)) (pair_for some.1 its.1 its.4) once n some.4))
    | inr whole ↦ inr (writes_from things (minus (body b) ∷ parts_of b) (parts ++ fails number ∷ []) whole_match once n whole)
  ]

  -- what adding the nogoods of a body by its numbers adds
  pub body_added : AllPairs (λ t u. t ≢ u) things → (old new : Store) → AddsExactly old new (BodySays number parts) → AddsExactly old new (ThingSays things number)
  body_added once old new adds =
      adds_same old new (BodySays number parts) (ThingSays things number) adds
      (λ n says. subst (λ (o : Option Thing). ThingNogood things o n) (sym at) (body_from n says))
      (λ n says. body_to once n (subst (λ (o : Option Thing). ThingNogood things o n) at says))

-- an atom has none
pub atom_added : (things : List Thing) (a number : ℕ) → slice_get things number ≡ Some (atom a) → (store : Store) → AddsExactly store store (ThingSays things number)
atom_added things a number at store = adds_none store (ThingSays things number) (λ n says. subst (λ (o : Option Thing). ThingNogood things o n) at says)

-- The atoms of a declared body are declared.
pub positive_declared : (things : List Thing) (b : Body) (number : ℕ) → AreDeclared things → slice_get things number ≡ Some (body b) → All (λ a. Contains things (atom a)) b.pos
positive_declared things b number are at = all_from (λ a. Contains things (atom a)) b.pos (λ a has. let (i, less, found) = are.before number (body b) (atom a) at (inl has) in some_at things i (atom a) found)

pub negated_declared : (things : List Thing) (b : Body) (number : ℕ) → AreDeclared things → slice_get things number ≡ Some (body b) → All (λ a. Contains things (atom a)) b.neg
negated_declared things b number are at = all_from (λ a. Contains things (atom a)) b.neg (λ a has. let (i, less, found) = are.before number (body b) (atom a) at (inr has) in some_at things i (atom a) found)

-- the things between two numbers
abbrev pub SayBetween : List Thing → ℕ → ℕ → Nogood → Type 0
SayBetween things known end n = (k : ℕ) × (known ≤ k) × (k < end) × ThingSays things k n

pub none_between : (things : List Thing) (known : ℕ) (store : Store) → AddsExactly store store (SayBetween things known known)
none_between things known store = adds_none store (SayBetween things known known) (λ n (k, least, less, says). absurd (omega (arith, least, less)))

pub one_between : (things : List Thing) (known number : ℕ) (start mid new : Store) → known ≤ number → AddsExactly start mid (SayBetween things known number) → AddsExactly mid new (ThingSays things number)
    → AddsExactly start new (SayBetween things known (number + 1))
one_between things known number start mid new least first second =
    adds_then start mid new (SayBetween things known number) (ThingSays things number) (SayBetween things known (number + 1)) first second
    (λ n (k, at_least, less, says). elim (cases_eq k number) [
      | inl same ↦ inr (subst (λ (i : ℕ). ThingSays things i n) same says)
      | inr differ ↦ inl (k, at_least, omega (arith, less, differ), says)
    ])
    (λ n (k, at_least, less, says). (k, at_least, omega (arith, less), says))
    (λ n says. (number, least, omega arith, says))

pub all_between : (things : List Thing) (known end : ℕ) (start new : Store) → length things ≤ end → AddsExactly start new (SayBetween things known end) → AddsExactly start new (NewSay things known)
all_between things known end start new long adds =
    adds_same start new (SayBetween things known end) (NewSay things known) adds (λ n (k, least, less, says). (k, least, says))
    (λ n (k, least, says).
    let (b, at, nogood) = thing_says things (slice_get things k) n says in
    let within : k < length things = slice_get_within things k (body b) at in
    (k, least, omega (arith, within, long), says))

-- the signed atoms that a loop has turned into literals, and the next one
pub signs_next : (things : List Thing) (truth : Bool) (atoms : List ℕ) (signs : List Signed) (lits nexts : List Lit) (i a var : ℕ) → i < length atoms → a ≡ get_or atoms i a
    → slice_get things var ≡ Some (atom a) → Match (IsFor things) (signs ++ signed_atoms truth (take i atoms)) lits → nexts ≡ lits ++ record { var = var; truth = truth } ∷ []
    → Match (IsFor things) (signs ++ signed_atoms truth (take (i + 1) atoms)) nexts
signs_next things truth atoms signs lits nexts i a var within is at before pushed =
    let sign : Signed = record { thing = atom a; truth = truth } in
    let lit : Lit = record { var = var; truth = truth } in
    let more : signed_atoms truth (take (i + 1) atoms) ≡ signed_atoms truth (take i atoms) ++ sign ∷ [] =
    ap (signed_atoms truth) (next_one atoms i a within is) ∙ map-append (λ (b : ℕ). let s : Signed = record { thing = atom b; truth = truth } in s) (take i atoms) (a ∷ []) in
    let all : (signs ++ signed_atoms truth (take i atoms)) ++ sign ∷ [] ≡ signs ++ signed_atoms truth (take (i + 1) atoms) =
    append_assoc signs (signed_atoms truth (take i atoms)) (sign ∷ []) ∙ ap (λ (ss : List Signed). signs ++ ss) (sym more) in
    subst (λ (ls : List Lit). Match (IsFor things) (signs ++ signed_atoms truth (take (i + 1) atoms)) ls) (sym pushed)
    (subst (λ (ss : List Signed). Match (IsFor things) ss (lits ++ lit ∷ [])) all
    (match_push (IsFor things) (IsFor things) (λ s l f. f) (signs ++ signed_atoms truth (take i atoms)) lits sign lit before (at, refl)))

-- what adding the sets of a body adds
pub both_added : (number : ℕ) (parts slice whole : List Lit) (a b c : Store) → slice ≡ parts → whole ≡ parts ++ fails number ∷ [] → AddsExactly a b (PartsSay number slice) → AddsExactly b c (Writes whole)
    → AddsExactly a c (BodySays number parts)
both_added number parts slice whole a b c is whole_is first second =
    adds_then a b c (PartsSay number parts) (Writes (parts ++ fails number ∷ [])) (BodySays number parts)
    (subst (λ (ls : List Lit). AddsExactly a b (PartsSay number ls)) is first) (subst (λ (ls : List Lit). AddsExactly b c (Writes ls)) whole_is second)
    (λ n p. p) (λ n p. inl p) (λ n p. inr p)
