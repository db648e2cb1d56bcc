-- The definitions on small programs.
use Rattle.std.proofs.Common.{◌≡◌, ℕ, zero, suc, Bool, true, false, List, [], ◌∷◌, Option, Some, None, refl, inl, inr, arith}
use Rattle.std.specs.Prelude.{◌<◌, nat_lt, IsTrue, All, AllPairs, Any, Contains, slice_get}
use Rattle.std.proofs.lemmas.Bool.{ltb-true}
use Rattle.std.proofs.lemmas.List.Elements.{All-cons, All-nil}
use Rattle.std.proofs.lemmas.List.Kept.{AllPairs-cons}
use Rattle.ms_lits.specs.declared.lit.Lit.{Lit}
use Rattle.ms_lits.specs.Literals.{Nogood}
use Rattle.ms_join.specs.declared.ground_rule.GroundKind.{GroundKind}
use Rattle.ms_join.specs.declared.ground_rule.GroundKind.TheVariants.{Normal, Choice}
use Rattle.ms_join.specs.declared.ground_rule.GroundRule.{GroundRule}
use Rattle.ms_join.specs.Dependencies.{AreTogether, DependsInBody, Reaches, Walk}
use Rattle.ms_join.specs.Modules.{Join, IsOutput}
use Rattle.ms_join.specs.Things.{Body, Thing, body_of}
use Rattle.ms_join.specs.Things.Thing.{atom, body}
use Rattle.ms_things.specs.Completion.{Completion, IsCompletionNogood}
use Rattle.ms_things.specs.Completion.Completion.{whole_body, part_of_body, unsupported, no_head}
use Rattle.ms_things.specs.Loops.{IsLoopNogood, IsWithinComponent, supports_from_outside}
use Rattle.ms_things.specs.Numbers.{ext}
use Rattle.ms_things.specs.Signs.{IsContainedIn, IsFor, IsNogoodOf, Signed, minus, plus}

-- ---- writing nogoods of one and two literals

abbrev lit : ℕ → Bool → Lit
lit var truth = record { var = var; truth = truth }

nil : AllPairs (λ (l : Lit) (next : Lit). l.var < next.var) []
nil i k d less within = absurd (omega (arith, within))

one : (things : List Thing) (s : Signed) (l : Lit) → IsFor things s l → IsNogoodOf things (s ∷ []) (l ∷ [])
one things s l is = record {
  rising = AllPairs-cons (λ (a : Lit) (b : Lit). a.var < b.var) l [] (All-nil (λ (b : Lit). l.var < b.var)) nil;
  of_set = All-cons (λ a. Any (λ t. IsFor things t a) (s ∷ [])) l [] (0, s, omega arith, refl, is) (All-nil (λ a. Any (λ t. IsFor things t a) (s ∷ [])));
  whole = All-cons (λ t. Any (IsFor things t) (l ∷ [])) s [] (0, l, omega arith, refl, is) (All-nil (λ t. Any (IsFor things t) (l ∷ [])));
}

rising_pair : (l k : Lit) → l.var < k.var → AllPairs (λ (a : Lit) (b : Lit). a.var < b.var) (l ∷ k ∷ [])
rising_pair l k less =
    AllPairs-cons (λ (a : Lit) (b : Lit). a.var < b.var) l (k ∷ []) (All-cons (λ (b : Lit). l.var < b.var) k [] less (All-nil (λ (b : Lit). l.var < b.var)))
    (AllPairs-cons (λ (a : Lit) (b : Lit). a.var < b.var) k [] (All-nil (λ (b : Lit). k.var < b.var)) nil)

both : {X : Type 0} (P : X → Type 0) (x y : X) → P x → P y → All P (x ∷ y ∷ [])
both P x y first then = All-cons P x (y ∷ []) first (All-cons P y [] then (All-nil P))

-- the first sign is that of the lower number, or of the greater one
in_order : (things : List Thing) (s t : Signed) (l k : Lit) → l.var < k.var → IsFor things s l → IsFor things t k → IsNogoodOf things (s ∷ t ∷ []) (l ∷ k ∷ [])
in_order things s t l k less first then = record {
  rising = rising_pair l k less;
  of_set = both (λ a. Any (λ u. IsFor things u a) (s ∷ t ∷ [])) l k (0, s, omega arith, refl, first) (1, t, omega arith, refl, then);
  whole = both (λ u. Any (IsFor things u) (l ∷ k ∷ [])) s t (0, l, omega arith, refl, first) (1, k, omega arith, refl, then);
}

turned_round : (things : List Thing) (s t : Signed) (l k : Lit) → l.var < k.var → IsFor things s k → IsFor things t l → IsNogoodOf things (s ∷ t ∷ []) (l ∷ k ∷ [])
turned_round things s t l k less first then = record {
  rising = rising_pair l k less;
  of_set = both (λ a. Any (λ u. IsFor things u a) (s ∷ t ∷ [])) l k (1, t, omega arith, refl, then) (0, s, omega arith, refl, first);
  whole = both (λ u. Any (IsFor things u) (l ∷ k ∷ [])) s t (1, k, omega arith, refl, first) (0, l, omega arith, refl, then);
}

-- ---- `a :- not b. b :- not a.`

abbrev rule_made : GroundKind → ℕ → List ℕ → List ℕ → GroundRule
rule_made kind head pos neg = record { kind = kind; head = Some head; pos = pos; neg = neg; aggs = [] }

abbrev body_made : List ℕ → List ℕ → Body
body_made pos neg = record { pos = pos; neg = neg; aggs = [] }

abbrev even : Join
even = record { atoms = 2; rules = rule_made Normal 0 [] (1 ∷ []) ∷ rule_made Normal 1 [] (0 ∷ []) ∷ []; inputs = [] }

-- the atoms `a` and `b`, and the bodies `not b` and `not a`
abbrev even_things : List Thing
even_things = atom 0 ∷ atom 1 ∷ body (body_made [] (1 ∷ [])) ∷ body (body_made [] (0 ∷ [])) ∷ []

-- `a` is supported by `not b` alone
a_needs_its_body : IsCompletionNogood even even_things (lit 0 true ∷ lit 2 false ∷ [])
a_needs_its_body = record {
  says = unsupported 0;
  of_join = record { within = omega arith; no_input = λ (k, i, within, at, is). absurd (omega (arith, within)) };
  is = in_order even_things (plus (atom 0)) (minus (body (body_made [] (1 ∷ [])))) (lit 0 true) (lit 2 false) (omega arith) (refl, refl) (refl, refl);
}

-- `not b` gives `a`
body_gives_a : IsCompletionNogood even even_things (lit 0 false ∷ lit 2 true ∷ [])
body_gives_a = record {
  says = no_head (rule_made Normal 0 [] (1 ∷ [])) 0;
  of_join = ((0, omega arith, refl), refl, refl);
  is = turned_round even_things (plus (body (body_made [] (1 ∷ [])))) (minus (atom 0)) (lit 0 false) (lit 2 true) (omega arith) (refl, refl) (refl, refl);
}

-- `not b` is true where `b` isn't, and only there
b_or_its_negation : IsCompletionNogood even even_things (lit 1 false ∷ lit 2 false ∷ [])
b_or_its_negation = record {
  says = whole_body (body_made [] (1 ∷ []));
  of_join = (0, rule_made Normal 0 [] (1 ∷ []), omega arith, refl, inl refl);
  is = turned_round even_things (minus (body (body_made [] (1 ∷ [])))) (minus (atom 1)) (lit 1 false) (lit 2 false) (omega arith) (refl, refl) (refl, refl);
}

not_b_and_its_negation : IsCompletionNogood even even_things (lit 1 true ∷ lit 2 true ∷ [])
not_b_and_its_negation = record {
  says = part_of_body (body_made [] (1 ∷ [])) (minus (atom 1));
  of_join = ((0, rule_made Normal 0 [] (1 ∷ []), omega arith, refl, inl refl), (0, omega arith, refl));
  is = turned_round even_things (plus (body (body_made [] (1 ∷ [])))) (plus (atom 1)) (lit 1 true) (lit 2 true) (omega arith) (refl, refl) (refl, refl);
}

-- ---- loops of two atoms

abbrev a_and_b : ℕ → Bool
a_and_b a = nat_lt a 2

one_step : (rules : List GroundRule) (a b : ℕ) → DependsInBody rules a b → Reaches rules a b
unfolding Walk
one_step rules a b depends = record { steps = suc zero; walk = (a, refl, inl depends) }

no_step : (rules : List GroundRule) (a : ℕ) → Reaches rules a a
unfolding Walk
no_step rules a = record { steps = zero; walk = refl }

together : (rules : List GroundRule) → Reaches rules 0 1 → Reaches rules 1 0 → (a b : ℕ) → IsTrue (a_and_b a) → IsTrue (a_and_b b) → AreTogether rules a b
together rules forth back zero zero first then = record { forth = no_step rules 0; back = no_step rules 0 }
together rules forth back zero (suc zero) first then = record { forth = forth; back = back }
together rules forth back (suc zero) zero first then = record { forth = back; back = forth }
together rules forth back (suc zero) (suc zero) first then = record { forth = no_step rules 1; back = no_step rules 1 }
together rules forth back (suc (suc a)) b first then = let less : suc (suc a) < 2 = ltb-true (suc (suc a)) 2 first in absurd (omega (arith, less))
together rules forth back zero (suc (suc b)) first then = let less : suc (suc b) < 2 = ltb-true (suc (suc b)) 2 then in absurd (omega (arith, less))
together rules forth back (suc zero) (suc (suc b)) first then = let less : suc (suc b) < 2 = ltb-true (suc (suc b)) 2 then in absurd (omega (arith, less))

-- `a :- b. b :- a.`
abbrev circle : Join
circle = record { atoms = 2; rules = rule_made Normal 0 (1 ∷ []) [] ∷ rule_made Normal 1 (0 ∷ []) [] ∷ []; inputs = [] }

abbrev circle_things : List Thing
circle_things = atom 0 ∷ atom 1 ∷ body (body_made (1 ∷ []) []) ∷ body (body_made (0 ∷ []) []) ∷ []

-- nothing supports `a`
a_is_unfounded : IsLoopNogood circle circle_things (lit 0 true ∷ [])
a_is_unfounded = record {
  loop = a_and_b;
  among = record {
    outputs = λ a holds. let less : a < 2 = ltb-true a 2 holds in record { within = omega (arith, less); no_input = λ (k, i, within, at, is). absurd (omega (arith, within)) };
    together = together circle.rules
        (one_step circle.rules 0 1 (0, rule_made Normal 0 (1 ∷ []) [], omega arith, refl, (refl, (0, omega arith, refl))))
        (one_step circle.rules 1 0 (1, rule_made Normal 1 (0 ∷ []) [], omega arith, refl, (refl, (0, omega arith, refl))));
  };
  member = 0;
  has = refl;
  is = one circle_things (plus (atom 0)) (lit 0 true) (refl, refl);
}

-- `{c}. a :- b. b :- a. a :- c.`
abbrev supported : Join
supported = record {
  atoms = 3;
  rules = rule_made Normal 0 (1 ∷ []) [] ∷ rule_made Normal 0 (2 ∷ []) [] ∷ rule_made Normal 1 (0 ∷ []) [] ∷ rule_made Choice 2 [] [] ∷ [];
  inputs = [];
}

abbrev supported_things : List Thing
supported_things =
    atom 0 ∷ atom 1 ∷ atom 2 ∷ body (body_made (1 ∷ []) []) ∷ body (body_made (2 ∷ []) []) ∷ body (body_made (0 ∷ []) []) ∷ body (body_made [] []) ∷ []

-- `a` needs `c`
a_needs_c : IsLoopNogood supported supported_things (lit 0 true ∷ lit 4 false ∷ [])
a_needs_c = record {
  loop = a_and_b;
  among = record {
    outputs = λ a holds. let less : a < 2 = ltb-true a 2 holds in record { within = omega (arith, less); no_input = λ (k, i, within, at, is). absurd (omega (arith, within)) };
    together = together supported.rules
        (one_step supported.rules 0 1 (0, rule_made Normal 0 (1 ∷ []) [], omega arith, refl, (refl, (0, omega arith, refl))))
        (one_step supported.rules 1 0 (2, rule_made Normal 1 (0 ∷ []) [], omega arith, refl, (refl, (0, omega arith, refl))));
  };
  member = 0;
  has = refl;
  is = in_order supported_things (plus (atom 0)) (minus (body (body_made (2 ∷ []) []))) (lit 0 true) (lit 4 false) (omega arith) (refl, refl) (refl, refl);
}

-- so `a b` is not possible
a_and_b_contains_it : IsContainedIn (ext a_and_b supported_things) (lit 0 true ∷ lit 4 false ∷ [])
a_and_b_contains_it = both (λ (l : Lit). ext a_and_b supported_things l.var ≡ l.truth) (lit 0 true) (lit 4 false) refl refl
