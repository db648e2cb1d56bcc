-- The founded models over the base are the sets whose truths of the things contain no nogood of the join.
use Rattle.std.proofs.Common.{◌≡◌, ◌∙◌, ℕ, ◌<◌, Bool, true, false, not, List, [], ◌∷◌, Option, Some, None, map, get_or, refl, sym, ap, subst, inl}
use Rattle.std.specs.Prelude.{nat_eq, IfSome, IsTrue}
use Rattle.std.specs.List.{All, Contains, filter, list_any}
use Rattle.std.proofs.lemmas.Bool.{and_from, and_parts, eq-eqb, eqb-true, false_from_ne_true, false≢true, true_from_ne_false}
use Rattle.std.proofs.lemmas.List.Elements.{All-cons, All-contains, All-head, All-map, All-nil, All-tail, All-filter, Contains-get_or}
use Rattle.std.proofs.lemmas.List.Folds.{list_any-from_Any, list_any_none}
use Rattle.ms_join.specs.declared.ground_rule.GroundKind.{GroundKind}
use Rattle.ms_join.specs.declared.ground_rule.GroundKind.TheVariants.{Normal, Choice, Constraint}
use Rattle.ms_join.specs.declared.ground_rule.GroundRule.{GroundRule}
use Rattle.ms_join.specs.Aggregates.{tuple_holds}
use Rattle.ms_join.specs.AnswerSets.{Allows, Keeps, has_all, has_none, side_holds}
use Rattle.ms_join.specs.Dependencies.{AreTogether}
use Rattle.ms_join.specs.Modules.{Join, IsJoin, IsOutput}
use Rattle.ms_join.specs.Things.{Thing, IsThing, IsThingOf, body_holds, body_of, thing_holds}
use Rattle.ms_join.specs.Things.Thing.{atom, body, tuple}
use Rattle.ms_things.specs.Completion.{Completion, IsOf, false_bodies, has_head_in, parts_of, signs_of}
use Rattle.ms_things.specs.Completion.Completion.{whole_body, part_of_body, no_condition, condition_of_tuple, unsupported, no_head, broken}
use Rattle.ms_things.specs.Loops.{supports_from_outside}
use Rattle.ms_things.specs.Numbers.{AreThings, ext, known_truth}
use Rattle.ms_things.specs.Signs.{Signed, minus, plus, turned}
use Rattle.ms_loops.specs.Founded.{ContainsNone, IsFoundedModel, IsUnfounded}
use Rattle.ms_loops.proofs.Extended.{IsSo, body_from_parts, parts_from_body, truth_is}
use Rattle.ms_possible.proofs.Lists.{All-unmap}
use Rattle.ms_loops.proofs.Members.{any_at, all_kept, all_passing, place_of}
use Rattle.ms_loops.proofs.Founding.{if_at}
use Rattle.ms_loops.proofs.Unfounded.{head_below}
use Rattle.ms_join.proofs.Walks.{reaches_self}
use Rattle.ms_loops.proofs.Writing.{Holds, all_hold, written}

both : (b : Bool) → b ≡ true → b ≡ false → ⊥
both b is lacks = false≢true (sym lacks ∙ is)

pub turned_differs : (b : Bool) → b ≡ not b → ⊥
turned_differs true is = false≢true (sym is)
turned_differs false is = false≢true is

some_head : (P : ℕ → Type 0) (head : Option ℕ) → ((h : ℕ) → head ≡ Some h → P h) → IfSome head P
some_head P None step = tt
some_head P (Some h) step = step h refl

-- ---- signs in a set, and rules whose bodies are false there

module _ (set : ℕ → Bool) where
  abbrev IsFalse : GroundRule → Type 0
  IsFalse rule = body_holds set (body_of rule) ≡ false

  bodies_false : (test : GroundRule → Bool) (rules : List GroundRule) → All (IsSo set) (false_bodies test rules) → All (λ rule. IsTrue (test rule) → IsFalse rule) rules
  bodies_false test rules all = all_passing IsFalse test rules (All-unmap (IsSo set) (λ rule. minus (body (body_of rule))) (filter test rules) all)

  from_bodies : (test : GroundRule → Bool) (rules : List GroundRule) → All (λ rule. IsTrue (test rule) → IsFalse rule) rules → All (IsSo set) (false_bodies test rules)
  from_bodies test rules all = All-map (IsSo set) (λ rule. minus (body (body_of rule))) (filter test rules) (all_kept IsFalse test rules all)

  -- what a nogood that is contained asks holds in the set
  so_from : (things : List Thing) (signs : List Signed) → All (Holds things (ext set things)) signs → All (IsSo set) signs
  so_from things signs all k d within =
      let h = all k d within in
      sym (ap (known_truth set) h.there) ∙ h.truth

-- ---- a founded model contains none

module _ (j : Join) (set : ℕ → Bool) (is : IsFoundedModel j set) where
  single : (a : ℕ) → IsOutput j a → IsTrue (set a) → All (IsSo set) (false_bodies (λ rule. has_head_in (nat_eq a) rule.head) j.rules) → ⊥
  single a output here all = is.founded (nat_eq a) (record {
    among = record {
      outputs = λ b same. subst (IsOutput j) (eqb-true a b same) output;
      together = λ b c first then.
          let to : b ≡ c = sym (eqb-true a b first) ∙ eqb-true a c then in
          subst (AreTogether j.rules b) to (record { forth = reaches_self j.rules b; back = reaches_self j.rules b });
    };
    member = a;
    has = eq-eqb a a refl;
    true_there = here;
    unsupported = λ k d within outside.
        bodies_false set (λ rule. has_head_in (nat_eq a) rule.head) j.rules all k d within
        (and_parts (has_head_in (nat_eq a) (get_or j.rules k d).head) (has_none (nat_eq a) (get_or j.rules k d).pos) outside).0;
  })

  none_of_completion : (says : Completion) → IsOf (IsThing j.atoms j.rules) (IsOutput j) j.rules says → ¬ All (IsSo set) (signs_of j.rules says)
  none_of_completion (whole_body b) of all =
      both (body_holds set b) (body_from_parts set b (All-tail (IsSo set) (minus (body b)) (parts_of b) all)) (All-head (IsSo set) (minus (body b)) (parts_of b) all)
  none_of_completion (part_of_body b part) (of, among) all =
      let holds : IsTrue (body_holds set b) = All-head (IsSo set) (plus (body b)) (turned part ∷ []) all in
      let fails : thing_holds set part.thing ≡ not part.truth = All-head (IsSo set) (turned part) [] (All-tail (IsSo set) (plus (body b)) (turned part ∷ []) all) in
      turned_differs part.truth (sym (All-contains (IsSo set) (parts_of b) part (parts_from_body set b holds) among) ∙ fails)
  none_of_completion (no_condition t) of all =
      let none : All (λ c. body_holds set c ≡ false) t.conditions =
      All-unmap (IsSo set) (λ c. minus (body c)) t.conditions (All-tail (IsSo set) (plus (tuple t)) (map (λ c. minus (body c)) t.conditions) all) in
      both (list_any (body_holds set) t.conditions)
      (All-head (IsSo set) (plus (tuple t)) (map (λ c. minus (body c)) t.conditions) all)
      (list_any_none (body_holds set) t.conditions none)
  none_of_completion (condition_of_tuple t c) (of, among) all =
      let holds : IsTrue (body_holds set c) = All-head (IsSo set) (plus (body c)) (minus (tuple t) ∷ []) all in
      both (list_any (body_holds set) t.conditions)
      (list_any-from_Any (body_holds set) t.conditions (any_at (λ b. body_holds set b ≡ true) t.conditions c among holds))
      (All-head (IsSo set) (minus (tuple t)) [] (All-tail (IsSo set) (plus (body c)) (minus (tuple t) ∷ []) all))
  none_of_completion (unsupported a) of all =
      let bodies : List Signed = false_bodies (λ rule. has_head_in (nat_eq a) rule.head) j.rules in
      single a of (All-head (IsSo set) (plus (atom a)) bodies all) (All-tail (IsSo set) (plus (atom a)) bodies all)
  none_of_completion (no_head rule h) (among, kind, at) all =
      let holds : IsTrue (body_holds set (body_of rule)) = All-head (IsSo set) (plus (body (body_of rule))) (minus (atom h) ∷ []) all in
      let lacks : set h ≡ false = All-head (IsSo set) (minus (atom h)) [] (All-tail (IsSo set) (plus (body (body_of rule))) (minus (atom h) ∷ []) all) in
      let keeps : Keeps set set Normal rule =
      subst (λ (k : GroundKind). Keeps set set k rule) kind (All-contains (λ (r : GroundRule). Keeps set set r.kind r) j.rules rule is.rules among) in
      let halves = and_parts (has_all set rule.pos) (side_holds set rule) holds in
      both (set h) (if_at (λ a. IsTrue (set a)) rule.head h at (keeps halves.1 halves.0)) lacks
  none_of_completion (broken rule) (among, kind) all =
      let allows : Allows set Constraint rule =
      subst (λ (k : GroundKind). Allows set k rule) kind (All-contains (λ (r : GroundRule). Allows set r.kind r) j.rules rule is.constraints among) in
      both (body_holds set (body_of rule)) (All-head (IsSo set) (plus (body (body_of rule))) [] all) allows

pub none_contained : (j : Join) (things : List Thing) (set : ℕ → Bool) → IsFoundedModel j set → ContainsNone j things (ext set things)
none_contained j things set is = record {
  completion = λ nogood n contained.
      none_of_completion j set is n.says n.of_join (so_from set things (signs_of j.rules n.says) (all_hold things (ext set things) (signs_of j.rules n.says) nogood n.is contained));
  loops = λ nogood n contained.
      let bodies : List Signed = false_bodies (supports_from_outside n.loop) j.rules in
      let all : All (IsSo set) (plus (atom n.member) ∷ bodies) =
      so_from set things (plus (atom n.member) ∷ bodies) (all_hold things (ext set things) (plus (atom n.member) ∷ bodies) nogood n.is contained) in
      is.founded n.loop (record {
        among = n.among;
        member = n.member;
        has = n.has;
        true_there = All-head (IsSo set) (plus (atom n.member)) bodies all;
        unsupported = bodies_false set (supports_from_outside n.loop) j.rules (All-tail (IsSo set) (plus (atom n.member)) bodies all);
      });
  aggregates = λ nogood n contained.
      let all : All (IsSo set) n.signs = so_from set things n.signs (all_hold things (ext set things) n.signs nogood n.is contained) in
      n.excluded (tuple_holds set n.about.elements)
      (λ k d within. truth_is set n.about (get_or n.signs k d).thing (n.over k d within) ∙ all k d within);
}

-- ---- a set over the base that contains none is a founded model

module _ (j : Join) (things : List Thing) (set : ℕ → Bool) (is : IsJoin j) (are : AreThings j things) where
  has_sign : (s : Signed) → IsThing j.atoms j.rules s.thing → IsSo set s → Holds things (ext set things) s
  has_sign s of so =
      let place = place_of things s.thing ((are.exactly s.thing).1 of) in
      record { number = place.0; there = place.1; truth = ap (known_truth set) place.1 ∙ so }

  body_is_thing : (rule : GroundRule) → Contains j.rules rule → IsThing j.atoms j.rules (body (body_of rule))
  body_is_thing rule among = any_at (λ r. IsThingOf r (body (body_of rule))) j.rules rule among (inl refl)

  all_bodies : (test : GroundRule → Bool) → All (IsSo set) (false_bodies test j.rules) → All (Holds things (ext set things)) (false_bodies test j.rules)
  all_bodies test all = All-map (Holds things (ext set things)) (λ rule. minus (body (body_of rule))) (filter test j.rules)
      (λ k d within. has_sign (minus (body (body_of (get_or (filter test j.rules) k d))))
      (All-filter test (λ rule. IsThing j.atoms j.rules (body (body_of rule))) j.rules (λ i e inside. body_is_thing (get_or j.rules i e) (Contains-get_or j.rules i e inside)) k d within)
      (All-unmap (IsSo set) (λ rule. minus (body (body_of rule))) (filter test j.rules) all k d within))

  module _ (none : ContainsNone j things (ext set things)) where
    -- what is said of the join, and holds in the set
    not_said : (says : Completion) → IsOf (IsThing j.atoms j.rules) (IsOutput j) j.rules says → ¬ All (Holds things (ext set things)) (signs_of j.rules says)
    not_said says of all =
        let w = written things (ext set things) (signs_of j.rules says) all in
        none.completion w.nogood (record { says = says; of_join = of; is = w.is }) w.contained

    has_head : (rule : GroundRule) (h : ℕ) → Contains j.rules rule → rule.kind ≡ Normal → rule.head ≡ Some h → h < j.atoms → IsTrue (body_holds set (body_of rule)) → IsTrue (set h)
    has_head rule h among kind at below holds = true_from_ne_false (set h) (λ lacks.
        not_said (no_head rule h) (among, kind, at)
        (All-cons (Holds things (ext set things)) (plus (body (body_of rule))) (minus (atom h) ∷ [])
        (has_sign (plus (body (body_of rule))) (body_is_thing rule among) holds)
        (All-cons (Holds things (ext set things)) (minus (atom h)) [] (has_sign (minus (atom h)) below lacks) (All-nil (Holds things (ext set things))))))

    keeps : (kind : GroundKind) (rule : GroundRule) → Contains j.rules rule → rule.kind ≡ kind → ((h : ℕ) → rule.head ≡ Some h → h < j.atoms) → Keeps set set kind rule
    keeps Normal rule among at below = λ side all.
        some_head (λ h. IsTrue (set h)) rule.head (λ h is_head. has_head rule h among at is_head (below h is_head) (and_from (has_all set rule.pos) (side_holds set rule) all side))
    keeps Choice rule among at below =
        some_head (λ h. IsTrue (set h) → IsTrue (side_holds set rule) → IsTrue (has_all set rule.pos) → IsTrue (set h)) rule.head (λ h is_head here side all. here)
    keeps Constraint rule among at below = tt

    allows : (kind : GroundKind) (rule : GroundRule) → Contains j.rules rule → rule.kind ≡ kind → Allows set kind rule
    allows Normal rule among at = tt
    allows Choice rule among at = tt
    allows Constraint rule among at = false_from_ne_true (body_holds set (body_of rule)) (λ holds.
        not_said (broken rule) (among, at)
        (All-cons (Holds things (ext set things)) (plus (body (body_of rule))) []
        (has_sign (plus (body (body_of rule))) (body_is_thing rule among) holds) (All-nil (Holds things (ext set things)))))

    none_unfounded : (loop : ℕ → Bool) → ¬ IsUnfounded j set loop
    none_unfounded loop u =
        let bodies : List Signed = false_bodies (supports_from_outside loop) j.rules in
        let all : All (Holds things (ext set things)) (plus (atom u.member) ∷ bodies) =
        All-cons (Holds things (ext set things)) (plus (atom u.member)) bodies
        (has_sign (plus (atom u.member)) (u.among.outputs u.member u.has).within u.true_there)
        (all_bodies (supports_from_outside loop) (from_bodies set (supports_from_outside loop) j.rules u.unsupported)) in
        let w = written things (ext set things) (plus (atom u.member) ∷ bodies) all in
        none.loops w.nogood (record { loop = loop; among = u.among; member = u.member; has = u.has; is = w.is }) w.contained

    is_founded : IsFoundedModel j set
    is_founded = record {
      rules = λ k d within.
          keeps (get_or j.rules k d).kind (get_or j.rules k d) (Contains-get_or j.rules k d within) refl
          (head_below j.atoms (get_or j.rules k d).kind (get_or j.rules k d).head (is.over.rules k d within).head);
      constraints = λ k d within. allows (get_or j.rules k d).kind (get_or j.rules k d) (Contains-get_or j.rules k d within) refl;
      founded = none_unfounded;
    }

pub founded_from_none : (j : Join) (things : List Thing) (set : ℕ → Bool) → IsJoin j → AreThings j things → ContainsNone j things (ext set things) → IsFoundedModel j set
founded_from_none j things set is are none = is_founded j things set is are none
