-- Truths of all things that contain no nogood of the join are those in the set of the atoms that are true.
use Rattle.std.proofs.Common.{◌≡◌, ◌∙◌, ◌⊎◌, ℕ, zero, suc, ◌+◌, ◌<◌, ◌≤◌, Bool, true, false, not, List, [], ◌∷◌, Some, length, map, get_or, refl, sym, ap, subst, inl, inr, arith}
use Rattle.std.specs.Prelude.{IsTrue, slice_get}
use Rattle.std.specs.List.{All, Any, Contains, list_any}
use Rattle.std.proofs.lemmas.Bool.{false_from_ne_true, false≢true, true_from_ne_false}
use Rattle.std.proofs.lemmas.List.Elements.{All-cons, All-contains, All-head, All-map, All-nil, All-tail, Contains-get_or}
use Rattle.std.proofs.lemmas.List.Folds.{Any-from_list_any, list_any_at}
use Rattle.std.proofs.lemmas.Option.{slice_get-get_or, slice_get_within}
use Rattle.ms_lits.specs.declared.lit.Lit.{Lit}
use Rattle.ms_lits.specs.Literals.{Nogood}
use Rattle.ms_join.specs.declared.aggregate.GroundAgg.{GroundAgg}
use Rattle.ms_join.specs.declared.aggregate.GroundElement.{GroundElement}
use Rattle.ms_join.specs.Aggregates.{aggregate_holds, guards_hold, tuple_holds, value_by}
use Rattle.ms_join.specs.Modules.{Join, IsJoin, IsOutput}
use Rattle.ms_join.specs.Things.{Body, Thing, IsThing, Tuple, body_holds, thing_holds, tuple_of}
use Rattle.ms_join.specs.Things.Thing.{atom, body, tuple, aggregate}
use Rattle.ms_possible.proofs.Lists.{All-unmap}
use Rattle.ms_things.specs.Aggregates.{IsAbout, truth_by}
use Rattle.ms_things.specs.Completion.{Completion, IsOf, false_bodies, parts_of, signs_of}
use Rattle.ms_things.specs.Completion.Completion.{whole_body, part_of_body, no_condition, condition_of_tuple}
use Rattle.ms_things.specs.Loops.{supports_from_outside}
use Rattle.ms_things.specs.Numbers.{AreThings, IsMadeOf, ext, known_truth}
use Rattle.ms_things.specs.Signs.{IsContainedIn, IsFor, IsNogoodOf, Signed, minus, plus, turned}
use Rattle.ms_loops.specs.Founded.{AgreesOnAtoms, ContainsNone}
use Rattle.ms_loops.proofs.Extended.{IsSo, body_from_parts, parts_from_body, tuple_is}
use Rattle.ms_loops.proofs.Members.{any_at, member_at}
use Rattle.ms_loops.proofs.Nogoods.{turned_differs}
use Rattle.ms_loops.proofs.Truths.{parts_made, same_truth, same_value}
use Rattle.ms_loops.proofs.Writing.{Holds, written}

same_or_turned : (x t : Bool) → (x ≡ t) ⊎ (x ≡ not t)
same_or_turned true true = inl refl
same_or_turned true false = inr refl
same_or_turned false true = inr refl
same_or_turned false false = inl refl

abbrev tuple_sign : (ℕ → Bool) → GroundAgg → GroundElement → Signed
tuple_sign set g e = record { thing = tuple (tuple_of g.elements e); truth = thing_holds set (tuple (tuple_of g.elements e)) }

module _ (j : Join) (things : List Thing) (truths set : ℕ → Bool) (are : AreThings j things) (agrees : AgreesOnAtoms things truths set) (none : ContainsNone j things truths) where
  not_said : (says : Completion) → IsOf (IsThing j.atoms j.rules) (IsOutput j) j.rules says → ¬ All (Holds things truths) (signs_of j.rules says)
  not_said says of all =
      let w = written things truths (signs_of j.rules says) all in
      none.completion w.nogood (record { says = says; of_join = of; is = w.is }) w.contained

  both_hold : (s t : Signed) → Holds things truths s → Holds things truths t → All (Holds things truths) (s ∷ t ∷ [])
  both_hold s t first then = All-cons (Holds things truths) s (t ∷ []) first (All-cons (Holds things truths) t [] then (All-nil (Holds things truths)))

  -- the thing of this number, where those below it have their truths in the set
  module _ (k : ℕ) (t : Thing) (at : slice_get things k ≡ Some t) (below : (i : ℕ) (u : Thing) → i < k → slice_get things i ≡ Some u → truths i ≡ thing_holds set u) where
    of_join : IsThing j.atoms j.rules t
    of_join = (are.exactly t).0 (member_at things t k at)

    itself : (b : Bool) → truths k ≡ b → Holds things truths (record { thing = t; truth = b })
    itself b is = record { number = k; there = at; truth = is }

    part_holds : (s : Signed) → IsMadeOf t s.thing → IsSo set s → Holds things truths s
    part_holds s made so =
        let p = are.before k t s.thing at made in
        record { number = p.0; there = p.2; truth = below p.0 s.thing p.1 p.2 ∙ so }

  module _ (k : ℕ) (below : (i : ℕ) (u : Thing) → i < k → slice_get things i ≡ Some u → truths i ≡ thing_holds set u) where
    body_right : (b : Body) → slice_get things k ≡ Some (body b) → truths k ≡ body_holds set b
    body_right b at = same_truth (truths k) (body_holds set b)
        (λ holds. body_from_parts set b (λ i d within.
        let part : Signed = get_or (parts_of b) i d in
        elim (same_or_turned (thing_holds set part.thing) part.truth) [
          | inl so ↦ so
          | inr differs ↦
              absurd (not_said (part_of_body b part) (of_join k (body b) at below, Contains-get_or (parts_of b) i d within)
              (both_hold (plus (body b)) (turned part) (itself k (body b) at below true holds) (part_holds k (body b) at below (turned part) (parts_made b i d within) differs)))
        ]))
        (λ fails. false_from_ne_true (body_holds set b) (λ holds.
        not_said (whole_body b) (of_join k (body b) at below)
        (All-cons (Holds things truths) (minus (body b)) (parts_of b) (itself k (body b) at below false fails)
        (λ i d within. part_holds k (body b) at below (get_or (parts_of b) i d) (parts_made b i d within) (parts_from_body set b holds i d within)))))

    tuple_right : (t : Tuple) → slice_get things k ≡ Some (tuple t) → truths k ≡ list_any (body_holds set) t.conditions
    tuple_right t at = same_truth (truths k) (list_any (body_holds set) t.conditions)
        (λ holds. true_from_ne_false (list_any (body_holds set) t.conditions) (λ lacks.
        not_said (no_condition t) (of_join k (tuple t) at below)
        (All-cons (Holds things truths) (plus (tuple t)) (map (λ c. minus (body c)) t.conditions) (itself k (tuple t) at below true holds)
        (All-map (Holds things truths) (λ c. minus (body c)) t.conditions
        (λ i d within.
        part_holds k (tuple t) at below (minus (body (get_or t.conditions i d))) (Contains-get_or t.conditions i d within)
        (false_from_ne_true (body_holds set (get_or t.conditions i d)) (λ is. false≢true (sym lacks ∙ list_any_at (body_holds set) t.conditions i d within is))))))))
        (λ fails. false_from_ne_true (list_any (body_holds set) t.conditions) (λ holds.
        let (i, c, within, same, is) = Any-from_list_any (body_holds set) t.conditions holds in
        not_said (condition_of_tuple t c) (of_join k (tuple t) at below, (i, within, same))
        (both_hold (plus (body c)) (minus (tuple t)) (part_holds k (tuple t) at below (plus (body c)) (i, within, same) is) (itself k (tuple t) at below false fails))))

    aggregate_right : (g : GroundAgg) → slice_get things k ≡ Some (aggregate g) → truths k ≡ aggregate_holds set g
    aggregate_right g at = elim (same_or_turned (truths k) (aggregate_holds set g)) [
      | inl same ↦ same
      | inr differs ↦
          let own : Signed = record { thing = aggregate g; truth = truths k } in
          let made : (i : ℕ) (d : GroundElement) → i < length g.elements → IsMadeOf (aggregate g) (tuple (tuple_of g.elements (get_or g.elements i d))) =
          λ i d within.
          any_at (λ (e : GroundElement). tuple_of g.elements e ≡ tuple_of g.elements (get_or g.elements i d)) g.elements (get_or g.elements i d) (Contains-get_or g.elements i d within) refl in
          let w = written things truths (own ∷ map (tuple_sign set g) g.elements)
          (All-cons (Holds things truths) own (map (tuple_sign set g) g.elements) (itself k (aggregate g) at below (truths k) refl)
          (All-map (Holds things truths) (tuple_sign set g) g.elements
          (λ i d within. part_holds k (aggregate g) at below (tuple_sign set g (get_or g.elements i d)) (made i d within) refl))) in
          absurd (none.aggregates w.nogood (record {
            about = g;
            of_join = of_join k (aggregate g) at below;
            signs = own ∷ map (tuple_sign set g) g.elements;
            over = All-cons (λ s. IsAbout g s.thing) own (map (tuple_sign set g) g.elements) refl (All-map (λ s. IsAbout g s.thing) (tuple_sign set g) g.elements made);
            excluded = λ test all.
                let tuples : All (λ e. test e.tuple ≡ thing_holds set (tuple (tuple_of g.elements e))) g.elements =
                All-unmap (λ s. truth_by test s.thing ≡ s.truth) (tuple_sign set g) g.elements
                (All-tail (λ s. truth_by test s.thing ≡ s.truth) own (map (tuple_sign set g) g.elements) all) in
                let value : value_by test g ≡ value_by (tuple_holds set g.elements) g =
                same_value test (tuple_holds set g.elements) g (λ i d within. tuples i d within ∙ tuple_is set g.elements (get_or g.elements i d)) in
                turned_differs (aggregate_holds set g)
                (sym (ap (λ n. guards_hold n g.guards) value) ∙ All-head (λ s. truth_by test s.thing ≡ s.truth) own (map (tuple_sign set g) g.elements) all ∙ differs);
            is = w.is;
          }) w.contained)
    ]

    right : (t : Thing) → slice_get things k ≡ Some t → truths k ≡ thing_holds set t
    right (atom a) at = agrees a k at
    right (body b) at = body_right b at
    right (tuple t) at = tuple_right t at
    right (aggregate g) at = aggregate_right g at

  all_right : (n k : ℕ) (t : Thing) → k < n → slice_get things k ≡ Some t → truths k ≡ thing_holds set t
  all_right zero k t less at = absurd (omega (arith, less))
  all_right (suc n) k t less at = right k (λ i u lower there. all_right n i u (omega (arith, less, lower)) there) t at

  pub truths_are : (k : ℕ) → k < length things → truths k ≡ ext set things k
  truths_are k within =
      let t : Thing = get_or things k (atom 0) in
      let at : slice_get things k ≡ Some t = slice_get-get_or things k (atom 0) within in
      all_right (suc k) k t (omega arith) at ∙ sym (ap (known_truth set) at)

  contained : (signs : List Signed) (nogood : Nogood) → IsNogoodOf things signs nogood → IsContainedIn (ext set things) nogood → IsContainedIn truths nogood
  contained signs nogood is whole i d within =
      let here = is.of_set i d within in
      let lit : Lit = get_or nogood i d in
      truths_are lit.var (slice_get_within things lit.var here.1.thing here.4.0) ∙ whole i d within

  pub ext_contains_none : ContainsNone j things (ext set things)
  ext_contains_none = record {
    completion = λ nogood n whole. none.completion nogood n (contained (signs_of j.rules n.says) nogood n.is whole);
    loops = λ nogood n whole. none.loops nogood n (contained (plus (atom n.member) ∷ false_bodies (supports_from_outside n.loop) j.rules) nogood n.is whole);
    aggregates = λ nogood n whole. none.aggregates nogood n (contained n.signs nogood n.is whole);
  }
