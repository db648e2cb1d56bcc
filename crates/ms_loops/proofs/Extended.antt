-- The truths of things in a set: a body is true where its parts are, and an aggregate has the truth that those of its
-- tuples give it.
use Rattle.std.proofs.Common.{◌≡◌, ◌∙◌, ℕ, Bool, true, false, not, ◌&&◌, cond, List, [], ◌∷◌, ◌++◌, map, get_or, refl, sym, ap, subst, inl, inr}
use Rattle.std.specs.Prelude.{IsTrue}
use Rattle.std.specs.List.{All, filter, list_all, list_any}
use Rattle.std.proofs.Math.Path.{fun_ext}
use Rattle.std.proofs.lemmas.Bool.{and_from, and_parts, cases_Bool, false≢true, not_from_false}
use Rattle.std.proofs.lemmas.List.Elements.{All-append, All-map}
use Rattle.std.proofs.lemmas.List.Sums.{AllPass-from_list_all, list_all-from_AllPass}
use Rattle.ms_join.specs.declared.aggregate.GroundAgg.{GroundAgg}
use Rattle.ms_join.specs.declared.aggregate.GroundElement.{GroundElement}
use Rattle.ms_join.specs.declared.aggregate.SignedAgg.{SignedAgg}
use Rattle.ms_join.specs.Aggregates.{aggregate_holds, element_holds, guards_hold, has_tuple, signed_holds, tuple_holds, value_by}
use Rattle.ms_join.specs.Sets.{has_all, has_none}
use Rattle.ms_join.specs.Things.{Body, Thing, Tuple, body_holds, condition_of, thing_holds, tuple_of}
use Rattle.ms_join.specs.Things.Thing.{atom, body, tuple, aggregate}
use Rattle.ms_things.specs.Aggregates.{IsAbout, truth_by}
use Rattle.ms_things.specs.Completion.{parts_of}
use Rattle.ms_things.specs.Signs.{Signed, minus, plus}
use Rattle.ms_base.proofs.Lists.{All-front}
use Rattle.ms_possible.proofs.Lists.{All-back, All-unmap}

-- the thing has this sign in the set
abbrev pub IsSo : (ℕ → Bool) → Signed → Type 0
IsSo set s = thing_holds set s.thing ≡ s.truth

-- ---- bodies

abbrev sign_of : SignedAgg → Signed
sign_of s = record { thing = aggregate s.agg; truth = not s.negated }

signed_from : (negated holds : Bool) → holds ≡ not negated → IsTrue (cond negated (not holds) holds)
signed_from true holds is = not_from_false holds is
signed_from false holds is = is

signed_says : (negated holds : Bool) → IsTrue (cond negated (not holds) holds) → holds ≡ not negated
signed_says true true is = absurd (false≢true is)
signed_says true false is = refl
signed_says false holds is = is

lacks_from : (b : Bool) → IsTrue (not b) → b ≡ false
lacks_from true is = absurd (false≢true is)
lacks_from false is = refl

module _ (set : ℕ → Bool) where
  abbrev positive : Body → List Signed
  positive b = map (λ a. plus (atom a)) b.pos

  abbrev negative : Body → List Signed
  negative b = map (λ a. minus (atom a)) b.neg

  pub body_from_parts : (b : Body) → All (IsSo set) (parts_of b) → IsTrue (body_holds set b)
  body_from_parts b all =
      let front : All (IsSo set) (positive b ++ negative b) = All-front (IsSo set) (positive b ++ negative b) (map sign_of b.aggs) all in
      let pos : All (λ a. set a ≡ true) b.pos = All-unmap (IsSo set) (λ a. plus (atom a)) b.pos (All-front (IsSo set) (positive b) (negative b) front) in
      let neg : All (λ a. set a ≡ false) b.neg = All-unmap (IsSo set) (λ a. minus (atom a)) b.neg (All-back (IsSo set) (positive b) (negative b) front) in
      let aggs : All (λ s. IsSo set (sign_of s)) b.aggs =
      All-unmap (IsSo set) sign_of b.aggs (All-back (IsSo set) (positive b ++ negative b) (map sign_of b.aggs) all) in
      and_from (has_all set b.pos) (has_none set b.neg && list_all (signed_holds set) b.aggs)
      (list_all-from_AllPass set b.pos pos)
      (and_from (has_none set b.neg) (list_all (signed_holds set) b.aggs)
      (list_all-from_AllPass (λ a. not (set a)) b.neg (λ k d within. not_from_false (set (get_or b.neg k d)) (neg k d within)))
      (list_all-from_AllPass (signed_holds set) b.aggs
      (λ k d within. signed_from (get_or b.aggs k d).negated (aggregate_holds set (get_or b.aggs k d).agg) (aggs k d within))))

  pub parts_from_body : (b : Body) → IsTrue (body_holds set b) → All (IsSo set) (parts_of b)
  parts_from_body b holds =
      let first = and_parts (has_all set b.pos) (has_none set b.neg && list_all (signed_holds set) b.aggs) holds in
      let rest = and_parts (has_none set b.neg) (list_all (signed_holds set) b.aggs) first.1 in
      All-append (IsSo set) (positive b ++ negative b) (map sign_of b.aggs)
      (All-append (IsSo set) (positive b) (negative b)
      (All-map (IsSo set) (λ a. plus (atom a)) b.pos (AllPass-from_list_all set b.pos first.0))
      (All-map (IsSo set) (λ a. minus (atom a)) b.neg
      (λ k d within. lacks_from (set (get_or b.neg k d)) (AllPass-from_list_all (λ a. not (set a)) b.neg rest.0 k d within))))
      (All-map (IsSo set) sign_of b.aggs
      (λ k d within.
      signed_says (get_or b.aggs k d).negated (aggregate_holds set (get_or b.aggs k d).agg) (AllPass-from_list_all (signed_holds set) b.aggs rest.1 k d within)))

-- ---- tuples

any_of_passing : {X Y : Type 0} (test : X → Bool) (f : X → Y) (g : Y → Bool) (xs : List X) → list_any g (map f (filter test xs)) ≡ list_any (λ x. test x && g (f x)) xs
any_of_passing test f g [] = refl
any_of_passing test f g (x ∷ xs) =
    let rest = any_of_passing test f g xs in
    elim (cases_Bool (test x)) [
      | inl passes ↦ rw (passes, rest) refl
      | inr fails ↦ rw (fails, rest) refl
    ]

and_true : (a b : Bool) → (a && (b && true)) ≡ (a && b)
and_true true true = refl
and_true true false = refl
and_true false b = refl

module _ (set : ℕ → Bool) where
  same_condition : (test : GroundElement → Bool) (elements : List GroundElement)
      → list_any (λ e. test e && body_holds set (condition_of e)) elements ≡ list_any (λ e. test e && element_holds set e) elements
  same_condition test elements =
      let same : (λ (e : GroundElement). test e && body_holds set (condition_of e)) ≡ (λ e. test e && element_holds set e) =
      fun_ext (λ e. ap (λ b. test e && b) (and_true (has_all set e.pos) (has_none set e.neg))) in
      ap (λ (p : GroundElement → Bool). list_any p elements) same

  pub tuple_is : (elements : List GroundElement) (e : GroundElement) → thing_holds set (tuple (tuple_of elements e)) ≡ tuple_holds set elements e.tuple
  tuple_is elements e = any_of_passing (has_tuple e.tuple) condition_of (body_holds set) elements ∙ same_condition (has_tuple e.tuple) elements

  -- the truths of an aggregate and its tuples are those that the truths of its tuples give
  pub truth_is : (g : GroundAgg) (t : Thing) → IsAbout g t → truth_by (tuple_holds set g.elements) t ≡ thing_holds set t
  truth_is g (atom a) about = absurd about
  truth_is g (body b) about = absurd about
  truth_is g (tuple t) (k, e, within, at, is) =
      subst (λ (u : Tuple). tuple_holds set g.elements u.terms ≡ thing_holds set (tuple u)) is (sym (tuple_is g.elements e))
  truth_is g (aggregate other) about =
      subst (λ (h : GroundAgg). guards_hold (value_by (tuple_holds set h.elements) other) other.guards ≡ aggregate_holds set other) about refl
