-- A thing of a join has the truth in a set that it has in the set's cut to the base.
use Rattle.std.proofs.Common.{◌≡◌, ◌∙◌, ℕ, zero, suc, ◌<◌, Bool, true, false, ◌&&◌, List, [], ◌∷◌, ◌++◌, Some, None, length, get_or, refl, sym, ap, subst, inl, inr, arith}
use Rattle.std.specs.Prelude.{slice_get}
use Rattle.std.specs.List.{All, Contains, filter, list_any}
use Rattle.std.proofs.lemmas.Option.{get_or_from_slice_get, slice_get-get_or, slice_get_within}
use Rattle.std.proofs.lemmas.List.Elements.{All-contains, All-filter, All-head, All-map, All-tail}
use Rattle.ms_join.specs.declared.aggregate.GroundAgg.{GroundAgg}
use Rattle.ms_join.specs.declared.aggregate.GroundElement.{GroundElement}
use Rattle.ms_join.specs.declared.aggregate.SignedAgg.{SignedAgg}
use Rattle.ms_join.specs.declared.ground_rule.GroundKind.TheVariants.{Constraint}
use Rattle.ms_join.specs.declared.ground_rule.GroundRule.{GroundRule}
use Rattle.ms_join.specs.Aggregates.{aggregate_holds, has_tuple}
use Rattle.ms_join.specs.AnswerSets.{has_all, side_holds}
use Rattle.ms_join.specs.Modules.{Join}
use Rattle.ms_join.specs.Possible.{cut}
use Rattle.ms_join.specs.Things.{Body, Thing, Tuple, IsThing, IsThingOf, body_holds, body_of, condition_of, thing_holds, tuple_of}
use Rattle.ms_join.specs.Things.Thing.{atom, body, tuple, aggregate}
use Rattle.ms_possible.proofs.Cutting.{IsBelow, IsElementBelow, IsSignedBelow, cut_below, same_all, same_side}
use Rattle.ms_things.specs.Numbers.{AreThings, ext, known_truth}

same_by_true : (x y : Bool) → (x && true) ≡ (y && true) → x ≡ y
same_by_true true true same = refl
same_by_true true false same = same
same_by_true false true same = same
same_by_true false false same = refl

module _ (n : ℕ) (set : ℕ → Bool) where
  body_cut : (b : Body) → All (λ a. a < n) b.pos → All (λ a. a < n) b.neg → All (IsSignedBelow n) b.aggs → body_holds set b ≡ body_holds (cut n set) b
  body_cut b pos neg aggs =
      let rule : GroundRule = record { kind = Constraint; head = None; pos = b.pos; neg = b.neg; aggs = b.aggs } in
      let side : side_holds set rule ≡ side_holds (cut n set) rule = same_side n set rule (record { head = λ h at. cc; pos = pos; neg = neg; aggs = aggs }) in
      ap (λ x. x && side_holds set rule) (same_all n set b.pos pos) ∙ ap (λ y. has_all (cut n set) b.pos && y) side

  condition_cut : (e : GroundElement) → IsElementBelow n e → body_holds set (condition_of e) ≡ body_holds (cut n set) (condition_of e)
  condition_cut e below = body_cut (condition_of e) below.pos below.neg (λ k d within. absurd (omega arith))

  any_cut : (bs : List Body) → All (λ b. body_holds set b ≡ body_holds (cut n set) b) bs → list_any (body_holds set) bs ≡ list_any (body_holds (cut n set)) bs
  any_cut [] same = refl
  any_cut (b ∷ bs) same =
      let here : body_holds set b ≡ body_holds (cut n set) b = All-head (λ c. body_holds set c ≡ body_holds (cut n set) c) b bs same in
      let rest : list_any (body_holds set) bs ≡ list_any (body_holds (cut n set)) bs = any_cut bs (All-tail (λ c. body_holds set c ≡ body_holds (cut n set) c) b bs same) in
      cc

  tuple_cut : (es : List GroundElement) (e : GroundElement) → All (IsElementBelow n) es → thing_holds set (tuple (tuple_of es e)) ≡ thing_holds (cut n set) (tuple (tuple_of es e))
  tuple_cut es e below =
      any_cut (tuple_of es e).conditions
      (All-map (λ b. body_holds set b ≡ body_holds (cut n set) b) condition_of (filter (has_tuple e.tuple) es)
      (λ k d within. condition_cut (get_or (filter (has_tuple e.tuple) es) k d) (All-filter (has_tuple e.tuple) (IsElementBelow n) es below k d within)))

  aggregate_cut : (g : GroundAgg) → All (IsElementBelow n) g.elements → aggregate_holds set g ≡ aggregate_holds (cut n set) g
  aggregate_cut g below =
      let rule : GroundRule = record { kind = Constraint; head = None; pos = []; neg = []; aggs = record { agg = g; negated = false } ∷ [] } in
      same_by_true (aggregate_holds set g) (aggregate_holds (cut n set) g)
      (same_side n set rule (record {
        head = λ h at. cc;
        pos = λ k d within. absurd (omega arith);
        neg = λ k d within. absurd (omega arith);
        aggs = one (record { agg = g; negated = false }) below;
      }))
    where
      one : (s : SignedAgg) → IsSignedBelow n s → All (IsSignedBelow n) (s ∷ [])
      one s is zero d within = is
      one s is (suc k) d within = absurd (omega arith)

  module _ (rule : GroundRule) (below : IsBelow n rule) where
    elements_below : (s : SignedAgg) → Contains rule.aggs s → All (IsElementBelow n) s.agg.elements
    elements_below s has = All-contains (IsSignedBelow n) rule.aggs s below.aggs has

    of_rule : (t : Thing) → IsThingOf rule t → thing_holds set t ≡ thing_holds (cut n set) t
    of_rule (atom a) is = absurd is
    of_rule (body b) (inl same) = subst (λ (c : Body). body_holds set c ≡ body_holds (cut n set) c) same (body_cut (body_of rule) below.pos below.neg below.aggs)
    of_rule (body b) (inr (k, s, within, at, (i, e, inside, there, same))) =
        subst (λ (c : Body). body_holds set c ≡ body_holds (cut n set) c) same
        (condition_cut e (All-contains (IsElementBelow n) s.agg.elements e (elements_below s (k, within, at)) (i, inside, there)))
    of_rule (tuple t) (k, s, within, at, (i, e, inside, there, same)) =
        subst (λ (u : Tuple). thing_holds set (tuple u) ≡ thing_holds (cut n set) (tuple u)) same (tuple_cut s.agg.elements e (elements_below s (k, within, at)))
    of_rule (aggregate g) (k, s, within, at, same) =
        subst (λ (h : GroundAgg). aggregate_holds set h ≡ aggregate_holds (cut n set) h) same (aggregate_cut s.agg (elements_below s (k, within, at)))

member_at : {X : Type 0} → (xs : List X) (x : X) (k : ℕ) → slice_get xs k ≡ Some x → Contains xs x
member_at xs x k at = (k, slice_get_within xs k x at, get_or_from_slice_get xs k x x at)

get_front : {X : Type 0} → (xs ys : List X) (k : ℕ) (x : X) → slice_get xs k ≡ Some x → slice_get (xs ++ ys) k ≡ Some x
get_front [] ys k x at = cc
get_front (y ∷ xs) ys zero x at = at
get_front (y ∷ xs) ys (suc k) x at = get_front xs ys k x at

module _ (j : Join) (set : ℕ → Bool) (below : All (IsBelow j.atoms) j.rules) where
  of_join : (t : Thing) → IsThing j.atoms j.rules t → thing_holds set t ≡ thing_holds (cut j.atoms set) t
  of_join (atom a) is = sym (cut_below j.atoms set a is)
  of_join (body b) (k, rule, within, at, is) = of_rule j.atoms set rule (All-contains (IsBelow j.atoms) j.rules rule below (k, within, at)) (body b) is
  of_join (tuple t) (k, rule, within, at, is) = of_rule j.atoms set rule (All-contains (IsBelow j.atoms) j.rules rule below (k, within, at)) (tuple t) is
  of_join (aggregate g) (k, rule, within, at, is) = of_rule j.atoms set rule (All-contains (IsBelow j.atoms) j.rules rule below (k, within, at)) (aggregate g) is

  -- the truth of a number that there was
  pub ext_cut : (things more : List Thing) → AreThings j things → (k : ℕ) → k < length things → ext (cut j.atoms set) things k ≡ ext set (things ++ more) k
  ext_cut things more are k within =
      let t : Thing = get_or things k (atom 0) in
      let at : slice_get things k ≡ Some t = slice_get-get_or things k (atom 0) within in
      ap (known_truth (cut j.atoms set)) at ∙ sym (of_join t ((are.exactly t).0 (member_at things t k at))) ∙ sym (ap (known_truth set) (get_front things more k t at))
