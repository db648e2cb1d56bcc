-- What the truth of a thing depends on.
use Rattle.std.proofs.Common.{◌≡◌, ◌∙◌, ◌⊎◌, ℕ, Bool, true, false, not, cond, List, [], ◌∷◌, ◌++◌, map, get_or, refl, sym, ap, subst, inl, inr}
use Rattle.std.specs.Prelude.{ℤ, pos, ◌+ℤ◌, IsTrue}
use Rattle.std.specs.List.{All, Any, Contains, filter, list_any}
use Rattle.std.proofs.lemmas.Bool.{false_from_ne_true, false≢true}
use Rattle.std.proofs.lemmas.List.Elements.{All-append, All-cons, All-filter, All-head, All-map, All-nil, All-tail, Contains-get_or}
use Rattle.ms_join.specs.declared.aggregate.AggFn3.{AggFn3}
use Rattle.ms_join.specs.declared.aggregate.GroundAgg.{GroundAgg}
use Rattle.ms_join.specs.declared.aggregate.GroundElement.{GroundElement}
use Rattle.ms_join.specs.declared.aggregate.SignedAgg.{SignedAgg}
use Rattle.ms_join.specs.Aggregates.{aggregate_holds, first_elements, guards_hold, has_tuple, total, tuple_holds, value_by, weight_for}
use Rattle.ms_join.specs.Things.{Body, Thing, Tuple, body_holds, thing_holds, tuple_of}
use Rattle.ms_join.specs.Things.Thing.{atom, body, tuple, aggregate}
use Rattle.ms_things.specs.Completion.{parts_of}
use Rattle.ms_things.specs.Numbers.{IsMadeOf}
use Rattle.ms_things.specs.Signs.{Signed, minus, plus}
use Rattle.ms_loops.proofs.Extended.{IsSo, body_from_parts, parts_from_body, tuple_is}
use Rattle.ms_loops.proofs.Members.{any_at}

pub same_truth : (a b : Bool) → (IsTrue a → IsTrue b) → (a ≡ false → b ≡ false) → a ≡ b
same_truth true b forth back = sym (forth refl)
same_truth false b forth back = sym (back refl)

-- ---- bodies

pub parts_made : (b : Body) → All (λ s. IsMadeOf (body b) s.thing) (parts_of b)
parts_made b =
    All-append (λ s. IsMadeOf (body b) s.thing) (map (λ a. plus (atom a)) b.pos ++ map (λ a. minus (atom a)) b.neg) (map (λ s. record { thing = aggregate s.agg; truth = not s.negated }) b.aggs)
    (All-append (λ s. IsMadeOf (body b) s.thing) (map (λ a. plus (atom a)) b.pos) (map (λ a. minus (atom a)) b.neg)
    (All-map (λ s. IsMadeOf (body b) s.thing) (λ a. plus (atom a)) b.pos (λ k d within. inl (Contains-get_or b.pos k d within)))
    (All-map (λ s. IsMadeOf (body b) s.thing) (λ a. minus (atom a)) b.neg (λ k d within. inr (Contains-get_or b.neg k d within))))
    (All-map (λ s. IsMadeOf (body b) s.thing) (λ s. record { thing = aggregate s.agg; truth = not s.negated }) b.aggs
    (λ k d within. any_at (λ (s : SignedAgg). s.agg ≡ (get_or b.aggs k d).agg) b.aggs (get_or b.aggs k d) (Contains-get_or b.aggs k d within) refl))

body_by_parts : (f g : ℕ → Bool) (b : Body) → ((u : Thing) → IsMadeOf (body b) u → thing_holds f u ≡ thing_holds g u) → IsTrue (body_holds f b) → IsTrue (body_holds g b)
body_by_parts f g b same holds =
    body_from_parts g b (λ k d within. sym (same (get_or (parts_of b) k d).thing (parts_made b k d within)) ∙ parts_from_body f b holds k d within)

-- ---- aggregates

total_same : (f g : List ℕ → Bool) (function : AggFn3) (es : List GroundElement) → All (λ e. f e.tuple ≡ g e.tuple) es → total f function es ≡ total g function es
unfolding total
total_same f g function [] all = refl
total_same f g function (e ∷ es) all =
    let here : f e.tuple ≡ g e.tuple = All-head (λ d. f d.tuple ≡ g d.tuple) e es all in
    let rest : total f function es ≡ total g function es = total_same f g function es (All-tail (λ d. f d.tuple ≡ g d.tuple) e es all) in
    ap (λ b. cond b (weight_for function e.weight) (pos 0) +ℤ total f function es) here ∙ ap (λ n. cond (g e.tuple) (weight_for function e.weight) (pos 0) +ℤ n) rest

first_all : (P : GroundElement → Type 0) (es : List GroundElement) → All P es → All P (first_elements es)
unfolding first_elements
first_all P [] all = All-nil P
first_all P (e ∷ es) all =
    All-cons P e (filter (λ other. not (has_tuple e.tuple other)) (first_elements es)) (All-head P e es all)
    (All-filter (λ other. not (has_tuple e.tuple other)) P (first_elements es) (first_all P es (All-tail P e es all)))

-- the value of an aggregate depends on the truths of the tuples that its elements have
pub same_value : (f g : List ℕ → Bool) (agg : GroundAgg) → All (λ e. f e.tuple ≡ g e.tuple) agg.elements → value_by f agg ≡ value_by g agg
same_value f g agg all = total_same f g agg.function (first_elements agg.elements) (first_all (λ e. f e.tuple ≡ g e.tuple) agg.elements all)

any_same : (f g : Body → Bool) (bs : List Body) → All (λ b. f b ≡ g b) bs → list_any f bs ≡ list_any g bs
any_same f g [] all = refl
any_same f g (b ∷ bs) all =
    let here : f b ≡ g b = All-head (λ c. f c ≡ g c) b bs all in
    let rest : list_any f bs ≡ list_any g bs = any_same f g bs (All-tail (λ c. f c ≡ g c) b bs all) in
    cc

-- In two sets a thing has one truth where what it is made of has.
pub same_by_parts : (f g : ℕ → Bool) (t : Thing) → ((a : ℕ) → t ≡ atom a → f a ≡ g a) → ((u : Thing) → IsMadeOf t u → thing_holds f u ≡ thing_holds g u) → thing_holds f t ≡ thing_holds g t
same_by_parts f g (atom a) own same = own a refl
same_by_parts f g (body b) own same =
    same_truth (body_holds f b) (body_holds g b) (body_by_parts f g b same)
    (λ fails. false_from_ne_true (body_holds g b) (λ holds. false≢true (sym fails ∙ body_by_parts g f b (λ u made. sym (same u made)) holds)))
same_by_parts f g (tuple t) own same =
    any_same (body_holds f) (body_holds g) t.conditions (λ k d within. same (body (get_or t.conditions k d)) (Contains-get_or t.conditions k d within))
same_by_parts f g (aggregate agg) own same =
    ap (λ n. guards_hold n agg.guards) (same_value (tuple_holds f agg.elements) (tuple_holds g agg.elements) agg
    (λ k d within.
    let e : GroundElement = get_or agg.elements k d in
    let made : IsMadeOf (aggregate agg) (tuple (tuple_of agg.elements e)) =
    any_at (λ (other : GroundElement). tuple_of agg.elements other ≡ tuple_of agg.elements e) agg.elements e (Contains-get_or agg.elements k d within) refl in
    sym (tuple_is f agg.elements e) ∙ same (tuple (tuple_of agg.elements e)) made ∙ tuple_is g agg.elements e))
