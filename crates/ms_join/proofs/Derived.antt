-- The derived order of ground rules is that of the definitions, and rules are equal where their derived `==` says so.
use Rattle.std.proofs.Common.{◌≡◌, ℕ, ℤ, Bool, true, ◌&&◌, List, [], ◌∷◌, Option, Some, None, refl, ap, eqb, eqb-true}
use Rattle.std.proofs.lemmas.Bool.{false≢true}
use Rattle.std.proofs.lemmas.Slice.Eq.{bytes_eq-Decides}
use Rattle.std.specs.Cmp.{booleans_Decides, first_so, second_so, signed_Decides}
use Rattle.std.specs.Cmp.Lexicographic.{pointwise, slice_cmp}
use Rattle.std.specs.Option.{option_cmp, option_eq}
use Rattle.std.specs.Ordering.{bool_cmp, int_cmp, int_eq, nat_cmp, ordering_then}
use Rattle.ms_join.specs.declared.aggregate.AggFn3.{AggFn3}
use Rattle.ms_join.specs.declared.aggregate.AggFn3.TheVariants.{Count, Sum}
use Rattle.ms_join.specs.declared.aggregate.Cmp3.{Cmp3}
use Rattle.ms_join.specs.declared.aggregate.Cmp3.TheVariants.{Eq, Ne, Lt, Le, Gt, Ge}
use Rattle.ms_join.specs.declared.aggregate.GroundElement.{GroundElement}
use Rattle.ms_join.specs.declared.aggregate.GroundGuard.{GroundGuard}
use Rattle.ms_join.specs.declared.aggregate.GroundAgg.{GroundAgg}
use Rattle.ms_join.specs.declared.aggregate.SignedAgg.{SignedAgg}
use Rattle.ms_join.specs.declared.ground_rule.GroundRule.{GroundRule}
use Rattle.ms_join.specs.declared.ground_rule.GroundKind.{GroundKind}
use Rattle.ms_join.specs.declared.ground_rule.GroundKind.TheVariants.{Normal, Choice, Constraint}
use Rattle.ms_join.specs.contracts.aggregate.AggFn3.{the_type as function_type}
use Rattle.ms_join.specs.contracts.aggregate.Cmp3.{the_type as sign_type}
use Rattle.ms_join.specs.contracts.ground_rule.GroundKind.{the_type as kind_type}
use Rattle.ms_join.specs.contracts.aggregate.AggFn3Ord.TheImpl as functions
use Rattle.ms_join.specs.contracts.aggregate.Cmp3Ord.TheImpl as signs
use Rattle.ms_join.specs.contracts.aggregate.GroundElementOrd.TheImpl as element_order
use Rattle.ms_join.specs.contracts.aggregate.GroundGuardOrd.TheImpl as guard_order
use Rattle.ms_join.specs.contracts.aggregate.GroundAggOrd.TheImpl as aggregate_order
use Rattle.ms_join.specs.contracts.aggregate.SignedAggOrd.TheImpl as signed_order
use Rattle.ms_join.specs.contracts.ground_rule.GroundKindOrd.TheImpl as kinds
use Rattle.ms_join.specs.contracts.ground_rule.GroundRuleOrd.TheImpl as rule_order
use Rattle.ms_join.specs.contracts.aggregate.GroundElementPartialEq.TheImpl as elements
use Rattle.ms_join.specs.contracts.aggregate.GroundGuardPartialEq.TheImpl as guards
use Rattle.ms_join.specs.contracts.aggregate.GroundAggPartialEq.TheImpl as aggregates
use Rattle.ms_join.specs.contracts.aggregate.SignedAggPartialEq.TheImpl as signed
use Rattle.ms_join.specs.contracts.ground_rule.GroundRulePartialEq.TheImpl as rules
use Rattle.ms_join.specs.Orders.{compare_aggregates, compare_elements, compare_guards, compare_rules, compare_signed, function_rank, kind_rank, sign_rank}
use denote.Enum.Bare.{same_true}

-- ---- the order

same_kinds : (a b : GroundKind) → (kinds.ghosts).cmp a b ≡ nat_cmp (kind_rank a) (kind_rank b)
same_kinds Normal Normal = refl
same_kinds Normal Choice = refl
same_kinds Normal Constraint = refl
same_kinds Choice Normal = refl
same_kinds Choice Choice = refl
same_kinds Choice Constraint = refl
same_kinds Constraint Normal = refl
same_kinds Constraint Choice = refl
same_kinds Constraint Constraint = refl

same_functions : (a b : AggFn3) → (functions.ghosts).cmp a b ≡ nat_cmp (function_rank a) (function_rank b)
same_functions Count Count = refl
same_functions Count Sum = refl
same_functions Sum Count = refl
same_functions Sum Sum = refl

same_signs : (a b : Cmp3) → (signs.ghosts).cmp a b ≡ nat_cmp (sign_rank a) (sign_rank b)
same_signs Eq Eq = refl
same_signs Eq Ne = refl
same_signs Eq Lt = refl
same_signs Eq Le = refl
same_signs Eq Gt = refl
same_signs Eq Ge = refl
same_signs Ne Eq = refl
same_signs Ne Ne = refl
same_signs Ne Lt = refl
same_signs Ne Le = refl
same_signs Ne Gt = refl
same_signs Ne Ge = refl
same_signs Lt Eq = refl
same_signs Lt Ne = refl
same_signs Lt Lt = refl
same_signs Lt Le = refl
same_signs Lt Gt = refl
same_signs Lt Ge = refl
same_signs Le Eq = refl
same_signs Le Ne = refl
same_signs Le Lt = refl
same_signs Le Le = refl
same_signs Le Gt = refl
same_signs Le Ge = refl
same_signs Gt Eq = refl
same_signs Gt Ne = refl
same_signs Gt Lt = refl
same_signs Gt Le = refl
same_signs Gt Gt = refl
same_signs Gt Ge = refl
same_signs Ge Eq = refl
same_signs Ge Ne = refl
same_signs Ge Lt = refl
same_signs Ge Le = refl
same_signs Ge Gt = refl
same_signs Ge Ge = refl

same_elements : (a b : GroundElement) → (element_order.ghosts).cmp a b ≡ compare_elements a b
same_elements a b = refl

same_guards : (a b : GroundGuard) → (guard_order.ghosts).cmp a b ≡ compare_guards a b
same_guards a b i = ordering_then (same_signs a.cmp b.cmp i) (ordering_then (nat_cmp a.bound b.bound) (option_cmp int_cmp a.limit b.limit))

same_aggregates : (a b : GroundAgg) → (aggregate_order.ghosts).cmp a b ≡ compare_aggregates a b
same_aggregates a b i =
    ordering_then (same_functions a.function b.function i)
    (ordering_then (slice_cmp (λ x y. same_elements x y i) a.elements b.elements) (slice_cmp (λ x y. same_guards x y i) a.guards b.guards))

same_signed : (a b : SignedAgg) → (signed_order.ghosts).cmp a b ≡ compare_signed a b
same_signed a b i = ordering_then (bool_cmp a.negated b.negated) (same_aggregates a.agg b.agg i)

pub same_order : (a b : GroundRule) → (rule_order.ghosts).cmp a b ≡ compare_rules a b
same_order a b i =
    ordering_then (same_kinds a.kind b.kind i)
    (ordering_then (option_cmp nat_cmp a.head b.head)
    (ordering_then (slice_cmp nat_cmp a.pos b.pos)
    (ordering_then (slice_cmp nat_cmp a.neg b.neg) (slice_cmp (λ x y. same_signed x y i) a.aggs b.aggs))))

-- ---- equality

same_number : (x y : Option ℕ) → option_eq eqb x y ≡ true → x ≡ y
same_number None None alike = refl
same_number None (Some y) alike = absurd (false≢true alike)
same_number (Some x) None alike = absurd (false≢true alike)
same_number (Some x) (Some y) alike = ap Some (eqb-true x y alike)

same_integer : (x y : Option ℤ) → option_eq int_eq x y ≡ true → x ≡ y
same_integer None None alike = refl
same_integer None (Some y) alike = absurd (false≢true alike)
same_integer (Some x) None alike = absurd (false≢true alike)
same_integer (Some x) (Some y) alike = ap Some ((signed_Decides x y).0 alike)

same_list : {X : Type 0} {E : X → X → Bool} → ((x y : X) → E x y ≡ true → x ≡ y) → (xs ys : List X) → pointwise E xs ys ≡ true → xs ≡ ys
same_list same [] [] alike = refl
same_list same [] (y ∷ ys) alike = absurd (false≢true alike)
same_list same (x ∷ xs) [] alike = absurd (false≢true alike)
same_list same (x ∷ xs) (y ∷ ys) alike =
    let first : x ≡ y = same x y (first_so _ _ alike) in
    let rest : xs ≡ ys = same_list same xs ys (second_so _ _ alike) in
    λ i. first i ∷ rest i

same_element : (x y : GroundElement) → (elements.ghosts).eq x y ≡ true → x ≡ y
same_element x y alike =
    let tuple : x.tuple ≡ y.tuple = (bytes_eq-Decides x.tuple y.tuple).0 (first_so _ _ alike) in
    let rest = second_so _ _ alike in
    let weight : x.weight ≡ y.weight = same_integer x.weight y.weight (first_so _ _ rest) in
    let lists = second_so _ _ rest in
    let pos : x.pos ≡ y.pos = (bytes_eq-Decides x.pos y.pos).0 (first_so _ _ lists) in
    let neg : x.neg ≡ y.neg = (bytes_eq-Decides x.neg y.neg).0 (second_so _ _ lists) in
    λ i. record { tuple = tuple i; weight = weight i; pos = pos i; neg = neg i }

same_guard : (x y : GroundGuard) → (guards.ghosts).eq x y ≡ true → x ≡ y
same_guard x y alike =
    let cmp : x.cmp ≡ y.cmp = same_true sign_type tt x.cmp y.cmp (first_so _ _ alike) in
    let rest = second_so _ _ alike in
    let bound : x.bound ≡ y.bound = eqb-true x.bound y.bound (first_so _ _ rest) in
    let limit : x.limit ≡ y.limit = same_integer x.limit y.limit (second_so _ _ rest) in
    λ i. record { cmp = cmp i; bound = bound i; limit = limit i }

same_aggregate : (x y : GroundAgg) → (aggregates.ghosts).eq x y ≡ true → x ≡ y
same_aggregate x y alike =
    let function : x.function ≡ y.function = same_true function_type tt x.function y.function (first_so _ _ alike) in
    let rest = second_so _ _ alike in
    let list : x.elements ≡ y.elements = same_list same_element x.elements y.elements (first_so _ _ rest) in
    let bounds : x.guards ≡ y.guards = same_list same_guard x.guards y.guards (second_so _ _ rest) in
    λ i. record { function = function i; elements = list i; guards = bounds i }

same_sign : (x y : SignedAgg) → (signed.ghosts).eq x y ≡ true → x ≡ y
same_sign x y alike =
    let negated : x.negated ≡ y.negated = (booleans_Decides x.negated y.negated).0 (first_so _ _ alike) in
    let agg : x.agg ≡ y.agg = same_aggregate x.agg y.agg (second_so _ _ alike) in
    λ i. record { negated = negated i; agg = agg i }

pub same_rule : (x y : GroundRule) → (rules.ghosts).eq x y ≡ true → x ≡ y
same_rule x y alike =
    let kind : x.kind ≡ y.kind = same_true kind_type tt x.kind y.kind (first_so _ _ alike) in
    let rest = second_so _ _ alike in
    let head : x.head ≡ y.head = same_number x.head y.head (first_so _ _ rest) in
    let lists = second_so _ _ rest in
    let pos : x.pos ≡ y.pos = (bytes_eq-Decides x.pos y.pos).0 (first_so _ _ lists) in
    let others = second_so _ _ lists in
    let neg : x.neg ≡ y.neg = (bytes_eq-Decides x.neg y.neg).0 (first_so _ _ others) in
    let aggs : x.aggs ≡ y.aggs = same_list same_sign x.aggs y.aggs (second_so _ _ others) in
    λ i. record { kind = kind i; head = head i; pos = pos i; neg = neg i; aggs = aggs i }
