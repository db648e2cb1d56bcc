-- What a rule says under a choice, and its copy with this choice.
use Rattle.std.proofs.Common.{◌≡◌, Bool, true, false, ◌&&◌, inl, inr, List, [], ◌∷◌, ◌++◌, map, length, All, Option, Some, None, refl, sym, ap, ◌∙◌, subst, arith}
use Rattle.std.specs.Prelude.{Contains, IsSome, IsSomeAnd, is_some, unwrap_or, option_map, option_and_then, option_to_list, flat_map}
use Rattle.std.specs.List.{list_all}
use Rattle.std.proofs.lemmas.Bool.{and_parts}
use Rattle.std.proofs.lemmas.List.Elements.{All-nil, All-cons, All-head, All-tail, All-append, All-contains, Contains-append_left, Contains-append_right}
use Rattle.ms_base.proofs.Lists.{Contains-behind, Contains-cases, Contains-first}
use Rattle.ms_tree.specs.Tree.{Tree}
use Rattle.ms_grammar.specs.Terms.{both}
use Rattle.ms_core.specs.declared.pattern.Pattern.{Pattern}
use Rattle.ms_core.specs.declared.rule.Test.{Test}
use Rattle.ms_core.specs.declared.rule.Agg.{Agg}
use Rattle.ms_core.specs.declared.rule.CoreRule.{CoreRule}
use Rattle.ms_copies.specs.Evaluating.{Chosen, value}
use Rattle.ms_copies.specs.Choosing.{AreChosen, Holds, IsCopy}
use Rattle.ms_copies.specs.Grounding.{head_under}
use Rattle.ms_copies.specs.Simplifying.{IsAmong, IsValueOf}
use Rattle.ms_instances.specs.Instances.{Said}
use Rattle.ms_instances.specs.Listing.{holds, head_value, values, said_of}
use Rattle.ms_instances.proofs.Members.{said_parts, said_made, all_from, any_parts, any_made}

-- The rule says this under the choice.
pub record IsSaid (rule : CoreRule) (chosen : Chosen) (s : Said) : Type 0 where
  pub kind : s.kind ≡ rule.kind
  pub head : head_under chosen rule ≡ s.head
  pub pos : values chosen rule.conds.pos ≡ Some s.pos
  pub neg : values chosen rule.conds.neg ≡ Some s.neg

abbrev HasValue : Chosen → Pattern → Type 0
HasValue chosen p = IsSome (value chosen p)

holds_from : (o : Option Bool) → unwrap_or o false ≡ true → o ≡ Some true
holds_from None e = cc
holds_from (Some b) e = ap Some e

all_hold_from : (chosen : Chosen) (tests : List Test) → list_all (holds chosen) tests ≡ true → All (Holds chosen) tests
all_hold_from chosen [] e = All-nil (Holds chosen)
all_hold_from chosen (test ∷ tests) e =
    let parts = and_parts (holds chosen test) (list_all (holds chosen) tests) e in
    All-cons (Holds chosen) test tests (holds_from _ parts.0) (all_hold_from chosen tests parts.1)

all_hold_to : (chosen : Chosen) (tests : List Test) → All (Holds chosen) tests → list_all (holds chosen) tests ≡ true
all_hold_to chosen [] h = refl
all_hold_to chosen (test ∷ tests) h =
    let first : holds chosen test ≡ true = ap (λ (o : Option Bool). unwrap_or o false) (All-head (Holds chosen) test tests h) in
    ap (λ (b : Bool). b && list_all (holds chosen) tests) first ∙ all_hold_to chosen tests (All-tail (Holds chosen) test tests h)

pub some_of : {X : Type 0} (v : Option X) → IsSome v → (x : X) × (v ≡ Some x)
some_of None h = cc
some_of (Some x) h = (x, refl)

is_some_of : {X : Type 0} (v : Option X) (x : X) → v ≡ Some x → IsSome v
is_some_of v x e = ap is_some e

mapped : (v : Option Tree) (h : Option Tree) → option_map Some v ≡ Some h → (v ≡ h) × IsSome v
mapped None h e = cc
mapped (Some t) h e = (cc, refl)

head_from : (chosen : Chosen) (p : Option Pattern) (h : Option Tree) → head_value chosen p ≡ Some h → (option_and_then (value chosen) p ≡ h) × All (HasValue chosen) (option_to_list p)
head_from chosen None h e = (cc, All-nil (HasValue chosen))
head_from chosen (Some p) h e = let parts = mapped (value chosen p) h e in (parts.0, All-cons (HasValue chosen) p [] parts.1 (All-nil (HasValue chosen)))

head_some : (chosen : Chosen) (p : Option Pattern) → All (HasValue chosen) (option_to_list p) → (h : Option Tree) × (head_value chosen p ≡ Some h)
head_some chosen None all = (None, refl)
head_some chosen (Some p) all = let v = some_of (value chosen p) (All-head (HasValue chosen) p [] all) in (Some v.0, ap (option_map Some) v.1)

record Parts (v : Option Tree) (w : Option (List Tree)) (ts : List Tree) : Type 0 where
  pub first : Tree
  pub rest : List Tree
  pub first_is : v ≡ Some first
  pub rest_is : w ≡ Some rest
  pub are : ts ≡ first ∷ rest

both_parts : (v : Option Tree) (w : Option (List Tree)) (ts : List Tree) → both (λ t us. Some (t ∷ us)) v w ≡ Some ts → Parts v w ts
both_parts None w ts e = cc
both_parts (Some t) None ts e = cc
both_parts (Some t) (Some us) ts e = record { first = t; rest = us; first_is = refl; rest_is = refl; are = cc }

values_from : (chosen : Chosen) (ps : List Pattern) (ts : List Tree) → values chosen ps ≡ Some ts → All (HasValue chosen) ps
values_from chosen [] ts e = All-nil (HasValue chosen)
values_from chosen (p ∷ ps) ts e =
    let parts = both_parts (value chosen p) (values chosen ps) ts e in
    All-cons (HasValue chosen) p ps (is_some_of (value chosen p) parts.first parts.first_is) (values_from chosen ps parts.rest parts.rest_is)

values_some : (chosen : Chosen) (ps : List Pattern) → All (HasValue chosen) ps → (ts : List Tree) × (values chosen ps ≡ Some ts)
values_some chosen [] all = ([], refl)
values_some chosen (p ∷ ps) all =
    let v = some_of (value chosen p) (All-head (HasValue chosen) p ps all) in
    let vs = values_some chosen ps (All-tail (HasValue chosen) p ps all) in
    (v.0 ∷ vs.0, ap (λ (o : Option Tree). both (λ t us. Some (t ∷ us)) o (values chosen ps)) v.1 ∙ ap (both (λ t us. Some (t ∷ us)) (Some v.0)) vs.1)

pub says : (rule : CoreRule) (chosen : Chosen) (s : Said) → said_of rule chosen ≡ Some s → IsSaid rule chosen s
says rule chosen s e =
    let parts = said_parts rule.kind _ _ _ _ s e in
    record { kind = parts.kind_is; head = (head_from chosen rule.head s.head parts.head_is).0; pos = parts.pos_is; neg = parts.neg_is }

pub says_copy : (rule : CoreRule) (chosen : Chosen) (s : Said) → rule.aggs ≡ [] → AreChosen [] rule.conds.ranges chosen → said_of rule chosen ≡ Some s → IsCopy rule chosen
says_copy rule chosen s plain within e =
    let parts = said_parts rule.kind _ _ _ _ s e in
    let head = (head_from chosen rule.head s.head parts.head_is).1 in
    let pos = values_from chosen rule.conds.pos s.pos parts.pos_is in
    let neg = values_from chosen rule.conds.neg s.neg parts.neg_is in
    let guards : All (HasValue chosen) (flat_map (λ a. map (λ g. g.bound) a.guards) rule.aggs) =
    subst (λ (aggs : List Agg). All (HasValue chosen) (flat_map (λ a. map (λ g. g.bound) a.guards) aggs)) (sym plain) (All-nil (HasValue chosen)) in
    record {
      within = within;
      defined = All-append (HasValue chosen) _ _ (All-append (HasValue chosen) _ _ (All-append (HasValue chosen) _ _ head pos) neg) guards;
      compared = all_hold_from chosen rule.conds.tests parts.holds;
    }

all_left : {X : Type 0} (P : X → Type 0) (xs ys : List X) → All P (xs ++ ys) → All P xs
all_left P xs ys h = all_from P xs (λ x c. All-contains P (xs ++ ys) x h (Contains-append_left xs ys x c))

all_right : {X : Type 0} (P : X → Type 0) (xs ys : List X) → All P (xs ++ ys) → All P ys
all_right P xs ys h = all_from P ys (λ x c. All-contains P (xs ++ ys) x h (Contains-append_right xs ys x c))

pub copy_says : (rule : CoreRule) (chosen : Chosen) → IsCopy rule chosen → (s : Said) × (said_of rule chosen ≡ Some s)
copy_says rule chosen c =
    let heads = option_to_list rule.head in
    let guards = flat_map (λ a. map (λ g. g.bound) a.guards) rule.aggs in
    let bodies : All (HasValue chosen) ((heads ++ rule.conds.pos) ++ rule.conds.neg) = all_left (HasValue chosen) _ guards c.defined in
    let front : All (HasValue chosen) (heads ++ rule.conds.pos) = all_left (HasValue chosen) _ rule.conds.neg bodies in
    let head = head_some chosen rule.head (all_left (HasValue chosen) heads rule.conds.pos front) in
    let pos = values_some chosen rule.conds.pos (all_right (HasValue chosen) heads rule.conds.pos front) in
    let neg = values_some chosen rule.conds.neg (all_right (HasValue chosen) (heads ++ rule.conds.pos) rule.conds.neg bodies) in (
      record { kind = rule.kind; head = head.0; pos = pos.0; neg = neg.0 },
      said_made rule.kind (list_all (holds chosen) rule.conds.tests) (head_value chosen rule.head) (values chosen rule.conds.pos) (values chosen rule.conds.neg)
          head.0 pos.0 neg.0 (all_hold_to chosen rule.conds.tests c.compared) head.1 pos.1 neg.1,
    )

-- a value among the values is the value of one of the terms
pub among_values : (chosen : Chosen) (ps : List Pattern) (ts : List Tree) (t : Tree) → values chosen ps ≡ Some ts → Contains ts t → IsValueOf chosen ps t
among_values chosen [] ts t e (k, inside, is) = let none : [] ≡ ts = cc in absurd (omega (arith, ap length none))
among_values chosen (p ∷ ps) ts t e c =
    let Is : Pattern → Type 0 = λ q. value chosen q ≡ Some t in
    let parts = both_parts (value chosen p) (values chosen ps) ts e in
    elim (Contains-cases parts.first parts.rest t (subst (λ (us : List Tree). Contains us t) parts.are c)) [
      | inl same ↦ any_made Is (p ∷ ps) p (Contains-first p ps) (parts.first_is ∙ ap Some same)
      | inr there ↦ let found = any_parts Is ps (among_values chosen ps parts.rest t parts.rest_is there) in any_made Is (p ∷ ps) found.0 (Contains-behind p ps found.0 found.1) found.2
    ]

pub value_among : (chosen : Chosen) (ps : List Pattern) (ts : List Tree) (p : Pattern) (t : Tree) → values chosen ps ≡ Some ts → Contains ps p → value chosen p ≡ Some t → Contains ts t
value_among chosen [] ts p t e (k, inside, is) v = absurd (omega arith)
value_among chosen (q ∷ ps) ts p t e c v =
    let parts = both_parts (value chosen q) (values chosen ps) ts e in
    let placed : Contains (parts.first ∷ parts.rest) t = elim (Contains-cases q ps p c) [
      | inl same ↦ let equal : Some parts.first ≡ Some t = sym parts.first_is ∙ ap (value chosen) same ∙ v in
          let here : parts.first ≡ t = cc in subst (λ (u : Tree). Contains (parts.first ∷ parts.rest) u) here (Contains-first parts.first parts.rest)
      | inr there ↦ Contains-behind parts.first parts.rest t (value_among chosen ps parts.rest p t parts.rest_is there v)
    ] in
    subst (λ (us : List Tree). Contains us t) (sym parts.are) placed

pub known_to : (atoms : List Tree) (chosen : Chosen) (ps : List Pattern) (ts : List Tree) → values chosen ps ≡ Some ts → All (Contains atoms) ts → All (IsAmong atoms chosen) ps
known_to atoms chosen ps ts e known = all_from (IsAmong atoms chosen) ps (λ p c.
    let v = some_of (value chosen p) (All-contains (HasValue chosen) ps p (values_from chosen ps ts e) c) in
    subst (λ (o : Option Tree). IsSomeAnd o (Contains atoms)) (sym v.1) (All-contains (Contains atoms) ts v.0 known (value_among chosen ps ts p v.0 e c v.1)))

among_by : (atoms : List Tree) (v : Option Tree) (t : Tree) → v ≡ Some t → IsSomeAnd v (Contains atoms) → Contains atoms t
among_by atoms None t e h = absurd h
among_by atoms (Some u) t e h = let same : u ≡ t = cc in subst (Contains atoms) same h

pub known_from : (atoms : List Tree) (chosen : Chosen) (ps : List Pattern) (ts : List Tree) → values chosen ps ≡ Some ts → All (IsAmong atoms chosen) ps → All (Contains atoms) ts
known_from atoms chosen ps ts e known = all_from (Contains atoms) ts (λ t c.
    let found = any_parts (λ (p : Pattern). value chosen p ≡ Some t) ps (among_values chosen ps ts t e c) in
    among_by atoms (value chosen found.0) t found.2 (All-contains (IsAmong atoms chosen) ps found.0 known found.1))
