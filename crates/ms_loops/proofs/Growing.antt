-- The completion of a join with a module.
use Rattle.std.proofs.Common.{◌≡◌, ◌≢◌, ◌∙◌, ◌⊎◌, ℕ, zero, suc, ◌+◌, ◌<◌, Bool, false, not, List, [], ◌∷◌, ◌++◌, Some, map, get_or, refl, sym, ap, subst, inl, inr, arith}
use Rattle.std.specs.Prelude.{◌↔◌, nat_eq, slice_get}
use Rattle.std.specs.List.{All, AllPairs, Contains, filter}
use Rattle.std.proofs.lemmas.Bool.{cases_eq, cases_lt, eqb-true, false_from_ne_true}
use Rattle.std.proofs.lemmas.List.Elements.{All-append, All-cons, All-contains, All-head, All-filter, All-map, All-nil, All-tail, Contains-append_cases, Contains-append_left, Contains-append_right, Contains-get_or, filter-append}
use Rattle.std.proofs.lemmas.Option.{get_or_from_slice_get, slice_get_within}
use Rattle.ms_lits.specs.Literals.{Nogood}
use Rattle.ms_join.specs.declared.ground_module.GroundModule.{GroundModule}
use Rattle.ms_join.specs.declared.ground_rule.GroundRule.{GroundRule}
use Rattle.ms_join.specs.declared.ground_rule.Input.{Input}
use Rattle.ms_join.specs.AnswerSets.{IsRuleOver}
use Rattle.ms_join.specs.Composability.{IsComposable}
use Rattle.ms_join.specs.Modules.{Join, IsInput, IsJoin, IsJoined, IsOutput, IsWellFormed, added_rules, declared_value}
use Rattle.ms_join.specs.Things.{Body, Thing, IsThing, IsThingOf, body_of}
use Rattle.ms_join.specs.Things.Thing.{atom, body, tuple, aggregate}
use Rattle.ms_things.specs.Completion.{Completion, IsCompletionNogood, IsNewCompletion, IsOf, false_bodies, has_head_in, parts_of, signs_of}
use Rattle.ms_things.specs.Completion.Completion.{whole_body, part_of_body, no_condition, condition_of_tuple, unsupported, no_head, broken}
use Rattle.ms_things.specs.Numbers.{AreThings, IsMadeOf}
use Rattle.ms_things.specs.Signs.{IsFor, IsNogoodOf, Signed, minus, plus, turned}
use Rattle.ms_loops.proofs.Founding.{head_of, if_at}
use Rattle.ms_base.proofs.Lists.{Contains-behind, Contains-cases, Contains-first}
use Rattle.ms_loops.proofs.Members.{any_at, member_at, place_of}
use Rattle.ms_loops.proofs.Truths.{parts_made}
use Rattle.ms_loops.proofs.Unfounded.{head_below}

-- ---- numbers of old things

-- things of a longer list under the numbers that they have
pub get_front : {X : Type 0} (xs ys : List X) (k : ℕ) (x : X) → slice_get xs k ≡ Some x → slice_get (xs ++ ys) k ≡ Some x
get_front [] ys k x at = cc
get_front (y ∷ xs) ys zero x at = at
get_front (y ∷ xs) ys (suc k) x at = get_front xs ys k x at

-- things that are there once have one number
one_number : {X : Type 0} (xs : List X) (i k : ℕ) (x : X) → AllPairs (λ x y. x ≢ y) xs → slice_get xs i ≡ Some x → slice_get xs k ≡ Some x → i ≡ k
one_number xs i k x once first then =
    let same : get_or xs i x ≡ get_or xs k x = get_or_from_slice_get xs i x x first ∙ sym (get_or_from_slice_get xs k x x then) in
    elim (cases_eq i k) [
      | inl is ↦ is
      | inr differ ↦ elim (cases_lt i k) [
        | inl less ↦ absurd (once i k x less (slice_get_within xs k x then) same)
        | inr more ↦ absurd (once k i x (omega (arith, more, differ)) (slice_get_within xs i x first) (sym same))
      ]
    ]

module _ (things more : List Thing) (signs : List Signed) (nogood : Nogood) where
  with_more : IsNogoodOf things signs nogood → IsNogoodOf (things ++ more) signs nogood
  with_more is = record {
    rising = is.rising;
    of_set = λ k d within.
        let here = is.of_set k d within in
        any_at (λ s. IsFor (things ++ more) s (get_or nogood k d)) signs here.1 (here.0, here.2, here.3) (get_front things more (get_or nogood k d).var here.1.thing here.4.0, here.4.1);
    whole = λ k d within.
        let here = is.whole k d within in
        any_at (IsFor (things ++ more) (get_or signs k d)) nogood here.1 (here.0, here.2, here.3) (get_front things more here.1.var (get_or signs k d).thing here.4.0, here.4.1);
  }

  without_more : AllPairs (λ t u. t ≢ u) (things ++ more) → All (λ s. Contains things s.thing) signs → IsNogoodOf (things ++ more) signs nogood → IsNogoodOf things signs nogood
  without_more once there is =
      let at_old : (s : Signed) → Contains signs s → (number : ℕ) → slice_get (things ++ more) number ≡ Some s.thing → slice_get things number ≡ Some s.thing =
      λ s among number at.
      let place = place_of things s.thing (All-contains (λ t. Contains things t.thing) signs s there among) in
      subst (λ n. slice_get things n ≡ Some s.thing) (one_number (things ++ more) place.0 number s.thing once (get_front things more place.0 s.thing place.1) at) place.1 in
      record {
        rising = is.rising;
        of_set = λ k d within.
            let here = is.of_set k d within in
            let among : Contains signs here.1 = (here.0, here.2, here.3) in
            any_at (λ s. IsFor things s (get_or nogood k d)) signs here.1 among (at_old here.1 among (get_or nogood k d).var here.4.0, here.4.1);
        whole = λ k d within.
            let here = is.whole k d within in
            any_at (IsFor things (get_or signs k d)) nogood here.1 (here.0, here.2, here.3)
            (at_old (get_or signs k d) (Contains-get_or signs k d within) here.1.var here.4.0, here.4.1);
      }

-- ---- the things that the completion of a join speaks of are things of the join

module _ (j : Join) (things : List Thing) (are : AreThings j things) where
  part_there : (t part : Thing) → Contains things t → IsMadeOf t part → Contains things part
  part_there t part there made =
      let place = place_of things t there in
      let before = are.before place.0 t part place.1 made in
      member_at things part before.0 before.2

  parts_there : (b : Body) → Contains things (body b) → All (λ s. Contains things s.thing) (parts_of b)
  parts_there b there k d within = part_there (body b) (get_or (parts_of b) k d).thing there (parts_made b k d within)

  body_there : (rule : GroundRule) → Contains j.rules rule → Contains things (body (body_of rule))
  body_there rule among = (are.exactly (body (body_of rule))).1 (any_at (λ r. IsThingOf r (body (body_of rule))) j.rules rule among (inl refl))

  both_there : (s t : Signed) → Contains things s.thing → Contains things t.thing → All (λ u. Contains things u.thing) (s ∷ t ∷ [])
  both_there s t first then =
      All-cons (λ u. Contains things u.thing) s (t ∷ []) first (All-cons (λ u. Contains things u.thing) t [] then (All-nil (λ u. Contains things u.thing)))

  signs_there : (says : Completion) → IsOf (IsThing j.atoms j.rules) (IsOutput j) j.rules says → IsJoin j → All (λ s. Contains things s.thing) (signs_of j.rules says)
  signs_there (whole_body b) of is =
      let there : Contains things (body b) = (are.exactly (body b)).1 of in
      All-cons (λ s. Contains things s.thing) (minus (body b)) (parts_of b) there (parts_there b there)
  signs_there (part_of_body b part) (of, among) is =
      let there : Contains things (body b) = (are.exactly (body b)).1 of in
      both_there (plus (body b)) (turned part) there (All-contains (λ s. Contains things s.thing) (parts_of b) part (parts_there b there) among)
  signs_there (no_condition t) of is =
      let there : Contains things (tuple t) = (are.exactly (tuple t)).1 of in
      All-cons (λ s. Contains things s.thing) (plus (tuple t)) (map (λ c. minus (body c)) t.conditions) there
      (All-map (λ s. Contains things s.thing) (λ c. minus (body c)) t.conditions
      (λ k d within. part_there (tuple t) (body (get_or t.conditions k d)) there (Contains-get_or t.conditions k d within)))
  signs_there (condition_of_tuple t c) (of, among) is =
      let there : Contains things (tuple t) = (are.exactly (tuple t)).1 of in
      both_there (plus (body c)) (minus (tuple t)) (part_there (tuple t) (body c) there among) there
  signs_there (unsupported a) of is =
      All-cons (λ s. Contains things s.thing) (plus (atom a)) (false_bodies (λ rule. has_head_in (nat_eq a) rule.head) j.rules) ((are.exactly (atom a)).1 of.within)
      (All-map (λ s. Contains things s.thing) (λ rule. minus (body (body_of rule))) (filter (λ rule. has_head_in (nat_eq a) rule.head) j.rules)
      (All-filter (λ rule. has_head_in (nat_eq a) rule.head) (λ rule. Contains things (body (body_of rule))) j.rules
      (λ k d within. body_there (get_or j.rules k d) (Contains-get_or j.rules k d within))))
  signs_there (no_head rule h) (among, kind, at) is =
      let over : IsRuleOver j.atoms rule = All-contains (IsRuleOver j.atoms) j.rules rule is.over.rules among in
      both_there (plus (body (body_of rule))) (minus (atom h)) (body_there rule among) ((are.exactly (atom h)).1 (head_below j.atoms rule.kind rule.head over.head h at))
  signs_there (broken rule) (among, kind) is =
      All-cons (λ s. Contains things s.thing) (plus (body (body_of rule))) [] (body_there rule among) (All-nil (λ s. Contains things s.thing))

-- ---- outputs

nothing_after : {X : Type 0} (xs : List X) → (xs ++ []) ≡ xs
nothing_after [] = refl
nothing_after (x ∷ xs) = ap (λ ys. x ∷ ys) (nothing_after xs)

filter_none : {X : Type 0} (test : X → Bool) (xs : List X) → All (λ x. test x ≡ false) xs → filter test xs ≡ []
filter_none test [] all = refl
filter_none test (x ∷ xs) all = rw (All-head (λ y. test y ≡ false) x xs all) (filter_none test xs (All-tail (λ y. test y ≡ false) x xs all))

module _ {X : Type 0} (test : X → Bool) (xs ys : List X) where
  front_alone : All (λ y. test y ≡ false) ys → filter test (xs ++ ys) ≡ filter test xs
  front_alone none = filter-append test xs ys ∙ ap (λ zs. filter test xs ++ zs) (filter_none test ys none) ∙ nothing_after (filter test xs)

  back_alone : All (λ x. test x ≡ false) xs → filter test (xs ++ ys) ≡ filter test ys
  back_alone none = filter-append test xs ys ∙ ap (λ zs. zs ++ filter test ys) (filter_none test xs none)

contains_or_not : (xs : List ℕ) (a : ℕ) → Contains xs a ⊎ (¬ Contains xs a)
contains_or_not [] a = inr (λ (k, within, at). absurd (omega (arith, within)))
contains_or_not (x ∷ xs) a = elim (cases_eq x a) [
  | inl same ↦ inl (subst (Contains (x ∷ xs)) same (Contains-first x xs))
  | inr differ ↦ elim (contains_or_not xs a) [
    | inl there ↦ inl (Contains-behind x xs a there)
    | inr apart ↦ inr (λ there. elim (Contains-cases x xs a there) [ inl same ↦ differ same | inr later ↦ apart later ])
  ]
]

module _ (old new : Join) (m : GroundModule) (is : IsJoin old) (well : IsWellFormed old.atoms m) (composable : IsComposable old m) (joined : IsJoined old m new) where
  stays_output : (a : ℕ) → IsOutput old a → IsOutput new a
  stays_output a out =
      let less = out.within in
      record {
        within = subst (λ n. a < n) (sym joined.atoms) (omega (arith, less));
        no_input = λ (k, i, within, at, same). elim ((joined.inputs i).0 (k, within, at)) [
          | inl stays ↦ out.no_input (any_at (λ (e : Input). e.atom ≡ a) old.inputs i stays.0 same)
          | inr comes ↦ let late = comes.0 in absurd (omega (arith, less, late, same))
        ];
      }

  head_is_output : (a : ℕ) → Contains m.heads a → IsOutput new a
  head_is_output a head = record {
    within = subst (λ n. a < n) (sym joined.atoms) (All-contains (λ b. b < old.atoms + m.fresh) m.heads a well.heads.within head);
    no_input = λ (k, i, within, at, same). elim ((joined.inputs i).0 (k, within, at)) [
      | inl stays ↦ stays.1 (subst (Contains m.heads) (sym same) head)
      | inr comes ↦ comes.2 (subst (Contains m.heads) (sym same) head)
    ];
  }

  output_cases : (a : ℕ) → IsOutput new a → IsOutput old a ⊎ Contains m.heads a
  output_cases a out = elim (contains_or_not m.heads a) [
    | inl head ↦ inr head
    | inr apart ↦ elim (cases_lt a old.atoms) [
      | inl less ↦ inl (record {
        within = less;
        no_input = λ (k, i, within, at, same).
            let there : Contains new.inputs i = (joined.inputs i).1 (inl ((k, within, at), λ head. apart (subst (Contains m.heads) same head))) in
            out.no_input (any_at (λ (e : Input). e.atom ≡ a) new.inputs i there same);
      })
      | inr late ↦ elim (well.covered a late (subst (λ n. a < n) joined.atoms out.within)) [
        | inl head ↦ inr head
        | inr external ↦
            let i : Input = record { atom = a; value = Some (declared_value m a) } in
            let there : Contains new.inputs i = (joined.inputs i).1 (inr (late, external, apart, refl)) in
            absurd (out.no_input (any_at (λ (e : Input). e.atom ≡ a) new.inputs i there refl))
      ]
    ]
  ]

  -- the rules with an output as their head
  old_bodies : (a : ℕ) → IsOutput old a → false_bodies (λ rule. has_head_in (nat_eq a) rule.head) (old.rules ++ added_rules m) ≡ false_bodies (λ rule. has_head_in (nat_eq a) rule.head) old.rules
  old_bodies a out = ap (map (λ rule. minus (body (body_of rule)))) (front_alone (λ rule. has_head_in (nat_eq a) rule.head) old.rules (added_rules m)
      (λ k d within. false_from_ne_true (has_head_in (nat_eq a) (get_or m.rules k d).head) (λ holds.
      let head = head_of (nat_eq a) (get_or m.rules k d).head holds in
      let there : Contains m.heads head.0 = if_at (Contains m.heads) (get_or m.rules k d).head head.0 head.1 (well.headed k d within) in
      composable.different a (record { head = subst (Contains m.heads) (sym (eqb-true a head.0 head.2)) there; output = out }))))

  head_bodies : (a : ℕ) → Contains m.heads a → false_bodies (λ rule. has_head_in (nat_eq a) rule.head) (old.rules ++ added_rules m) ≡ false_bodies (λ rule. has_head_in (nat_eq a) rule.head) (added_rules m)
  head_bodies a head = ap (map (λ rule. minus (body (body_of rule)))) (back_alone (λ rule. has_head_in (nat_eq a) rule.head) old.rules (added_rules m)
      (λ k d within. false_from_ne_true (has_head_in (nat_eq a) (get_or old.rules k d).head) (λ holds.
      let rule : GroundRule = get_or old.rules k d in
      let of = head_of (nat_eq a) rule.head holds in
      let same : of.0 ≡ a = sym (eqb-true a of.0 of.2) in
      let below : of.0 < old.atoms = head_below old.atoms rule.kind rule.head (is.over.rules k d within).head of.0 of.1 in
      let no_input : ¬ IsInput old of.0 = if_at (λ h. ¬ IsInput old h) rule.head of.0 of.1 (is.outputs k d within) in
      composable.different a (record { head = head; output = subst (IsOutput old) same (record { within = below; no_input = no_input }) }))))

  -- ---- what is said of the joins and of the module

  abbrev OfOld : Completion → Type 0
  OfOld says = IsOf (IsThing old.atoms old.rules) (IsOutput old) old.rules says

  abbrev OfNew : Completion → Type 0
  OfNew says = IsOf (IsThing new.atoms new.rules) (IsOutput new) new.rules says

  in_front : (rule : GroundRule) → Contains old.rules rule → Contains new.rules rule
  in_front rule among = subst (λ (rs : List GroundRule). Contains rs rule) (sym joined.rules) (Contains-append_left old.rules (added_rules m) rule among)

  in_back : (rule : GroundRule) → Contains (added_rules m) rule → Contains new.rules rule
  in_back rule among = subst (λ (rs : List GroundRule). Contains rs rule) (sym joined.rules) (Contains-append_right old.rules (added_rules m) rule among)

  rule_cases : (rule : GroundRule) → Contains new.rules rule → Contains old.rules rule ⊎ Contains (added_rules m) rule
  rule_cases rule among = Contains-append_cases old.rules (added_rules m) rule (subst (λ (rs : List GroundRule). Contains rs rule) joined.rules among)

  module _ (things more : List Thing) (are : AreThings old things) (now : AreThings new (things ++ more)) where
    abbrev OfModule : Completion → Type 0
    OfModule says = IsOf (Contains more) (Contains m.heads) (added_rules m) says

    old_thing : (t : Thing) → IsThing old.atoms old.rules t → IsThing new.atoms new.rules t
    old_thing t of = (now.exactly t).0 (Contains-append_left things more t ((are.exactly t).1 of))

    new_thing : (t : Thing) → Contains more t → IsThing new.atoms new.rules t
    new_thing t there = (now.exactly t).0 (Contains-append_right things more t there)

    thing_cases : (t : Thing) → IsThing new.atoms new.rules t → IsThing old.atoms old.rules t ⊎ Contains more t
    thing_cases t of = elim (Contains-append_cases things more t ((now.exactly t).1 of)) [
      | inl there ↦ inl ((are.exactly t).0 there)
      | inr there ↦ inr there
    ]

    says_cases : (says : Completion) → OfNew says → OfOld says ⊎ OfModule says
    says_cases (whole_body b) of = thing_cases (body b) of
    says_cases (part_of_body b part) (of, among) = elim (thing_cases (body b) of) [ inl there ↦ inl (there, among) | inr there ↦ inr (there, among) ]
    says_cases (no_condition t) of = thing_cases (tuple t) of
    says_cases (condition_of_tuple t c) (of, among) = elim (thing_cases (tuple t) of) [ inl there ↦ inl (there, among) | inr there ↦ inr (there, among) ]
    says_cases (unsupported a) of = output_cases a of
    says_cases (no_head rule h) (among, kind, at) = elim (rule_cases rule among) [ inl there ↦ inl (there, kind, at) | inr there ↦ inr (there, kind, at) ]
    says_cases (broken rule) (among, kind) = elim (rule_cases rule among) [ inl there ↦ inl (there, kind) | inr there ↦ inr (there, kind) ]

    old_stays : (says : Completion) → OfOld says → OfNew says × (signs_of new.rules says ≡ signs_of old.rules says)
    old_stays (whole_body b) of = (old_thing (body b) of, refl)
    old_stays (part_of_body b part) (of, among) = ((old_thing (body b) of, among), refl)
    old_stays (no_condition t) of = (old_thing (tuple t) of, refl)
    old_stays (condition_of_tuple t c) (of, among) = ((old_thing (tuple t) of, among), refl)
    old_stays (unsupported a) of = (
      stays_output a of,
      ap (λ rs. signs_of rs (unsupported a)) joined.rules ∙ ap (λ bodies. plus (atom a) ∷ bodies) (old_bodies a of),
    )
    old_stays (no_head rule h) (among, kind, at) = ((in_front rule among, kind, at), refl)
    old_stays (broken rule) (among, kind) = ((in_front rule among, kind), refl)

    new_stays : (says : Completion) → OfModule says → OfNew says × (signs_of new.rules says ≡ signs_of (added_rules m) says)
    new_stays (whole_body b) of = (new_thing (body b) of, refl)
    new_stays (part_of_body b part) (of, among) = ((new_thing (body b) of, among), refl)
    new_stays (no_condition t) of = (new_thing (tuple t) of, refl)
    new_stays (condition_of_tuple t c) (of, among) = ((new_thing (tuple t) of, among), refl)
    new_stays (unsupported a) of = (
      head_is_output a of,
      ap (λ rs. signs_of rs (unsupported a)) joined.rules ∙ ap (λ bodies. plus (atom a) ∷ bodies) (head_bodies a of),
    )
    new_stays (no_head rule h) (among, kind, at) = ((in_back rule among, kind, at), refl)
    new_stays (broken rule) (among, kind) = ((in_back rule among, kind), refl)

    divided : (nogood : Nogood) → IsCompletionNogood new (things ++ more) nogood → IsCompletionNogood old things nogood ⊎ IsNewCompletion m (things ++ more) more nogood
    divided nogood n = elim (says_cases n.says n.of_join) [
      | inl of ↦ inl (record {
        says = n.says;
        of_join = of;
        is = without_more things more (signs_of old.rules n.says) nogood now.once (signs_there old things are n.says of is)
            (subst (λ (signs : List Signed). IsNogoodOf (things ++ more) signs nogood) (old_stays n.says of).1 n.is);
      })
      | inr of ↦ inr (record {
        says = n.says;
        of_module = of;
        is = subst (λ (signs : List Signed). IsNogoodOf (things ++ more) signs nogood) (new_stays n.says of).1 n.is;
      })
    ]

    of_old : (nogood : Nogood) → IsCompletionNogood old things nogood → IsCompletionNogood new (things ++ more) nogood
    of_old nogood n =
        let stays = old_stays n.says n.of_join in
        record {
          says = n.says;
          of_join = stays.0;
          is = subst (λ (signs : List Signed). IsNogoodOf (things ++ more) signs nogood) (sym stays.1) (with_more things more (signs_of old.rules n.says) nogood n.is);
        }

    of_new : (nogood : Nogood) → IsNewCompletion m (things ++ more) more nogood → IsCompletionNogood new (things ++ more) nogood
    of_new nogood n =
        let stays = new_stays n.says n.of_module in
        record {
          says = n.says;
          of_join = stays.0;
          is = subst (λ (signs : List Signed). IsNogoodOf (things ++ more) signs nogood) (sym stays.1) n.is;
        }

pub completion_grows : (old new : Join) (m : GroundModule) (things more : List Thing) (nogood : Nogood) → IsJoin old → IsWellFormed old.atoms m → IsComposable old m → IsJoined old m new
    → AreThings old things → AreThings new (things ++ more)
    → IsCompletionNogood new (things ++ more) nogood ↔ (IsCompletionNogood old things nogood ⊎ IsNewCompletion m (things ++ more) more nogood)
completion_grows old new m things more nogood is well composable joined are now = (
  divided old new m is well composable joined things more are now nogood,
  λ n. elim n [
    | inl before ↦ of_old old new m is well composable joined things more are now nogood before
    | inr comes ↦ of_new old new m is well composable joined things more are now nogood comes
  ],
)
