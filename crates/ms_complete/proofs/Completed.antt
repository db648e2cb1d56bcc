-- What taking a module does to the nogoods of the program: they are the completion nogoods of the new join.
use Rattle.std.proofs.Common.{◌≡◌, ◌∙◌, ◌⊎◌, ◌+◌, ◌<◌, ◌≤◌, ℕ, true, false, not, nat_eq, eq-eqb, suc, List, [], ◌∷◌, ◌++◌, Option, Some, map, length, refl, sym, ap, subst, inl, inr, arith}
use Rattle.std.specs.Prelude.{slice_get, IfSome}
use Rattle.std.specs.List.{All, Any, Contains, filter}
use Rattle.std.proofs.lemmas.Bool.Decides.{Decides-eqb}
use Rattle.std.proofs.lemmas.Bool.{cases_eq, cases_lt}
use Rattle.std.proofs.lemmas.List.{append-nil}
use Rattle.std.proofs.lemmas.List.Elements.{All-append, All-cons, All-contains, All-nil, All-map, Contains-append_cases, filter-append, filter_passes}
use Rattle.ms_base.proofs.Lists.{Contains-filter, Contains-filtered}
use Rattle.ms_lits.specs.declared.lit.Lit.{Lit}
use Rattle.ms_lits.specs.Literals.{Nogood}
use Rattle.ms_nogood.specs.Store.{Store}
use Rattle.ms_join.specs.declared.aggregate.SignedAgg.{SignedAgg}
use Rattle.ms_join.specs.declared.ground_rule.GroundRule.{GroundRule}
use Rattle.ms_join.specs.declared.ground_rule.Input.{Input}
use Rattle.ms_join.specs.declared.ground_module.GroundModule.{GroundModule}
use Rattle.ms_join.specs.AnswerSets.{IsRuleOver}
use Rattle.ms_join.specs.Modules.{Join, IsInput, IsJoined, IsOutput, declared_value}
use Rattle.ms_join.specs.Things.{Body, Tuple, Thing, IsThing, IsThingOf, body_of, tuple_of}
use Rattle.ms_join.specs.Things.Thing.{atom, body, tuple, aggregate}
use Rattle.ms_things.specs.Numbers.{AreThings, IsMadeOf}
use Rattle.ms_things.specs.Signs.{Signed, IsFor, IsNogoodOf, plus, minus, turned}
use Rattle.ms_things.specs.Completion.{parts_of, false_bodies, Completion, whole_body, part_of_body, no_condition, condition_of_tuple, unsupported, no_head, broken, IsOf, signs_of, IsCompletionNogood}
use Rattle.ms_complete.specs.declared.key.NumberedRule.{NumberedRule}
use Rattle.ms_complete.specs.declared.key.Support.{Support}
use Rattle.ms_complete.specs.Bases.{AddsExactly}
use Rattle.ms_complete.specs.Numbering.{Numbering}
use Rattle.ms_complete.specs.Rules.{IsAtomAt, IsNumbered, holds, fails, BodyNogood, ThingNogood, NewSay, RuleSays, IsSupport, AreSupports, head_lits, AreOwn, HeadSays}
use Rattle.ms_complete.specs.Sets.{Match, pair}
use Rattle.ms_complete.specs.Completing.{AreOf, CanTake}
use Rattle.ms_complete.proofs.Lists.{any_from, any_here, any_later, member_of, member_cases, member_map, some_at, at_some, some_once, same_some, all_from}
use Rattle.ms_complete.proofs.KeyLaws.{same_atom}
use Rattle.ms_complete.proofs.Stores.{has_after}
use Rattle.ms_complete.proofs.Taking.{Declared, plain_is, no_element, head_within, rules_cases, old_rule, old_any, new_any, rule_over, no_tuple, body_at, are_things}
use Rattle.ms_complete.proofs.Writing.{nogood_from, writes_from}
use Rattle.ms_complete.proofs.Carried.{nogood_stays, nogood_was, front_at, filter_none, heads, has_head, head_is, other_head, if_some, number_of, head_of, says_cases, says_normal, says_constraint, thing_says, match_one, match_two, part_atoms}

member_or_not : (xs : List ℕ) (a : ℕ) → Contains xs a ⊎ (¬ Contains xs a)
member_or_not [] a = inr (λ (k, within, is). absurd (omega arith))
member_or_not (x ∷ xs) a = elim (cases_eq x a) [
  | inl same ↦ inl (0, omega arith, same)
  | inr differ ↦ elim (member_or_not xs a) [
    | inl (k, within, is) ↦ inl (suc k, omega arith, is)
    | inr none ↦ inr (λ has. elim (member_cases x a xs has) [ inl same ↦ differ same | inr later ↦ none later ])
  ]
]

module _ (j joined : Join) (m : GroundModule) (store : Store) (old new : Numbering) (numbered : List NumberedRule)
    (is : IsJoined j m joined) (can : CanTake j old.things store m) (d : Declared old new m numbered) where
  over_old : (rule : GroundRule) → Contains j.rules rule → IsRuleOver j.atoms rule
  over_old rule has = All-contains (IsRuleOver j.atoms) j.rules rule can.join.over.rules has

  are : AreThings joined new.things
  are = are_things j joined m is can.well_formed old new numbered d can.of.are

  -- heads and outputs
  head_is_output : (a : ℕ) → Contains m.heads a → IsOutput joined a
  head_is_output a has = record {
    within =
        let below : a < j.atoms + m.fresh = All-contains (λ b. b < j.atoms + m.fresh) m.heads a can.well_formed.heads.within has in
        let atoms : joined.atoms ≡ j.atoms + m.fresh = is.atoms in
        omega (arith, below, atoms);
    no_input = λ (k, i, within, at, same). elim ((is.inputs i).0 (k, within, at)) [
      | inl stays ↦ stays.1 (subst (Contains m.heads) (sym same) has)
      | inr becomes ↦ becomes.2 (subst (Contains m.heads) (sym same) has)
    ];
  }

  output_stays : (a : ℕ) → IsOutput j a → IsOutput joined a
  output_stays a out = record {
    within = let less : a < j.atoms = out.within in let atoms : joined.atoms ≡ j.atoms + m.fresh = is.atoms in omega (arith, less, atoms);
    no_input = λ (k, i, within, at, same). elim ((is.inputs i).0 (k, within, at)) [
      | inl stays ↦ out.no_input (any_from (λ (input : Input). input.atom ≡ a) j.inputs i stays.0 same)
      | inr becomes ↦ let less : a < j.atoms = out.within in let least : j.atoms ≤ i.atom = becomes.0 in absurd (omega (arith, less, least, same))
    ];
  }

  no_head_again : (a : ℕ) → IsOutput j a → ¬ Contains m.heads a
  no_head_again a out has = can.composable.different a (record { head = has; output = out })

  output_was : (a : ℕ) → (¬ Contains m.heads a) → IsOutput joined a → IsOutput j a
  output_was a not_head out = elim (cases_lt a j.atoms) [
    | inl less ↦ record {
      within = less;
      no_input = λ (k, i, within, at, same).
          out.no_input (any_from (λ (input : Input). input.atom ≡ a) joined.inputs i
          ((is.inputs i).1 (inl ((k, within, at), λ has. not_head (subst (Contains m.heads) same has)))) same);
    }
    | inr least ↦
        let atoms : joined.atoms ≡ j.atoms + m.fresh = is.atoms in
        let less : a < joined.atoms = out.within in
        let i : Input = record { atom = a; value = Some (declared_value m a) } in
        elim (can.well_formed.covered a least (omega (arith, less, atoms))) [
          | inl has ↦ absurd (not_head has)
          | inr external ↦ absurd (out.no_input (any_from (λ (input : Input). input.atom ≡ a) joined.inputs i ((is.inputs i).1 (inr (least, external, not_head, refl))) refl))
        ]
  ]

  -- the rules with a head
  no_new_rule : (a : ℕ) → (¬ Contains m.heads a) → filter (heads a) m.rules ≡ []
  no_new_rule a not_head =
      filter_none (heads a) m.rules (λ rule has. other_head a rule.head (λ e.
      not_head (if_some (Contains m.heads) rule.head a (All-contains (λ (r : GroundRule). IfSome r.head (Contains m.heads)) m.rules rule can.well_formed.headed has) e)))

  no_old_rule : (a : ℕ) → Contains m.heads a → filter (heads a) j.rules ≡ []
  no_old_rule a head =
      filter_none (heads a) j.rules (λ rule has. other_head a rule.head (λ e.
      no_head_again a (record {
        within = head_within j.atoms rule.kind rule.head a (over_old rule has).head e;
        no_input = if_some (λ h. ¬ IsInput j h) rule.head a (All-contains (λ (r : GroundRule). IfSome r.head (λ h. ¬ IsInput j h)) j.rules rule can.join.outputs has) e;
      }) head))

  its_rules : (a : ℕ) → filter (heads a) joined.rules ≡ filter (heads a) j.rules ++ filter (heads a) m.rules
  its_rules a = ap (filter (heads a)) is.rules ∙ filter-append (heads a) j.rules m.rules

  abbrev Falses : List GroundRule → List Signed
  Falses rules = map (λ rule. minus (body (body_of rule))) rules

  old_falses : (a : ℕ) → (¬ Contains m.heads a) → false_bodies (heads a) joined.rules ≡ false_bodies (heads a) j.rules
  old_falses a not_head = ap Falses (its_rules a ∙ (ap (λ (rs : List GroundRule). filter (heads a) j.rules ++ rs) (no_new_rule a not_head) ∙ append-nil (filter (heads a) j.rules)))

  new_falses : (a : ℕ) → Contains m.heads a → false_bodies (heads a) joined.rules ≡ false_bodies (heads a) m.rules
  new_falses a head = ap Falses (its_rules a ∙ ap (λ (rs : List GroundRule). rs ++ filter (heads a) m.rules) (no_old_rule a head))

  -- what the old join says
  old_member : (t : Thing) → IsThing j.atoms j.rules t → Contains old.things t
  old_member t of = (can.of.are.exactly t).1 of

  old_body : (rule : GroundRule) → Contains j.rules rule → Contains old.things (body (body_of rule))
  old_body rule has = old_member (body (body_of rule)) (any_from (λ r. IsThingOf r (body (body_of rule))) j.rules rule has (inl refl))

  parts_declared : (b : Body) → Contains old.things (body b) → All (λ (s : Signed). Contains old.things s.thing) (parts_of b)
  parts_declared b has =
      let (k, at) = at_some old.things (body b) has in
      let part_in : (part : Thing) → IsMadeOf (body b) part → Contains old.things part =
      λ part made. (let (i, less, found) = can.of.are.before k (body b) part at made in some_at old.things i part found) in
      All-append (λ (s : Signed). Contains old.things s.thing) (map (λ a. plus (atom a)) b.pos ++ map (λ a. minus (atom a)) b.neg) (map (λ (s : SignedAgg). record { thing = aggregate s.agg; truth = not s.negated }) b.aggs)
      (All-append (λ (s : Signed). Contains old.things s.thing) (map (λ a. plus (atom a)) b.pos) (map (λ a. minus (atom a)) b.neg)
      (part_atoms old.things true b.pos (λ a among. part_in (atom a) (inl among)))
      (part_atoms old.things false b.neg (λ a among. part_in (atom a) (inr among))))
      (All-map (λ (s : Signed). Contains old.things s.thing) (λ (s : SignedAgg). record { thing = aggregate s.agg; truth = not s.negated }) b.aggs
      (all_from (λ (s : SignedAgg). Contains old.things (aggregate s.agg)) b.aggs (λ s among. part_in (aggregate s.agg) (any_from (λ (o : SignedAgg). o.agg ≡ s.agg) b.aggs s among refl))))

  no_old_tuple : (t : Tuple) → ¬ IsThing j.atoms j.rules (tuple t)
  no_old_tuple t some =
      no_element j.atoms some.1 (over_old some.1 (member_of (λ rule. IsThingOf rule (tuple t)) j.rules some)) (λ g e. tuple_of g.elements e ≡ t) some.4

  signs_declared : (says : Completion) → IsOf (IsThing j.atoms j.rules) (IsOutput j) j.rules says → All (λ (s : Signed). Contains old.things s.thing) (signs_of j.rules says)
  signs_declared (whole_body b) of =
      let has = old_member (body b) of in
      All-cons (λ (s : Signed). Contains old.things s.thing) (minus (body b)) (parts_of b) has (parts_declared b has)
  signs_declared (part_of_body b part) of =
      let has = old_member (body b) of.0 in
      All-cons (λ (s : Signed). Contains old.things s.thing) (plus (body b)) (turned part ∷ []) has
      (All-cons (λ (s : Signed). Contains old.things s.thing) (turned part) [] (All-contains (λ (s : Signed). Contains old.things s.thing) (parts_of b) part (parts_declared b has) of.1)
      (All-nil (λ (s : Signed). Contains old.things s.thing)))
  signs_declared (no_condition t) of = absurd (no_old_tuple t of)
  signs_declared (condition_of_tuple t c) of = absurd (no_old_tuple t of.0)
  signs_declared (unsupported a) of =
      All-cons (λ (s : Signed). Contains old.things s.thing) (plus (atom a)) (false_bodies (heads a) j.rules) (old_member (atom a) of.within)
      (All-map (λ (s : Signed). Contains old.things s.thing) (λ rule. minus (body (body_of rule))) (filter (heads a) j.rules)
      (all_from (λ (rule : GroundRule). Contains old.things (body (body_of rule))) (filter (heads a) j.rules) (λ rule has. old_body rule (Contains-filtered (heads a) j.rules rule has))))
  signs_declared (no_head rule h) of =
      All-cons (λ (s : Signed). Contains old.things s.thing) (plus (body (body_of rule))) (minus (atom h) ∷ []) (old_body rule of.0)
      (All-cons (λ (s : Signed). Contains old.things s.thing) (minus (atom h)) [] (old_member (atom h) (head_within j.atoms rule.kind rule.head h (over_old rule of.0).head of.2))
      (All-nil (λ (s : Signed). Contains old.things s.thing)))
  signs_declared (broken rule) of =
      All-cons (λ (s : Signed). Contains old.things s.thing) (plus (body (body_of rule))) [] (old_body rule of.0) (All-nil (λ (s : Signed). Contains old.things s.thing))

  was : (says : Completion) (n : Nogood) → IsOf (IsThing j.atoms j.rules) (IsOutput j) j.rules says → signs_of joined.rules says ≡ signs_of j.rules says → IsNogoodOf new.things (signs_of joined.rules says) n → IsCompletionNogood j old.things n
  was says n of same nogood = record {
    says = says;
    of_join = of;
    is = nogood_was old.things d.declares.more new.things d.declares.things d.are.once (signs_of j.rules says) (signs_declared says of) n
        (subst (λ (signs : List Signed). IsNogoodOf new.things signs n) same nogood);
  }

  stays_said : (says : Completion) (n : Nogood) → IsOf (IsThing joined.atoms joined.rules) (IsOutput joined) joined.rules says → signs_of joined.rules says ≡ signs_of j.rules says → IsNogoodOf old.things (signs_of j.rules says) n → IsCompletionNogood joined new.things n
  stays_said says n of same nogood = record {
    says = says;
    of_join = of;
    is = subst (λ (signs : List Signed). IsNogoodOf new.things signs n) (sym same)
        (nogood_stays old.things d.declares.more new.things d.declares.things d.are.once (signs_of j.rules says) n nogood);
  }

  -- A nogood of the old join is one of the new join.
  old_said : (says : Completion) (n : Nogood) → IsOf (IsThing j.atoms j.rules) (IsOutput j) j.rules says → IsNogoodOf old.things (signs_of j.rules says) n → IsCompletionNogood joined new.things n
  old_said (whole_body b) n of nogood = stays_said (whole_body b) n (old_any j joined m is (λ rule. IsThingOf rule (body b)) of) refl nogood
  old_said (part_of_body b part) n of nogood = stays_said (part_of_body b part) n (old_any j joined m is (λ rule. IsThingOf rule (body b)) of.0, of.1) refl nogood
  old_said (no_condition t) n of nogood = absurd (no_old_tuple t of)
  old_said (condition_of_tuple t c) n of nogood = absurd (no_old_tuple t of.0)
  old_said (unsupported a) n of nogood =
      stays_said (unsupported a) n (output_stays a of) (ap (λ (signs : List Signed). plus (atom a) ∷ signs) (old_falses a (no_head_again a of))) nogood
  old_said (no_head rule h) n of nogood = stays_said (no_head rule h) n (old_rule j joined m is rule of.0, of.1, of.2) refl nogood
  old_said (broken rule) n of nogood = stays_said (broken rule) n (old_rule j joined m is rule of.0, of.1) refl nogood

  -- A rule of the module, by its numbers.
  rule_body : (rule : GroundRule) (r : NumberedRule) → Contains m.rules rule → IsNumbered new.things rule r → slice_get new.things r.body ≡ Some (body (body_of rule))
  rule_body rule r has n = n.body_at ∙ ap (λ (b : Body). Some (body b)) (plain_is (j.atoms + m.fresh) rule (rule_over j joined m is can.well_formed rule has))

  numbered_rule : (r : NumberedRule) → Contains numbered r → (rule : GroundRule) × Contains m.rules rule × IsNumbered new.things rule r
  numbered_rule r has =
      let some = All-contains (λ (one : NumberedRule). Any (λ rule. IsNumbered new.things rule one) m.rules) numbered r d.numbered.each has in
      (some.1, member_of (λ rule. IsNumbered new.things rule r) m.rules some, some.4)

  new_rule : (rule : GroundRule) → Contains m.rules rule → Contains joined.rules rule
  new_rule rule has = let some = new_any j joined m is (λ r. r ≡ rule) (any_from (λ r. r ≡ rule) m.rules rule has refl) in
      subst (Contains joined.rules) some.4 (member_of (λ r. r ≡ rule) joined.rules some)

  head_match_signs : (rule : GroundRule) (r : NumberedRule) (h number : ℕ) → Contains m.rules rule → IsNumbered new.things rule r → IsAtomAt new.things h number
      → Match (IsFor new.things) (plus (body (body_of rule)) ∷ minus (atom h) ∷ []) (pair (holds r.body) (fails number))
  head_match_signs rule r h number has n at =
      match_two new.things (plus (body (body_of rule))) (minus (atom h)) (holds r.body) (fails number) (rule_body rule r has n, refl) (at, refl)

  body_match_signs : (rule : GroundRule) (r : NumberedRule) → Contains m.rules rule → IsNumbered new.things rule r
      → Match (IsFor new.things) (plus (body (body_of rule)) ∷ []) (holds r.body ∷ [])
  body_match_signs rule r has n = match_one new.things (plus (body (body_of rule))) (holds r.body) (rule_body rule r has n, refl)

  -- What is said of a new thing is said of the new join.
  new_said : (n : Nogood) → NewSay new.things (length old.things) n → IsCompletionNogood joined new.things n
  new_said n (number, least, says) =
      let (b, at, nogood) = thing_says new.things (slice_get new.things number) n says in
      let thing = (are.exactly (body b)).0 (some_at new.things number (body b) at) in
      elim nogood [
        | inl some ↦ record { says = part_of_body b some.1; of_join = (thing, member_of (λ part. IsNogoodOf new.things (plus (body b) ∷ turned part ∷ []) n) (parts_of b) some); is = some.4 }
        | inr whole ↦ record { says = whole_body b; of_join = thing; is = whole }
      ]

  -- What the numbers of a rule say is said of the new join.
  rule_said : (n : Nogood) (r : NumberedRule) → Contains numbered r → RuleSays r n → IsCompletionNogood joined new.things n
  rule_said n r among says =
      let (rule, has, num) = numbered_rule r among in
      elim (says_cases r.kind r.head r.body n says) [
        | inl normal ↦
            let (h, head, at) = head_of new.things rule.head r.head normal.number num.head normal.has in
            record {
              says = no_head rule h;
              of_join = (new_rule rule has, sym num.kind ∙ normal.normal, head);
              is = nogood_from new.things (plus (body (body_of rule)) ∷ minus (atom h) ∷ []) (pair (holds r.body) (fails normal.number))
                  (head_match_signs rule r h normal.number has num at) n normal.writes;
            }
        | inr constraint ↦ record {
          says = broken rule;
          of_join = (new_rule rule has, sym num.kind ∙ constraint.0);
          is = nogood_from new.things (plus (body (body_of rule)) ∷ []) (holds r.body ∷ []) (body_match_signs rule r has num) n constraint.1;
        }
      ]

  module _ (supports : List Support) (are_supports : AreSupports numbered supports) where
    same_head : (a h number : ℕ) → IsAtomAt new.things a number → IsAtomAt new.things h number → h ≡ a
    same_head a h number first second = same_atom h a (same_some (atom h) (atom a) (sym second ∙ first))

    -- The supports of a head have the bodies of its rules.
    own_rule : (a number : ℕ) (own : List Support) → IsAtomAt new.things a number → AreOwn supports number own → (s : Support) → Contains own s
        → Any (λ sign. IsFor new.things sign (fails s.body)) (false_bodies (heads a) m.rules)
    own_rule a number own at are_own s has =
        let (among, is_head) = (are_own s).0 has in
        let some = are_supports.each s among in
        let (rule, of, num) = numbered_rule some.1 (member_of (λ r. IsSupport r s) numbered some) in
        let (h, head, there) = head_of new.things rule.head some.1.head s.head num.head some.4.0 in
        let same : h ≡ a = same_head a h number at (subst (IsAtomAt new.things h) is_head there) in
        let passes = head_is a rule.head (head ∙ ap Some same) in
        any_from (λ sign. IsFor new.things sign (fails s.body)) (false_bodies (heads a) m.rules) (minus (body (body_of rule)))
        (member_map (λ r. minus (body (body_of r))) (filter (heads a) m.rules) rule (Contains-filter (heads a) m.rules rule of passes))
        (subst (λ (k : ℕ). slice_get new.things k ≡ Some (body (body_of rule))) some.4.1 (rule_body rule some.1 of num), refl)

    rule_own : (a number : ℕ) (own : List Support) → IsAtomAt new.things a number → AreOwn supports number own → (rule : GroundRule) → Contains (filter (heads a) m.rules) rule
        → Any (λ s. IsFor new.things (minus (body (body_of rule))) (fails s.body)) own
    rule_own a number own at are_own rule has =
        let of = Contains-filtered (heads a) m.rules rule has in
        let head : rule.head ≡ Some a = has_head a rule.head (All-contains (λ r. heads a r ≡ true) (filter (heads a) m.rules) rule (filter_passes (heads a) m.rules) has) in
        let (r, among, num) = body_at j joined m is can.well_formed old new numbered d can.of.are rule of in
        let (k, there, found) = number_of new.things rule.head r.head a num.head head in
        let same : k ≡ number = some_once new.things d.are.once k number (atom a) found at in
        let s : Support = record { head = number; body = r.body } in
        let support : Contains supports s = are_supports.all s (any_from (λ q. IsSupport q s) numbered r among (there ∙ ap Some same, refl)) in
        any_from (λ s. IsFor new.things (minus (body (body_of rule))) (fails s.body)) own s ((are_own s).1 (support, refl)) (rule_body rule r of num, refl)

    support_match : (a number : ℕ) (own : List Support) → IsAtomAt new.things a number → AreOwn supports number own
        → Match (IsFor new.things) (plus (atom a) ∷ false_bodies (heads a) m.rules) (head_lits number own)
    support_match a number own at are_own = record {
      each = All-cons (λ (l : Lit). Any (λ s. IsFor new.things s l) (plus (atom a) ∷ false_bodies (heads a) m.rules)) (holds number) (map (λ (s : Support). fails s.body) own)
          (any_here (λ s. IsFor new.things s (holds number)) (plus (atom a)) (false_bodies (heads a) m.rules) (at, refl))
          (All-map (λ (l : Lit). Any (λ s. IsFor new.things s l) (plus (atom a) ∷ false_bodies (heads a) m.rules)) (λ (s : Support). fails s.body) own
          (all_from (λ (s : Support). Any (λ sign. IsFor new.things sign (fails s.body)) (plus (atom a) ∷ false_bodies (heads a) m.rules)) own
          (λ s has. any_later (λ sign. IsFor new.things sign (fails s.body)) (plus (atom a)) (false_bodies (heads a) m.rules) (own_rule a number own at are_own s has))));
      all = All-cons (λ (s : Signed). Any (IsFor new.things s) (head_lits number own)) (plus (atom a)) (false_bodies (heads a) m.rules)
          (any_here (IsFor new.things (plus (atom a))) (holds number) (map (λ (s : Support). fails s.body) own) (at, refl))
          (All-map (λ (s : Signed). Any (IsFor new.things s) (head_lits number own)) (λ rule. minus (body (body_of rule))) (filter (heads a) m.rules)
          (all_from (λ (rule : GroundRule). Any (IsFor new.things (minus (body (body_of rule)))) (head_lits number own)) (filter (heads a) m.rules)
          (λ rule has.
          let some = rule_own a number own at are_own rule has in
          any_later (IsFor new.things (minus (body (body_of rule)))) (holds number) (map (λ (s : Support). fails s.body) own)
          (any_from (IsFor new.things (minus (body (body_of rule)))) (map (λ (s : Support). fails s.body) own) (fails some.1.body)
          (member_map (λ (s : Support). fails s.body) own some.1 (member_of (λ s. IsFor new.things (minus (body (body_of rule))) (fails s.body)) own some)) some.4))));
    }

    -- What the supports of a head say is said of the new join.
    head_said : (n : Nogood) (a number : ℕ) → Contains m.heads a → IsAtomAt new.things a number → HeadSays supports number n → IsCompletionNogood joined new.things n
    head_said n a number head at (own, are_own, writes) = record {
      says = unsupported a;
      of_join = head_is_output a head;
      is = subst (λ (signs : List Signed). IsNogoodOf new.things (plus (atom a) ∷ signs) n) (sym (new_falses a head))
          (nogood_from new.things (plus (atom a) ∷ false_bodies (heads a) m.rules) (head_lits number own) (support_match a number own at are_own) n writes);
    }

    own_of : ℕ → List Support
    own_of number = filter (λ (s : Support). nat_eq s.head number) supports

    are_own_of : (number : ℕ) → AreOwn supports number (own_of number)
    unfolding own_of
    are_own_of number s = (
      λ has. (
        Contains-filtered (λ (t : Support). nat_eq t.head number) supports s has,
        (Decides-eqb s.head number).0 (All-contains (λ (t : Support). nat_eq t.head number ≡ true) (filter (λ (t : Support). nat_eq t.head number) supports) s (filter_passes (λ (t : Support). nat_eq t.head number) supports) has),
      ),
      λ (among, same). Contains-filter (λ (t : Support). nat_eq t.head number) supports s among (eq-eqb s.head number same),
    )

    module _ (numbers : List ℕ) (paired : Match (IsAtomAt new.things) m.heads numbers) where
      gained_said : (n : Nogood) → NewSay new.things (length old.things) n ⊎ (Any (λ r. RuleSays r n) numbered ⊎ Any (λ number. HeadSays supports number n) numbers) → IsCompletionNogood joined new.things n
      gained_said n gained = elim gained [
        | inl says ↦ new_said n says
        | inr (inl some) ↦ rule_said n some.1 (member_of (λ r. RuleSays r n) numbered some) some.4
        | inr (inr some) ↦
            let its = All-contains (λ (k : ℕ). Any (λ a. IsAtomAt new.things a k) m.heads) numbers some.1 paired.each (member_of (λ number. HeadSays supports number n) numbers some) in
            head_said n its.1 some.1 (member_of (λ a. IsAtomAt new.things a some.1) m.heads its) its.4 some.4
      ]

      -- A body of the new join is one of the old join, or has a new number.
      body_cases : (b : Body) → IsThing joined.atoms joined.rules (body b) → IsThing j.atoms j.rules (body b) ⊎ ((number : ℕ) × (length old.things ≤ number) × (slice_get new.things number ≡ Some (body b)))
      body_cases b of =
          let (number, at) = at_some new.things (body b) ((are.exactly (body b)).1 of) in
          elim (cases_lt number (length old.things)) [
            | inl less ↦ inl ((can.of.are.exactly (body b)).0
                (some_at old.things number (body b) (front_at old.things d.declares.more new.things d.declares.things d.are.once number (body b) at less)))
            | inr least ↦ inr (number, least, at)
          ]

      new_nogood : (b : Body) (number : ℕ) (n : Nogood) → slice_get new.things number ≡ Some (body b) → BodyNogood new.things b n → ThingNogood new.things (slice_get new.things number) n
      new_nogood b number n at nogood = subst (λ (o : Option Thing). ThingNogood new.things o n) (sym at) nogood

      split_rule : (rule : GroundRule) → Contains joined.rules rule → Contains j.rules rule ⊎ Contains m.rules rule
      split_rule rule has = Contains-append_cases j.rules m.rules rule (subst (λ (rs : List GroundRule). Contains rs rule) is.rules has)

      -- A nogood of the new join is one of the old join, or is gained.
      said : (says : Completion) (n : Nogood) → IsOf (IsThing joined.atoms joined.rules) (IsOutput joined) joined.rules says → IsNogoodOf new.things (signs_of joined.rules says) n
          → IsCompletionNogood j old.things n ⊎ (NewSay new.things (length old.things) n ⊎ (Any (λ r. RuleSays r n) numbered ⊎ Any (λ number. HeadSays supports number n) numbers))
      said (whole_body b) n of nogood = elim (body_cases b of) [
        | inl before ↦ inl (was (whole_body b) n before refl nogood)
        | inr (number, least, at) ↦ inr (inl (number, least, new_nogood b number n at (inr nogood)))
      ]
      said (part_of_body b part) n of nogood = elim (body_cases b of.0) [
        | inl before ↦ inl (was (part_of_body b part) n (before, of.1) refl nogood)
        | inr (number, least, at) ↦
            inr (inl (number, least, new_nogood b number n at (inl (any_from (λ p. IsNogoodOf new.things (plus (body b) ∷ turned p ∷ []) n) (parts_of b) part of.1 nogood))))
      ]
      said (no_condition t) n of nogood = elim (rules_cases j joined m is (λ rule. IsThingOf rule (tuple t)) of) [
        | inl before ↦ absurd (no_old_tuple t before)
        | inr now ↦ absurd (no_tuple j joined m is can.well_formed t now)
      ]
      said (condition_of_tuple t c) n of nogood = elim (rules_cases j joined m is (λ rule. IsThingOf rule (tuple t)) of.0) [
        | inl before ↦ absurd (no_old_tuple t before)
        | inr now ↦ absurd (no_tuple j joined m is can.well_formed t now)
      ]
      said (unsupported a) n of nogood = elim (member_or_not m.heads a) [
        | inl head ↦
            let its = All-contains (λ (b : ℕ). Any (IsAtomAt new.things b) numbers) m.heads a paired.all head in
            let signs = subst (λ (signs : List Signed). IsNogoodOf new.things (plus (atom a) ∷ signs) n) (new_falses a head) nogood in
            let writes = writes_from new.things (plus (atom a) ∷ false_bodies (heads a) m.rules) (head_lits its.1 (own_of its.1)) (support_match a its.1 (own_of its.1) its.4 (are_own_of its.1)) d.are.once n signs in
            inr (inr (inr (any_from (λ number. HeadSays supports number n) numbers its.1 (member_of (IsAtomAt new.things a) numbers its) (own_of its.1, are_own_of its.1, writes))))
        | inr not_head ↦ inl (was (unsupported a) n (output_was a not_head of) (ap (λ (signs : List Signed). plus (atom a) ∷ signs) (old_falses a not_head)) nogood)
      ]
      said (no_head rule h) n of nogood = elim (split_rule rule of.0) [
        | inl before ↦ inl (was (no_head rule h) n (before, of.1, of.2) refl nogood)
        | inr has ↦
            let (r, among, num) = body_at j joined m is can.well_formed old new numbered d can.of.are rule has in
            let (number, there, at) = number_of new.things rule.head r.head h num.head of.2 in
            let writes = writes_from new.things (plus (body (body_of rule)) ∷ minus (atom h) ∷ []) (pair (holds r.body) (fails number)) (head_match_signs rule r h number has num at) d.are.once n nogood in
            inr (inr (inl (any_from (λ q. RuleSays q n) numbered r among (says_normal r.kind r.head r.body number n (num.kind ∙ of.1) there writes))))
      ]
      said (broken rule) n of nogood = elim (split_rule rule of.0) [
        | inl before ↦ inl (was (broken rule) n (before, of.1) refl nogood)
        | inr has ↦
            let (r, among, num) = body_at j joined m is can.well_formed old new numbered d can.of.are rule has in
            let writes = writes_from new.things (plus (body (body_of rule)) ∷ []) (holds r.body ∷ []) (body_match_signs rule r has num) d.are.once n nogood in
            inr (inr (inl (any_from (λ q. RuleSays q n) numbered r among (says_constraint r.kind r.head r.body n (num.kind ∙ of.1) writes))))
      ]

      -- The things and the nogoods of the program are those of the new join.
      pub are_of : (after : Store)
          → AddsExactly store after (λ n. NewSay new.things (length old.things) n ⊎ (Any (λ r. RuleSays r n) numbered ⊎ Any (λ number. HeadSays supports number n) numbers))
          → AreOf joined new.things after
      are_of after adds = record {
        are = are;
        completion = has_after store after (IsCompletionNogood j old.things)
            (λ n. NewSay new.things (length old.things) n ⊎ (Any (λ r. RuleSays r n) numbered ⊎ Any (λ number. HeadSays supports number n) numbers))
            (IsCompletionNogood joined new.things) can.of.completion adds
            (λ n c. said c.says n c.of_join c.is) (λ n c. old_said c.says n c.of_join c.is) gained_said;
      }
