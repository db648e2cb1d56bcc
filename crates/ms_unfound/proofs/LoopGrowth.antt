-- The loop nogoods of a join with a module are those of the join, and those that the module brings.
use Rattle.std.proofs.Common.{◌≡◌, ◌≢◌, ◌∙◌, ◌⊎◌, ◌+◌, ◌<◌, ℕ, zero, suc, Bool, false, List, [], ◌∷◌, ◌++◌, Option, Some, None, map, get_or, refl, sym, ap, subst, inl, inr, arith}
use Rattle.std.specs.Prelude.{IfSome, IsSomeAnd, IsTrue, slice_get}
use Rattle.std.specs.List.{All, AllPairs, Contains, filter}
use Rattle.std.proofs.lemmas.Bool.{and_parts, cases_eq, cases_lt, false_from_ne_true, false≢true}
use Rattle.std.proofs.lemmas.List.Elements.{All-contains, All-cons, All-filter, All-head, All-map, All-tail, Contains-get_or, filter-append}
use Rattle.std.proofs.lemmas.Option.{none-some}
use Rattle.ms_base.proofs.Lists.{Contains-behind, Contains-cases, Contains-first}
use Rattle.ms_complete.proofs.Lists.{any_from, at_left, at_some, member_of, some_once}
use Rattle.ms_lits.specs.Literals.{Nogood}
use Rattle.ms_join.specs.declared.ground_module.GroundModule.{GroundModule}
use Rattle.ms_join.specs.declared.ground_rule.GroundRule.{GroundRule}
use Rattle.ms_join.specs.declared.ground_rule.GroundKind.{GroundKind}
use Rattle.ms_join.specs.declared.ground_rule.GroundKind.TheVariants.{Normal, Choice, Constraint}
use Rattle.ms_join.specs.declared.ground_rule.Input.{Input}
use Rattle.ms_join.specs.AnswerSets.{HasHead, IsRuleOver}
use Rattle.ms_join.specs.Composability.{IsComposable}
use Rattle.ms_join.specs.Dependencies.{AreTogether, Depends, Reaches, Walk}
use Rattle.ms_join.specs.Modules.{Join, IsInput, IsJoin, IsJoined, IsOutput, IsWellFormed, added_rules, declared_value}
use Rattle.ms_join.specs.Sets.{has_none}
use Rattle.ms_join.specs.Things.{Thing, IsThingOf, body_of}
use Rattle.ms_join.specs.Things.Thing.{atom, body}
use Rattle.ms_things.specs.Completion.{false_bodies, has_head_in}
use Rattle.ms_things.specs.Loops.{IsLoopNogood, supports_from_outside}
use Rattle.ms_things.specs.Numbers.{AreThings}
use Rattle.ms_things.specs.Signs.{IsFor, IsNogoodOf, Signed, minus, plus}
use Rattle.ms_join.proofs.Walks.{reaches_more, reaches_self, reaches_through}
use Rattle.ms_cone.proofs.Walks.{DependsBy, depends_cases, depends_left, depends_right, rule_of}
use Rattle.ms_unfound.specs.Taking.{IsNewLoop}

-- ---- numbers of old things

module _ (things more : List Thing) (signs : List Signed) (nogood : Nogood) where
  pub with_more : IsNogoodOf things signs nogood → IsNogoodOf (things ++ more) signs nogood
  with_more is = record {
    rising = is.rising;
    of_set = λ k d within.
        let here = is.of_set k d within in
        any_from (λ s. IsFor (things ++ more) s (get_or nogood k d)) signs here.1 (here.0, here.2, here.3) (at_left things more (get_or nogood k d).var here.1.thing here.4.0, here.4.1);
    whole = λ k d within.
        let here = is.whole k d within in
        any_from (IsFor (things ++ more) (get_or signs k d)) nogood here.1 (here.0, here.2, here.3) (at_left things more here.1.var (get_or signs k d).thing here.4.0, here.4.1);
  }

  pub without_more : AllPairs (λ t u. t ≢ u) (things ++ more) → All (λ s. Contains things s.thing) signs → IsNogoodOf (things ++ more) signs nogood → IsNogoodOf things signs nogood
  without_more once there is =
      let at_old : (s : Signed) → Contains signs s → (number : ℕ) → slice_get (things ++ more) number ≡ Some s.thing → slice_get things number ≡ Some s.thing =
      λ s among number at.
      let place = at_some things s.thing (All-contains (λ t. Contains things t.thing) signs s there among) in
      subst (λ n. slice_get things n ≡ Some s.thing) (some_once (things ++ more) once place.0 number s.thing (at_left things more place.0 s.thing place.1) at) place.1 in
      record {
        rising = is.rising;
        of_set = λ k d within.
            let here = is.of_set k d within in
            let among : Contains signs here.1 = (here.0, here.2, here.3) in
            any_from (λ s. IsFor things s (get_or nogood k d)) signs here.1 among (at_old here.1 among (get_or nogood k d).var here.4.0, here.4.1);
        whole = λ k d within.
            let here = is.whole k d within in
            any_from (IsFor things (get_or signs k d)) nogood here.1 (here.0, here.2, here.3)
            (at_old (get_or signs k d) (Contains-get_or signs k d within) here.1.var here.4.0, here.4.1);
      }

-- ---- walks within one component

module _ (rules more : List GroundRule) where
  -- where no edge of more rules leads from an atom that is together with the first, a walk stays among the rules
  pub stays : (all : List GroundRule) → ((a b : ℕ) → Depends all a b → Depends rules a b ⊎ Depends more a b) → (a : ℕ) → ((c d : ℕ) → AreTogether all a c → Depends more c d → ⊥) → (steps b : ℕ) → Walk all steps a b → Reaches all b a → Reaches rules a b
  unfolding Walk
  stays all cases a none zero b walk back = subst (λ x. Reaches rules a x) walk (reaches_self rules a)
  stays all cases a none (suc steps) b walk back =
      let c = walk.0 in
      let on : Reaches all c a = reaches_through all c b a (reaches_more all c c b (reaches_self all c) walk.2) back in
      let before : Reaches rules a c = stays all cases a none steps c walk.1 on in
      elim (cases c b walk.2) [
        | inl here ↦ reaches_more rules a c b before here
        | inr apart ↦ absurd (none c b (record { forth = record { steps = steps; walk = walk.1 }; back = on }) apart)
      ]

walk_larger : (rules all : List GroundRule) → ((a b : ℕ) → Depends rules a b → Depends all a b) → (steps a b : ℕ) → Walk rules steps a b → Reaches all a b
unfolding Walk
walk_larger rules all each zero a b walk = subst (λ x. Reaches all a x) walk (reaches_self all a)
walk_larger rules all each (suc steps) a b walk = reaches_more all a walk.0 b (walk_larger rules all each steps a walk.0 walk.1) (each walk.0 b walk.2)

pub together_larger : (rules all : List GroundRule) → ((a b : ℕ) → Depends rules a b → Depends all a b) → (a b : ℕ) → AreTogether rules a b → AreTogether all a b
together_larger rules all each a b t = record {
  forth = walk_larger rules all each t.forth.steps a b t.forth.walk;
  back = walk_larger rules all each t.back.steps b a t.back.walk;
}

-- ---- bodies of rules

nothing_after : {X : Type 0} (xs : List X) → (xs ++ []) ≡ xs
nothing_after [] = refl
nothing_after (x ∷ xs) = ap (λ ys. x ∷ ys) (nothing_after xs)

filter_none : {X : Type 0} (test : X → Bool) (xs : List X) → All (λ x. test x ≡ false) xs → filter test xs ≡ []
filter_none test [] all = refl
filter_none test (x ∷ xs) all = rw (All-head (λ y. test y ≡ false) x xs all) (filter_none test xs (All-tail (λ y. test y ≡ false) x xs all))

module _ {X : Type 0} (test : X → Bool) (xs ys : List X) where
  front_alone : All (λ y. test y ≡ false) ys → filter test (xs ++ ys) ≡ filter test xs
  front_alone none = filter-append test xs ys ∙ ap (λ zs. filter test xs ++ zs) (filter_none test ys none) ∙ nothing_after (filter test xs)

  back_alone : All (λ x. test x ≡ false) xs → filter test (xs ++ ys) ≡ filter test ys
  back_alone none = filter-append test xs ys ∙ ap (λ zs. zs ++ filter test ys) (filter_none test xs none)

-- the head, where a test holds of it
pub head_of : (set : ℕ → Bool) (head : Option ℕ) → IsTrue (has_head_in set head) → (h : ℕ) × (head ≡ Some h) × IsTrue (set h)
head_of set None holds = absurd (false≢true holds)
head_of set (Some h) holds = (h, refl, holds)

pub if_at : (P : ℕ → Type 0) (head : Option ℕ) (h : ℕ) → head ≡ Some h → IfSome head P → P h
if_at P head h at holds = subst (λ (o : Option ℕ). IfSome o P) at holds

pub contains_or_not : (xs : List ℕ) (a : ℕ) → Contains xs a ⊎ (¬ Contains xs a)
contains_or_not [] a = inr (λ (k, within, at). absurd (omega (arith, within)))
contains_or_not (x ∷ xs) a = elim (cases_eq x a) [
  | inl same ↦ inl (subst (Contains (x ∷ xs)) same (Contains-first x xs))
  | inr differ ↦ elim (contains_or_not xs a) [
    | inl there ↦ inl (Contains-behind x xs a there)
    | inr apart ↦ inr (λ there. elim (Contains-cases x xs a there) [ inl same ↦ differ same | inr later ↦ apart later ])
  ]
]

below_head : (n : ℕ) (kind : GroundKind) (head : Option ℕ) (h : ℕ) → HasHead n kind head → head ≡ Some h → h < n
below_head n Normal head h has at = subst (λ o. IsSomeAnd o (λ b. b < n)) at has
below_head n Choice head h has at = subst (λ o. IsSomeAnd o (λ b. b < n)) at has
below_head n Constraint head h has at = absurd (none-some h (sym has ∙ at))

together_back : (rules : List GroundRule) (a b : ℕ) → AreTogether rules a b → AreTogether rules b a
together_back rules a b t = record { forth = t.back; back = t.forth }

together_on : (rules : List GroundRule) (a b c : ℕ) → AreTogether rules a b → AreTogether rules b c → AreTogether rules a c
together_on rules a b c first then = record { forth = reaches_through rules a b c first.forth then.forth; back = reaches_through rules c b a then.back first.back }

-- ---- a join with a module

module _ (old new : Join) (m : GroundModule) (is : IsJoin old) (well : IsWellFormed old.atoms m) (composable : IsComposable old m) (joined : IsJoined old m new) where
  abbrev rules : List GroundRule
  rules = old.rules ++ added_rules m

  stays_output : (a : ℕ) → IsOutput old a → IsOutput new a
  stays_output a out =
      let less = out.within in
      record {
        within = subst (λ n. a < n) (sym joined.atoms) (omega (arith, less));
        no_input = λ (k, i, within, at, same). elim ((joined.inputs i).0 (k, within, at)) [
          | inl stays ↦ out.no_input (any_from (λ (e : Input). e.atom ≡ a) old.inputs i stays.0 same)
          | inr comes ↦ let late = comes.0 in absurd (omega (arith, less, late, same))
        ];
      }

  head_is_output : (a : ℕ) → Contains m.heads a → IsOutput new a
  head_is_output a head = record {
    within = subst (λ n. a < n) (sym joined.atoms) (All-contains (λ b. b < old.atoms + m.fresh) m.heads a well.heads.within head);
    no_input = λ (k, i, within, at, same). elim ((joined.inputs i).0 (k, within, at)) [
      | inl stays ↦ stays.1 (subst (Contains m.heads) (sym same) head)
      | inr comes ↦ comes.2 (subst (Contains m.heads) (sym same) head)
    ];
  }

  output_cases : (a : ℕ) → IsOutput new a → IsOutput old a ⊎ Contains m.heads a
  output_cases a out = elim (contains_or_not m.heads a) [
    | inl head ↦ inr head
    | inr apart ↦ elim (cases_lt a old.atoms) [
      | inl less ↦ inl (record {
        within = less;
        no_input = λ (k, i, within, at, same).
            let there : Contains new.inputs i = (joined.inputs i).1 (inl ((k, within, at), λ head. apart (subst (Contains m.heads) same head))) in
            out.no_input (any_from (λ (e : Input). e.atom ≡ a) new.inputs i there same);
      })
      | inr late ↦ elim (well.covered a late (subst (λ n. a < n) joined.atoms out.within)) [
        | inl head ↦ inr head
        | inr external ↦
            let i : Input = record { atom = a; value = Some (declared_value m a) } in
            let there : Contains new.inputs i = (joined.inputs i).1 (inr (late, external, apart, refl)) in
            absurd (out.no_input (any_from (λ (e : Input). e.atom ≡ a) new.inputs i there refl))
      ]
    ]
  ]

  -- heads of rules
  head_below_in : {rule : GroundRule} → IsRuleOver old.atoms rule → (h : ℕ) → rule.head ≡ Some h → h < old.atoms
  head_below_in {rule} over h at = below_head old.atoms rule.kind rule.head h over.head at

  rule_output : (rule : GroundRule) (h : ℕ) → Contains old.rules rule → rule.head ≡ Some h → IsOutput old h
  rule_output rule h among at = record {
    within = head_below_in (All-contains (IsRuleOver old.atoms) old.rules rule is.over.rules among) h at;
    no_input = if_at (λ b. ¬ IsInput old b) rule.head h at (All-contains (λ (r : GroundRule). IfSome r.head (λ b. ¬ IsInput old b)) old.rules rule is.outputs among);
  }

  rule_head : (rule : GroundRule) (h : ℕ) → Contains (added_rules m) rule → rule.head ≡ Some h → Contains m.heads h
  rule_head rule h among at = if_at (Contains m.heads) rule.head h at (All-contains (λ (r : GroundRule). IfSome r.head (Contains m.heads)) m.rules rule well.headed among)

  from_old : (a b : ℕ) → Depends old.rules a b → IsOutput old a
  from_old a b depends = let r = rule_of old.rules a b depends in rule_output r.1 a (member_of (DependsBy a b) old.rules r) r.4.0

  from_new : (a b : ℕ) → Depends (added_rules m) a b → Contains m.heads a
  from_new a b depends = let r = rule_of (added_rules m) a b depends in rule_head r.1 a (member_of (DependsBy a b) (added_rules m) r) r.4.0

  -- no head is together with an old output
  apart : (a b : ℕ) → Contains m.heads a → IsOutput old b → AreTogether rules a b → ⊥
  apart a b head out together = composable.no_loop a (record { head = head; loops = (b, record { output = out; together = together }) })

  new_together : (a b : ℕ) → Contains m.heads a → AreTogether rules a b → AreTogether (added_rules m) a b
  new_together a b head t =
      let cases : (c d : ℕ) → Depends rules c d → Depends (added_rules m) c d ⊎ Depends old.rules c d =
      λ c d depends. elim (depends_cases old.rules (added_rules m) c d depends) [ inl first ↦ inr first | inr second ↦ inl second ] in
      record {
        forth = stays (added_rules m) old.rules rules cases a (λ c d with depends. apart a c head (from_old c d depends) with) t.forth.steps b t.forth.walk t.back;
        back = stays (added_rules m) old.rules rules cases b (λ c d with depends. apart a c head (from_old c d depends) (together_on rules a b c t with)) t.back.steps a t.back.walk t.forth;
      }

  old_together : (a b : ℕ) → IsOutput old a → AreTogether rules a b → AreTogether old.rules a b
  old_together a b out t = record {
    forth = stays old.rules (added_rules m) rules (depends_cases old.rules (added_rules m)) a (λ c d with depends. apart c a (from_new c d depends) out (together_back rules a c with)) t.forth.steps b t.forth.walk t.back;
    back = stays old.rules (added_rules m) rules (depends_cases old.rules (added_rules m)) b
        (λ c d with depends. apart c a (from_new c d depends) out (together_back rules a c (together_on rules a b c t with))) t.back.steps a t.back.walk t.forth;
  }

  -- the bodies that support a loop
  old_bodies : (loop : ℕ → Bool) → ((a : ℕ) → IsTrue (loop a) → IsOutput old a) → false_bodies (supports_from_outside loop) new.rules ≡ false_bodies (supports_from_outside loop) old.rules
  old_bodies loop outputs = ap (false_bodies (supports_from_outside loop)) joined.rules ∙ ap (map (λ rule. minus (body (body_of rule)))) (front_alone (supports_from_outside loop) old.rules (added_rules m)
      (λ k d within. let rule : GroundRule = get_or (added_rules m) k d in
      false_from_ne_true (supports_from_outside loop rule) (λ holds.
      let head = head_of loop rule.head (and_parts (has_head_in loop rule.head) (has_none loop rule.pos) holds).0 in
      composable.different head.0 (record { head = rule_head rule head.0 (Contains-get_or (added_rules m) k d within) head.1; output = outputs head.0 head.2 }))))

  new_bodies : (loop : ℕ → Bool) → ((a : ℕ) → IsTrue (loop a) → Contains m.heads a) → false_bodies (supports_from_outside loop) new.rules ≡ false_bodies (supports_from_outside loop) (added_rules m)
  new_bodies loop heads = ap (false_bodies (supports_from_outside loop)) joined.rules ∙ ap (map (λ rule. minus (body (body_of rule)))) (back_alone (supports_from_outside loop) old.rules (added_rules m)
      (λ k d within. let rule : GroundRule = get_or old.rules k d in
      false_from_ne_true (supports_from_outside loop rule) (λ holds.
      let head = head_of loop rule.head (and_parts (has_head_in loop rule.head) (has_none loop rule.pos) holds).0 in
      composable.different head.0 (record { head = heads head.0 head.2; output = rule_output rule head.0 (Contains-get_or old.rules k d within) head.1 }))))

  module _ (things more : List Thing) (are : AreThings old things) (now : AreThings new (things ++ more)) (nogood : Nogood) where
    pub loops_of_old : IsLoopNogood old things nogood → IsLoopNogood new (things ++ more) nogood
    loops_of_old l = record {
      loop = l.loop;
      among = record {
        outputs = λ a inside. stays_output a (l.among.outputs a inside);
        together = λ a b first second. subst (λ (rs : List GroundRule). AreTogether rs a b) (sym joined.rules)
            (together_larger old.rules rules (depends_left old.rules (added_rules m)) a b (l.among.together a b first second));
      };
      member = l.member;
      has = l.has;
      is = subst (λ (bodies : List Signed). IsNogoodOf (things ++ more) (plus (atom l.member) ∷ bodies) nogood) (sym (old_bodies l.loop l.among.outputs))
          (with_more things more (plus (atom l.member) ∷ false_bodies (supports_from_outside l.loop) old.rules) nogood l.is);
    }

    pub loops_of_new : IsNewLoop m (things ++ more) nogood → IsLoopNogood new (things ++ more) nogood
    loops_of_new l = record {
      loop = l.loop;
      among = record {
        outputs = λ a inside. head_is_output a (l.heads a inside);
        together = λ a b first second. subst (λ (rs : List GroundRule). AreTogether rs a b) (sym joined.rules)
            (together_larger (added_rules m) rules (depends_right old.rules (added_rules m)) a b (l.together a b first second));
      };
      member = l.member;
      has = l.has;
      is = subst (λ (bodies : List Signed). IsNogoodOf (things ++ more) (plus (atom l.member) ∷ bodies) nogood) (sym (new_bodies l.loop l.heads)) l.is;
    }

    old_signs : (loop : ℕ → Bool) (a : ℕ) → a < old.atoms → All (λ s. Contains things s.thing) (plus (atom a) ∷ false_bodies (supports_from_outside loop) old.rules)
    old_signs loop a within = All-cons (λ s. Contains things s.thing) (plus (atom a)) (false_bodies (supports_from_outside loop) old.rules) ((are.exactly (atom a)).1 within)
        (All-map (λ s. Contains things s.thing) (λ rule. minus (body (body_of rule))) (filter (supports_from_outside loop) old.rules)
        (All-filter (supports_from_outside loop) (λ rule. Contains things (body (body_of rule))) old.rules
        (λ k d inside. (are.exactly (body (body_of (get_or old.rules k d)))).1 (any_from (λ r. IsThingOf r (body (body_of (get_or old.rules k d)))) old.rules (get_or old.rules k d) (Contains-get_or old.rules k d inside) (inl refl)))))

    pub divided : IsLoopNogood new (things ++ more) nogood → IsLoopNogood old things nogood ⊎ IsNewLoop m (things ++ more) nogood
    divided l =
        let together : (a b : ℕ) → IsTrue (l.loop a) → IsTrue (l.loop b) → AreTogether rules a b =
        λ a b first second. subst (λ (rs : List GroundRule). AreTogether rs a b) joined.rules (l.among.together a b first second) in
        elim (output_cases l.member (l.among.outputs l.member l.has)) [
          | inl out ↦
              let outputs : (a : ℕ) → IsTrue (l.loop a) → IsOutput old a =
              λ a inside. elim (output_cases a (l.among.outputs a inside)) [ inl old_one ↦ old_one | inr head ↦ absurd (apart a l.member head out (together a l.member inside l.has)) ] in
              inl (record {
                loop = l.loop;
                among = record { outputs = outputs; together = λ a b first second. old_together a b (outputs a first) (together a b first second) };
                member = l.member;
                has = l.has;
                is = without_more things more (plus (atom l.member) ∷ false_bodies (supports_from_outside l.loop) old.rules) nogood now.once (old_signs l.loop l.member out.within)
                    (subst (λ (bodies : List Signed). IsNogoodOf (things ++ more) (plus (atom l.member) ∷ bodies) nogood) (old_bodies l.loop outputs) l.is);
              })
          | inr head ↦
              let heads : (a : ℕ) → IsTrue (l.loop a) → Contains m.heads a =
              λ a inside. elim (output_cases a (l.among.outputs a inside)) [ inl out ↦ absurd (apart l.member a head out (together l.member a l.has inside)) | inr head_one ↦ head_one ] in
              inr (record {
                loop = l.loop;
                heads = heads;
                together = λ a b first second. new_together a b (heads a first) (together a b first second);
                member = l.member;
                has = l.has;
                is = subst (λ (bodies : List Signed). IsNogoodOf (things ++ more) (plus (atom l.member) ∷ bodies) nogood) (new_bodies l.loop heads) l.is;
              })
        ]
