-- Joins stay joins.
use Rattle.std.proofs.Common.{◌≡◌, ℕ, ◌+◌, ◌^◌, ◌<◌, ◌≤◌, inl, inr, Bool, Option, Some, None, IfSome, List, [], ◌++◌, get_or, sym, ap, ◌∙◌, subst, arith, Contains}
use Rattle.std.specs.Bool.{⊤}
use Rattle.std.specs.List.{All}
use Rattle.std.proofs.lemmas.Bool.{cases_lt}
use Rattle.std.proofs.lemmas.List.{append-nil}
use Rattle.std.proofs.lemmas.List.Elements.{All-append, All-weaker}
use Rattle.ms_join.specs.declared.ground_rule.GroundRule.{GroundRule}
use Rattle.ms_join.specs.declared.ground_rule.GroundKind.{GroundKind}
use Rattle.ms_join.specs.declared.ground_rule.GroundKind.TheVariants.{Normal, Choice, Constraint}
use Rattle.ms_join.specs.declared.ground_rule.Input.{Input}
use Rattle.ms_join.specs.declared.ground_module.GroundModule.{GroundModule}
use Rattle.ms_base.specs.declared.truth.Effect.{Effect}
use Rattle.ms_base.specs.declared.truth.Effect.TheVariants.{Done, NoEffect}
use Rattle.ms_join.specs.AnswerSets.{HasHead, IsRuleOver}
use Rattle.ms_join.specs.Composability.{IsTooMany, most_things}
use Rattle.ms_join.specs.Things.{Body}
use Rattle.ms_join.specs.Modules.{Join, HasSets, IsInput, IsJoin, IsJoined, IsWellFormed, no_join}
use Rattle.ms_cone.specs.Dependencies.{Keeps, Linked}
use Rattle.ms_possible.proofs.Inputs.{input_from, input_of}
use Rattle.ms_module.specs.Bodies.{AreBodiesOf, AddsBodies, ArePlain}
use Rattle.ms_module.specs.Inputs.{AreInputs, Assigns, Releases, Declares, Withdraws}
use Rattle.ms_module.specs.Joins.{IsKept}
use Rattle.ms_module.proofs.BodyLaws.{AreBodiesOf-more, AreBodiesOf-none}
use Rattle.ms_module.proofs.ThingLaws.{many_atoms}

pub kept_none : (uses : Linked) → Keeps uses [] → IsKept no_join [] uses
kept_none uses keeps = record {
  join = record {
    over = record { rules = λ k d within. absurd (omega arith); inputs = λ k d within. absurd (omega arith) };
    bodies = λ k d within. absurd (omega arith);
    once = λ i j d less within. absurd (omega arith);
    outputs = λ k d within. absurd (omega arith);
  };
  bodies_are = AreBodiesOf-none;
  dependencies_are = keeps;
}

-- a join whose rules stay, and that has no new inputs
kept_still : (old new : Join) (bodies : List Body) (uses : Linked) → new.atoms ≡ old.atoms → new.rules ≡ old.rules
    → ((i : Input) → Contains new.inputs i → IsInput old i.atom) → AreInputs new → IsKept old bodies uses → IsKept new bodies uses
kept_still old new bodies uses atoms rules inputs are kept = record {
  join = record {
    over = record {
      rules = subst (λ n. All (IsRuleOver n) new.rules) (sym atoms) (subst (λ rs. All (IsRuleOver old.atoms) rs) (sym rules) kept.join.over.rules);
      inputs = are.within;
    };
    bodies = subst (λ rs. All HasSets rs) (sym rules) kept.join.bodies;
    once = are.once;
    outputs = subst (λ rs. All (λ (rule : GroundRule). IfSome rule.head (λ h. ¬ IsInput new h)) rs) (sym rules)
        (All-weaker (λ (rule : GroundRule). IfSome rule.head (λ h. ¬ IsInput old h)) (λ (rule : GroundRule). IfSome rule.head (λ h. ¬ IsInput new h))
        (λ (rule : GroundRule). IfSome-weaker rule.head (λ h. ¬ IsInput old h) (λ h. ¬ IsInput new h)
        (λ h not_old is_new. let of = input_of new h is_new in not_old (subst (IsInput old) of.atom (inputs of.input of.there)))) old.rules kept.join.outputs);
  };
  bodies_are = subst (AreBodiesOf bodies) (sym rules) kept.bodies_are;
  dependencies_are = subst (Keeps uses) (sym rules) kept.dependencies_are;
}
  where
    IfSome-weaker : (o : Option ℕ) (P Q : ℕ → Type 0) → ((h : ℕ) → P h → Q h) → IfSome o P → IfSome o Q
    IfSome-weaker None P Q f p = tt
    IfSome-weaker (Some h) P Q f p = f h p

-- after an input got a value
pub kept_assigned : (old new : Join) (bodies : List Body) (uses : Linked) (a : ℕ) (value : Option Bool) (effect : Effect) → Assigns old a value new effect → AreInputs new
    → IsKept old bodies uses → IsKept new bodies uses
kept_assigned old new bodies uses a value Done is are kept =
    kept_still old new bodies uses is.1.atoms is.1.rules
    (λ i has. elim ((is.1.inputs i).0 has) [
      | inl before ↦ input_from old i before.0
      | inr set_now ↦ subst (IsInput old) (sym (ap (λ (x : Input). x.atom) set_now.1)) set_now.0
    ]) are kept
kept_assigned old new bodies uses a value NoEffect is are kept = subst (λ j. IsKept j bodies uses) (sym is.1) kept

-- after an input became an output
pub kept_released : (old new : Join) (bodies : List Body) (uses : Linked) (a : ℕ) (effect : Effect) → Releases old a new effect → AreInputs new
    → IsKept old bodies uses → IsKept new bodies uses
kept_released old new bodies uses a Done is are kept =
    kept_still old new bodies uses is.1.atoms is.1.rules (λ i has. input_from old i ((is.1.inputs i).0 has).0) are kept
kept_released old new bodies uses a NoEffect is are kept = subst (λ j. IsKept j bodies uses) (sym is.1) kept

-- the steps of a join without its rules
pub joined_atoms : (old : Join) (m : GroundModule) (first : ℕ) (externals heads : List ℕ) (grown declared new : Join) → first ≡ old.atoms → externals ≡ m.externals → heads ≡ m.heads
    → grown ≡ record old { atoms = old.atoms + m.fresh } → Declares grown first externals declared → Withdraws declared heads new
    → IsJoined old (record m { rules = [] }) new
joined_atoms old m first externals heads grown declared new at declared_are heads_are grows some_declared some_withdrawn =
    let D : Join → Type 0 = λ g. Declares g old.atoms m.externals declared in
    let d = subst D grows (subst (λ n. Declares grown n m.externals declared) at (subst (λ xs. Declares grown first xs declared) declared_are some_declared)) in
    let withdraws = subst (λ xs. Withdraws declared xs new) heads_are some_withdrawn in
    record {
      atoms = withdraws.atoms_stay ∙ d.atoms_stay;
      rules = withdraws.rules_stay ∙ (d.rules_stay ∙ sym (append-nil old.rules));
      inputs = λ i. (
        λ has.
            let left = (withdraws.inputs i).0 has in
            elim ((d.inputs i).0 left.0) [
              | inl before ↦ inl (before, left.1)
              | inr fresh ↦ inr (fresh.0, fresh.1, left.1, fresh.2)
            ],
        λ either. elim either [
          | inl stays ↦ (withdraws.inputs i).1 ((d.inputs i).1 (inl stays.0), stays.1)
          | inr comes ↦ (withdraws.inputs i).1 ((d.inputs i).1 (inr (comes.0, comes.1, comes.3)), comes.2)
        ],
      );
    }

-- and with them
pub joined : (old : Join) (m : GroundModule) (mid new : Join) → IsJoined old (record m { rules = [] }) mid
    → new ≡ record mid { rules = mid.rules ++ m.rules } → IsJoined old m new
joined old m mid new is appends =
    let N : Join → Type 0 = λ n. IsJoined old m n in
    subst N (sym appends) (record {
      atoms = is.atoms;
      rules = ap (λ rules. rules ++ m.rules) (is.rules ∙ append-nil old.rules);
      inputs = is.inputs;
    })

-- rules over some atoms are over more
pub rule_over_more : (m n : ℕ) → m ≤ n → (rule : GroundRule) → IsRuleOver m rule → IsRuleOver n rule
rule_over_more m n le rule over = record {
  head = head_more m n le rule.kind rule.head over.head;
  pos = All-weaker (λ a. a < m) (λ a. a < n) (λ a less. omega arith) rule.pos over.pos;
  neg = All-weaker (λ a. a < m) (λ a. a < n) (λ a less. omega arith) rule.neg over.neg;
  plain = over.plain;
}
  where
    head_more : (m n : ℕ) → m ≤ n → (kind : GroundKind) (head : Option ℕ) → HasHead m kind head → HasHead n kind head
    head_more m n le Normal None over = over
    head_more m n le Normal (Some h) over = let less : h < m = over in omega arith
    head_more m n le Choice None over = over
    head_more m n le Choice (Some h) over = let less : h < m = over in omega arith
    head_more m n le Constraint head over = over

-- the head of a rule is over its atoms
pub head_below : (n : ℕ) (kind : GroundKind) (head : Option ℕ) → HasHead n kind head → IfSome head (λ h. h < n)
head_below n Normal None over = tt
head_below n Normal (Some h) over = over
head_below n Choice None over = tt
head_below n Choice (Some h) over = over
head_below n Constraint None over = tt
head_below n Constraint (Some h) over = cc

both_known : (o : Option ℕ) (P Q R : ℕ → Type 0) → ((h : ℕ) → P h → Q h → R h) → IfSome o P → IfSome o Q → IfSome o R
both_known None P Q R f p q = tt
both_known (Some h) P Q R f p q = f h p q

-- an old head, or one of the module, is no input afterwards
old_head : (old : Join) (m : GroundModule) (new : Join) → IsJoined old m new → (h : ℕ) → h < old.atoms → ¬ IsInput old h → ¬ IsInput new h
old_head old m new is h below not_old has =
    let of = input_of new h has in
    let atom : of.input.atom ≡ h = of.atom in
    elim ((is.inputs of.input).0 of.there) [
      | inl stays ↦ not_old (subst (IsInput old) of.atom (input_from old of.input stays.0))
      | inr comes ↦ (let late : old.atoms ≤ of.input.atom = comes.0 in omega arith)
    ]

new_head : (old : Join) (m : GroundModule) (new : Join) → IsJoined old m new → (h : ℕ) → Contains m.heads h → ¬ IsInput new h
new_head old m new is h head has =
    let of = input_of new h has in
    let there = subst (Contains m.heads) (sym of.atom) head in
    elim ((is.inputs of.input).0 of.there) [
      | inl stays ↦ stays.1 there
      | inr comes ↦ comes.2 there
    ]

-- the join with a module is a join
pub join_from_joined : (old : Join) (m : GroundModule) (new : Join) → IsJoin old → IsWellFormed old.atoms m → IsJoined old m new → AreInputs new → IsJoin new
join_from_joined old m new join formed is are =
    let more : old.atoms ≤ old.atoms + m.fresh = omega arith in
    record {
      over = record {
        rules = subst (λ n. All (IsRuleOver n) new.rules) (sym is.atoms) (subst (λ rs. All (IsRuleOver (old.atoms + m.fresh)) rs) (sym is.rules)
            (All-append (IsRuleOver (old.atoms + m.fresh)) old.rules m.rules
            (All-weaker (IsRuleOver old.atoms) (IsRuleOver (old.atoms + m.fresh)) (rule_over_more old.atoms (old.atoms + m.fresh) more) old.rules join.over.rules)
            formed.rules));
        inputs = are.within;
      };
      bodies = subst (λ rs. All HasSets rs) (sym is.rules) (All-append HasSets old.rules m.rules join.bodies formed.bodies);
      once = are.once;
      outputs = subst (λ rs. All (λ (rule : GroundRule). IfSome rule.head (λ h. ¬ IsInput new h)) rs) (sym is.rules)
          (All-append (λ (rule : GroundRule). IfSome rule.head (λ h. ¬ IsInput new h)) old.rules m.rules
          (λ k d within.
          let rule = get_or old.rules k d in
          both_known rule.head (λ h. h < old.atoms) (λ h. ¬ IsInput old h) (λ h. ¬ IsInput new h) (old_head old m new is)
          (head_below old.atoms rule.kind rule.head (join.over.rules k d within).head) (join.outputs k d within))
          (λ k d within.
          let rule = get_or m.rules k d in
          both_known rule.head (Contains m.heads) (λ h. ⊤) (λ h. ¬ IsInput new h) (λ h head done. new_head old m new is h head)
          (formed.headed k d within) (any_known rule.head)));
    }
  where
    any_known : (o : Option ℕ) → IfSome o (λ h. ⊤)
    any_known None = tt
    any_known (Some h) = tt

-- and what is kept is that of the join
pub kept_joined : (old : Join) (m : GroundModule) (new : Join) (bodies more : List Body) (uses later : Linked)
    → IsKept old bodies uses → IsWellFormed old.atoms m → IsJoined old m new → AreInputs new → AddsBodies bodies m.rules more
    → ((before : List GroundRule) → Keeps uses before → Keeps later (before ++ m.rules)) → IsKept new more later
kept_joined old m new bodies more uses later kept formed is are adds keeps = record {
  join = join_from_joined old m new kept.join formed is are;
  bodies_are = subst (AreBodiesOf more) (sym is.rules) (AreBodiesOf-more bodies more old.rules m.rules kept.bodies_are adds);
  dependencies_are = subst (Keeps later) (sym is.rules) (keeps old.rules kept.dependencies_are);
}

-- a join has few atoms where it has not too many things
pub few_atoms : (j : Join) (m : GroundModule) → ¬ IsTooMany j m → j.atoms + m.fresh < 2 ^ 32
few_atoms j m few = elim (cases_lt most_things (j.atoms + m.fresh)) [
  | inl many ↦ absurd (few (many_atoms (j.atoms + m.fresh) (j.rules ++ m.rules) many))
  | inr less ↦ (let room : 4000000 < 2 ^ 32 = omega arith in omega arith)
]

-- what is kept of a join that was made anew
pub kept_reset : (j : Join) (bodies : List Body) (uses : Linked) → j ≡ no_join → bodies ≡ [] → Keeps uses [] → IsKept j bodies uses
kept_reset j bodies uses empty none keeps =
    subst (λ i. IsKept i bodies uses) (sym empty) (subst (λ bs. IsKept no_join bs uses) (sym none) (kept_none uses keeps))

-- rules over a base have no aggregates
pub plain_rules : (n : ℕ) (rules : List GroundRule) → All (IsRuleOver n) rules → ArePlain rules
plain_rules n rules over k d within = (over k d within).plain
