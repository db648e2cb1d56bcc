-- The loop nogoods of a join of which an input is assigned or released.
use Rattle.std.proofs.Common.{◌≡◌, ◌∙◌, ◌⊎◌, ◌<◌, ℕ, zero, suc, Bool, true, false, List, [], ◌∷◌, Option, Some, None, map, nat_eq, refl, sym, ap, subst, inl, inr, arith}
use Rattle.std.specs.Prelude.{IfSome, IsTrue}
use Rattle.std.specs.List.{Contains, filter}
use Rattle.std.proofs.lemmas.Bool.{and_parts, cases_Bool, cases_eq, eqb-true, false_from_ne_true, false≢true}
use Rattle.std.proofs.lemmas.List.Elements.{All-contains}
use Rattle.ms_lits.specs.Literals.{Nogood}
use Rattle.ms_join.specs.declared.ground_rule.GroundRule.{GroundRule}
use Rattle.ms_join.specs.declared.ground_rule.Input.{Input}
use Rattle.ms_join.specs.Dependencies.{AreTogether, Depends, Reaches, Walk}
use Rattle.ms_join.specs.Modules.{Join, IsAssigned, IsInput, IsJoin, IsOutput, IsReleased}
use Rattle.ms_join.specs.Sets.{has_none}
use Rattle.ms_join.specs.Things.{Thing, body_of}
use Rattle.ms_join.specs.Things.Thing.{atom, body}
use Rattle.ms_things.specs.Completion.{IsCompletionNogood, false_bodies, has_head_in, unsupported}
use Rattle.ms_things.specs.Loops.{IsLoopNogood, supports_from_outside}
use Rattle.ms_things.specs.Signs.{Signed, IsNogoodOf, minus, plus}
use Rattle.ms_complete.proofs.Assigned.{completion_stays}
use Rattle.ms_complete.proofs.Carried.{filter_none}
use Rattle.ms_complete.proofs.Lists.{any_from, member_of}
use Rattle.ms_cone.proofs.Walks.{DependsBy, rule_of}
use Rattle.ms_unfound.specs.Laws.{AssignKeepsLoops, ReleaseKeepsLoops}
use Rattle.ms_unfound.specs.Parts.{Known}
use Rattle.ms_unfound.specs.Taking.{AreLoopsOf}
use Rattle.ms_unfound.proofs.LoopGrowth.{head_of, if_at}

-- a loop of outputs that another join with these rules has too
loop_stays : (j k : Join) → k.rules ≡ j.rules → (things : List Thing) (n : Nogood) (l : IsLoopNogood j things n) → ((b : ℕ) → IsTrue (l.loop b) → IsOutput k b) → IsLoopNogood k things n
loop_stays j k rules things n l outputs = record {
  loop = l.loop;
  among = record {
    outputs = outputs;
    together = λ a b first second. subst (λ (rs : List GroundRule). AreTogether rs a b) (sym rules) (l.among.together a b first second);
  };
  member = l.member;
  has = l.has;
  is = subst (λ (rs : List GroundRule). IsNogoodOf things (plus (atom l.member) ∷ false_bodies (supports_from_outside l.loop) rs) n) (sym rules) l.is;
}

-- ---- an input is assigned

module _ (j assigned : Join) (a : ℕ) (value : Option Bool) (is : IsAssigned j a value assigned) where
  output_stays : (b : ℕ) → IsOutput j b → IsOutput assigned b
  output_stays b out = record {
    within = let less : b < j.atoms = out.within in omega (arith, less, is.atoms);
    no_input = λ (k, i, within, at, same). elim ((is.inputs i).0 (k, within, at)) [
      | inl stays ↦ out.no_input (any_from (λ (i : Input). i.atom ≡ b) j.inputs i stays.0 same)
      | inr given ↦ out.no_input (subst (IsInput j) (sym (ap (λ (i : Input). i.atom) given.1) ∙ same) given.0)
    ];
  }

  output_was : (b : ℕ) → IsOutput assigned b → IsOutput j b
  output_was b out = record {
    within = let less : b < assigned.atoms = out.within in omega (arith, less, is.atoms);
    no_input = λ (k, i, within, at, same). elim (cases_eq i.atom a) [
      | inl it ↦
          let given : Input = record { atom = a; value = value } in
          let input : IsInput j a = any_from (λ (i : Input). i.atom ≡ a) j.inputs i (k, within, at) it in
          out.no_input (any_from (λ (i : Input). i.atom ≡ b) assigned.inputs given ((is.inputs given).1 (inr (input, refl))) (sym it ∙ same))
      | inr differ ↦ out.no_input (any_from (λ (i : Input). i.atom ≡ b) assigned.inputs i ((is.inputs i).1 (inl ((k, within, at), differ))) same)
    ];
  }

pub assign_keeps_loops : AssignKeepsLoops
assign_keeps_loops j assigned a value things known is loops = record {
  vars = loops.vars;
  each = λ n given. let l = loops.each n given in loop_stays j assigned is.rules things n l (λ b inside. output_stays j assigned a value is b (l.among.outputs b inside));
  all = λ n l. elim (loops.all n (loop_stays assigned j (sym is.rules) things n l (λ b inside. output_was j assigned a value is b (l.among.outputs b inside)))) [
    | inl given ↦ inl given
    | inr completion ↦ inr (completion_stays j assigned is.atoms is.rules (output_stays j assigned a value is) things n completion)
  ];
}

-- ---- an input is released

module _ (j released : Join) (a : ℕ) (join : IsJoin j) (input : IsInput j a) (is : IsReleased j a released) where
  stays_output : (b : ℕ) → IsOutput j b → IsOutput released b
  stays_output b out = record {
    within = let less : b < j.atoms = out.within in omega (arith, less, is.atoms);
    no_input = λ (k, i, within, at, same). out.no_input (any_from (λ (i : Input). i.atom ≡ b) j.inputs i ((is.inputs i).0 (k, within, at)).0 same);
  }

  was_output : (b : ℕ) → (b ≡ a → ⊥) → IsOutput released b → IsOutput j b
  was_output b differ out = record {
    within = let less : b < released.atoms = out.within in omega (arith, less, is.atoms);
    no_input = λ (k, i, within, at, same). out.no_input (any_from (λ (i : Input). i.atom ≡ b) released.inputs i ((is.inputs i).1 ((k, within, at), λ e. differ (sym same ∙ e))) same);
  }

  -- no rule has the atom as its head, so it is together with itself alone
  no_head : (rule : GroundRule) → Contains j.rules rule → rule.head ≡ Some a → ⊥
  no_head rule among at = if_at (λ h. ¬ IsInput j h) rule.head a at (All-contains (λ (r : GroundRule). IfSome r.head (λ h. ¬ IsInput j h)) j.rules rule join.outputs among) input

  no_edge : (b : ℕ) → Depends j.rules a b → ⊥
  no_edge b depends = let r = rule_of j.rules a b depends in no_head r.1 (member_of (DependsBy a b) j.rules r) r.4.0

  no_step : (steps b : ℕ) → Walk j.rules steps a b → a ≡ b
  unfolding Walk
  no_step zero b walk = walk
  no_step (suc steps) b walk = absurd (no_edge b (subst (λ (x : ℕ). Depends j.rules x b) (sym (no_step steps walk.0 walk.1)) walk.2))

  alone : (b : ℕ) → Reaches j.rules a b → a ≡ b
  alone b reaches = no_step reaches.steps b reaches.walk

  no_bodies : (test : GroundRule → Bool) → ((rule : GroundRule) → IsTrue (test rule) → rule.head ≡ Some a) → false_bodies test j.rules ≡ []
  no_bodies test heads = ap (map (λ (rule : GroundRule). minus (body (body_of rule)))) (filter_none test j.rules (λ rule among. false_from_ne_true (test rule) (λ holds. no_head rule among (heads rule holds))))

  module _ (things : List Thing) (n : Nogood) (l : IsLoopNogood released things n) (inside : IsTrue (l.loop a)) where
    only : (b : ℕ) → IsTrue (l.loop b) → a ≡ b
    only b other = alone b (subst (λ (rs : List GroundRule). Reaches rs a b) is.rules (l.among.together a b inside other).forth)

    -- what holds of the atom's own loop is a completion nogood
    single : IsCompletionNogood released things n
    single = record {
      says = unsupported a;
      of_join = l.among.outputs a inside;
      is =
          let by_loop : false_bodies (supports_from_outside l.loop) released.rules ≡ [] =
          ap (false_bodies (supports_from_outside l.loop)) is.rules ∙ no_bodies (supports_from_outside l.loop)
          (λ rule holds. let h = head_of l.loop rule.head (and_parts (has_head_in l.loop rule.head) (has_none l.loop rule.pos) holds).0 in h.1 ∙ ap Some (sym (only h.0 h.2))) in
          let by_head : false_bodies (λ rule. has_head_in (nat_eq a) rule.head) released.rules ≡ [] =
          ap (false_bodies (λ rule. has_head_in (nat_eq a) rule.head)) is.rules ∙ no_bodies (λ rule. has_head_in (nat_eq a) rule.head)
          (λ rule holds. let h = head_of (nat_eq a) rule.head holds in h.1 ∙ ap Some (sym (eqb-true a h.0 h.2))) in
          subst (λ (bodies : List Signed). IsNogoodOf things (plus (atom a) ∷ bodies) n) (by_loop ∙ sym by_head)
          (subst (λ (b : ℕ). IsNogoodOf things (plus (atom b) ∷ false_bodies (supports_from_outside l.loop) released.rules) n) (sym (only l.member l.has)) l.is);
    }

pub release_keeps_loops : ReleaseKeepsLoops
release_keeps_loops j released a things known join input is loops = record {
  vars = loops.vars;
  each = λ n given. let l = loops.each n given in loop_stays j released is.rules things n l (λ b inside. stays_output j released a join input is b (l.among.outputs b inside));
  all = λ n l. elim (cases_Bool (l.loop a)) [
    | inl inside ↦ inr (single j released a join input is things n l inside)
    | inr apart ↦ elim (loops.all n (loop_stays released j (sym is.rules) things n l (λ b inside. was_output j released a join input is b (λ same. false≢true (sym apart ∙ subst (λ (x : ℕ). IsTrue (l.loop x)) same inside)) (l.among.outputs b inside)))) [
      | inl given ↦ inl given
      | inr completion ↦ inr (completion_stays j released is.atoms is.rules (stays_output j released a join input is) things n completion)
    ]
  ];
}
