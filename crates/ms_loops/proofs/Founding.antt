-- A founded model is possible. Of the atoms of a component that are in the set, but not in some model of its reduct, the
-- rule that supports one from outside has positive atoms of lower components and of that model alone.
use Rattle.std.proofs.Common.{◌≡◌, ◌∙◌, ℕ, zero, suc, ◌<◌, Bool, true, false, not, ◌&&◌, Option, Some, None, get_or, refl, sym, subst, inl, inr, arith}
use Rattle.std.specs.Prelude.{IfSome, IsTrue}
use Rattle.std.specs.List.{All, Contains}
use Rattle.std.proofs.lemmas.Bool.{and_from, and_parts, cases_Bool, false_from_ne_true, false≢true, not_from_false, not_from_true, true_from_ne_false}
use Rattle.std.proofs.lemmas.List.Elements.{Contains-get_or}
use Rattle.std.proofs.lemmas.List.Sums.{AllPass-from_list_all, list_all-from_AllPass}
use Rattle.ms_join.specs.declared.ground_rule.GroundKind.{GroundKind}
use Rattle.ms_join.specs.declared.ground_rule.GroundKind.TheVariants.{Normal, Choice, Constraint}
use Rattle.ms_join.specs.declared.ground_rule.GroundRule.{GroundRule}
use Rattle.ms_join.specs.AnswerSets.{HasHead, IsRuleOver, Keeps, has_all, has_none, side_holds}
use Rattle.ms_join.specs.Dependencies.{Reaches}
use Rattle.ms_join.specs.Modules.{Join, IsInput, IsJoin}
use Rattle.ms_join.specs.Possible.{IsPossible}
use Rattle.ms_join.specs.Things.{body_holds, body_of}
use Rattle.ms_possible.proofs.FreeSets.{possible_from_free}
use Rattle.ms_things.specs.Completion.{has_head_in}
use Rattle.ms_things.specs.Loops.{IsWithinComponent, supports_from_outside}
use Rattle.ms_loops.specs.Founded.{IsFoundedModel, IsOverBase, IsUnfounded}
use Rattle.ms_loops.proofs.Choosing.{Table, assume_table}
use Rattle.ms_loops.proofs.Counting.{count, strictly_fewer}
use Rattle.ms_join.proofs.Walks.{reaches_more, reaches_self, reaches_through}

was_false : (b : Bool) → IsTrue (not b) → b ≡ false
was_false true holds = absurd (false≢true holds)
was_false false holds = refl

-- the head, where a test holds of it
pub head_of : (set : ℕ → Bool) (head : Option ℕ) → IsTrue (has_head_in set head) → (h : ℕ) × (head ≡ Some h) × IsTrue (set h)
head_of set None holds = absurd (false≢true holds)
head_of set (Some h) holds = (h, refl, holds)

pub if_at : (P : ℕ → Type 0) (head : Option ℕ) (h : ℕ) → head ≡ Some h → IfSome head P → P h
if_at P head h at holds = subst (λ (o : Option ℕ). IfSome o P) at holds

-- a rule with a head that holds in the set is asked for its head
gives : (set other : ℕ → Bool) (n : ℕ) (kind : GroundKind) (rule : GroundRule) (h : ℕ) → HasHead n kind rule.head → Keeps set other kind rule → rule.head ≡ Some h
    → IsTrue (set h) → IsTrue (side_holds set rule) → IsTrue (has_all other rule.pos) → IsTrue (other h)
gives set other n Normal rule h has keeps at here side all = if_at (λ a. IsTrue (other a)) rule.head h at (keeps side all)
gives set other n Choice rule h has keeps at here side all =
    if_at (λ a. IsTrue (set a) → IsTrue (side_holds set rule) → IsTrue (has_all other rule.pos) → IsTrue (other a)) rule.head h at keeps here side all
gives set other n Constraint rule h has keeps at here side all = cc

module _ (j : Join) (set other : ℕ → Bool) (t : Table j.atoms (Reaches j.rules)) where
  -- the atoms of the component of a that are in the set and not in the other
  abbrev left_out : ℕ → ℕ → Bool
  left_out a b = set b && (not (other b) && (t.test a b && t.test b a))

  record IsLeftOut (a b : ℕ) : Type 0 where
    here : IsTrue (set b)
    lacks : other b ≡ false
    forth : Reaches j.rules a b
    back : Reaches j.rules b a

  from_left_out : IsOverBase j set → (a b : ℕ) → a < j.atoms → IsTrue (left_out a b) → IsLeftOut a b
  from_left_out over a b within holds =
      let in_set = and_parts (set b) (not (other b) && (t.test a b && t.test b a)) holds in
      let not_there = and_parts (not (other b)) (t.test a b && t.test b a) in_set.1 in
      let both = and_parts (t.test a b) (t.test b a) not_there.1 in
      let below : b < j.atoms = over b in_set.0 in
      record {
        here = in_set.0;
        lacks = was_false (other b) not_there.0;
        forth = (t.decides a b within below).0 both.0;
        back = (t.decides b a below within).0 both.1;
      }

  to_left_out : (a b : ℕ) → IsTrue (set b) → other b ≡ false → IsTrue (t.test a b) → IsTrue (t.test b a) → IsTrue (left_out a b)
  to_left_out a b here lacks forth back =
      and_from (set b) (not (other b) && (t.test a b && t.test b a)) here
      (and_from (not (other b)) (t.test a b && t.test b a) (not_from_false (other b) lacks) (and_from (t.test a b) (t.test b a) forth back))

  -- what is reached from an atom below is reached from it
  lower : (a b : ℕ) → a < j.atoms → b < j.atoms → Reaches j.rules a b → t.test b a ≡ false → count (t.test b) j.atoms < count (t.test a) j.atoms
  lower a b within below forth back =
      strictly_fewer (t.test b) (t.test a) j.atoms a
      (λ k less from_b. (t.decides a k within less).1 (reaches_through j.rules a b k forth ((t.decides b k below less).0 from_b)))
      within back ((t.decides a a within within).1 (reaches_self j.rules a))

  module _ (is_join : IsJoin j) (over : IsOverBase j set) (keeps : All (λ rule. Keeps set other rule.kind rule) j.rules)
      (facts : (a : ℕ) → IsInput j a → IsTrue (set a) → IsTrue (other a)) (founded : (loop : ℕ → Bool) → ¬ IsUnfounded j set loop) where
    component : (a : ℕ) → a < j.atoms → IsWithinComponent j (left_out a)
    component a within = record {
      outputs = λ b holds.
          let is = from_left_out over a b within holds in
          record { within = over b is.here; no_input = λ input. false≢true (sym is.lacks ∙ facts b input is.here) };
      together = λ b c first then.
          let is = from_left_out over a b within first in
          let and = from_left_out over a c within then in
          record { forth = reaches_through j.rules b a c is.back and.forth; back = reaches_through j.rules c a b and.back is.forth };
    }

    -- no rule whose body holds supports the component from outside, where the atoms of lower ones are in the other set
    unsupported : (a : ℕ) → a < j.atoms → ((b : ℕ) → b < j.atoms → Reaches j.rules a b → t.test b a ≡ false → IsTrue (set b) → IsTrue (other b))
        → (rule : GroundRule) → Contains j.rules rule → IsRuleOver j.atoms rule → Keeps set other rule.kind rule
        → IsTrue (supports_from_outside (left_out a) rule) → body_holds set (body_of rule) ≡ false
    unsupported a within lower_there rule among is keep outside = false_from_ne_true (body_holds set (body_of rule)) (λ body.
        let parts = and_parts (has_head_in (left_out a) rule.head) (has_none (left_out a) rule.pos) outside in
        let halves = and_parts (has_all set rule.pos) (side_holds set rule) body in
        let head = head_of (left_out a) rule.head parts.0 in
        let of = from_left_out over a head.0 within head.2 in
        let all : All (λ p. IsTrue (other p)) rule.pos = λ k d inside.
        let p : ℕ = get_or rule.pos k d in
        let here : IsTrue (set p) = AllPass-from_list_all set rule.pos halves.0 k d inside in
        let aside : IsTrue (not (left_out a p)) = AllPass-from_list_all (λ b. not (left_out a b)) rule.pos parts.1 k d inside in
        let reach : Reaches j.rules a p =
        reaches_more j.rules a head.0 p of.forth (inl (among.0, rule, among.1, among.2, (head.1, Contains-get_or rule.pos k d inside))) in
        let below : p < j.atoms = over p here in
        true_from_ne_false (other p) (λ lacks. elim (cases_Bool (t.test p a)) [
          | inl back ↦ false≢true (sym (not_from_true (left_out a p) (to_left_out a p here lacks ((t.decides a p within below).1 reach) back)) ∙ aside)
          | inr apart ↦ false≢true (sym lacks ∙ lower_there p below reach apart here)
        ]) in
        false≢true (sym of.lacks ∙ gives set other j.atoms rule.kind rule head.0 is.head keep head.1 of.here halves.1 (list_all-from_AllPass other rule.pos all)))

    reached : (m a : ℕ) → a < j.atoms → count (t.test a) j.atoms < m → IsTrue (set a) → IsTrue (other a)
    reached zero a within few here = absurd (omega (arith, few))
    reached (suc m) a within few here = true_from_ne_false (other a) (λ lacks.
        let lower_there : (b : ℕ) → b < j.atoms → Reaches j.rules a b → t.test b a ≡ false → IsTrue (set b) → IsTrue (other b) = λ b below forth back there.
        let less = lower a b within below forth back in
        reached m b below (omega (arith, less, few)) there in
        let self : IsTrue (t.test a a) = (t.decides a a within within).1 (reaches_self j.rules a) in
        founded (left_out a) (record {
          among = component a within;
          member = a;
          has = to_left_out a a here lacks self self;
          true_there = here;
          unsupported = λ k d inside. unsupported a within lower_there (get_or j.rules k d) (Contains-get_or j.rules k d inside) (is_join.over.rules k d inside) (keeps k d inside);
        }))

pub possible_from_founded : (j : Join) (set : ℕ → Bool) → IsJoin j → IsOverBase j set → IsFoundedModel j set → IsPossible j set
possible_from_founded j set is over founded = possible_from_free j set (record {
  model = founded.rules;
  least = λ other keeps facts a here. true_from_ne_false (other a) (λ lacks.
      assume_table j.atoms (Reaches j.rules) (λ t.
      false≢true (sym lacks ∙ reached j set other t is over keeps facts founded.founded (suc (count (t.test a) j.atoms)) a (over a here) (omega arith) here)));
  allowed = founded.constraints;
})
