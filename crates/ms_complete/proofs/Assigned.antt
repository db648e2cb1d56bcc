-- The completion nogoods of the join of no modules, and those of a join of which an input is assigned.
use Rattle.std.proofs.Common.{◌≡◌, ◌∙◌, ◌<◌, ℕ, Bool, List, [], Option, None, refl, sym, ap, subst, inl, inr, arith}
use Rattle.std.specs.List.{Contains}
use Rattle.std.proofs.lemmas.Bool.{cases_eq}
use Rattle.ms_lits.specs.Literals.{Nogood}
use Rattle.ms_nogood.specs.Store.{Store, slot_at}
use Rattle.ms_join.specs.declared.ground_rule.GroundRule.{GroundRule}
use Rattle.ms_join.specs.declared.ground_rule.Input.{Input}
use Rattle.ms_join.specs.Modules.{Join, IsAssigned, IsInput, IsOutput, no_join}
use Rattle.ms_join.specs.Things.{Thing, IsThing, IsThingOf}
use Rattle.ms_join.specs.Things.Thing.{atom, body, tuple, aggregate}
use Rattle.ms_things.specs.Numbers.{AreThings}
use Rattle.ms_things.specs.Signs.{IsNogoodOf}
use Rattle.ms_things.specs.Completion.{Completion, whole_body, part_of_body, no_condition, condition_of_tuple, unsupported, no_head, broken, IsOf, signs_of, IsCompletionNogood}
use Rattle.ms_complete.specs.Bases.{base_of}
use Rattle.ms_complete.specs.Completing.{AreOf}
use Rattle.ms_complete.proofs.Lists.{any_from, any_none, member_none, none_is_some, some_at}

-- A join with the same atoms and rules, and these outputs too.
module _ (j k : Join) (atoms : k.atoms ≡ j.atoms) (rules : k.rules ≡ j.rules) where
  pub there : (t : Thing) → IsThing j.atoms j.rules t → IsThing k.atoms k.rules t
  there t has = subst (λ (n : ℕ). IsThing n k.rules t) (sym atoms) (subst (λ (rs : List GroundRule). IsThing j.atoms rs t) (sym rules) has)

  of_stays : ((b : ℕ) → IsOutput j b → IsOutput k b) → (says : Completion) → IsOf (IsThing j.atoms j.rules) (IsOutput j) j.rules says → IsOf (IsThing k.atoms k.rules) (IsOutput k) k.rules says
  of_stays outputs (whole_body b) its = there (body b) its
  of_stays outputs (part_of_body b part) its = (there (body b) its.0, its.1)
  of_stays outputs (no_condition t) its = there (tuple t) its
  of_stays outputs (condition_of_tuple t c) its = (there (tuple t) its.0, its.1)
  of_stays outputs (unsupported b) its = outputs b its
  of_stays outputs (no_head rule h) its = (subst (λ (rs : List GroundRule). Contains rs rule) (sym rules) its.0, its.1, its.2)
  of_stays outputs (broken rule) its = (subst (λ (rs : List GroundRule). Contains rs rule) (sym rules) its.0, its.1)

  pub completion_stays : ((b : ℕ) → IsOutput j b → IsOutput k b) → (things : List Thing) (n : Nogood) → IsCompletionNogood j things n → IsCompletionNogood k things n
  completion_stays outputs things n c = record {
    says = c.says;
    of_join = of_stays outputs c.says c.of_join;
    is = subst (λ (rs : List GroundRule). IsNogoodOf things (signs_of rs c.says) n) (sym rules) c.is;
  }

pub same_things : (j k : Join) → k.atoms ≡ j.atoms → k.rules ≡ j.rules → (things : List Thing) → AreThings j things → AreThings k things
same_things j k atoms rules things are = record {
  exactly = λ t. (λ has. there j k atoms rules t ((are.exactly t).0 has), λ it. (are.exactly t).1 (there k j (sym atoms) (sym rules) t it));
  once = are.once;
  before = are.before;
}

module _ (j assigned : Join) (a : ℕ) (value : Option Bool) (is : IsAssigned j a value assigned) where
  output_stays : (b : ℕ) → IsOutput j b → IsOutput assigned b
  output_stays b out = record {
    within = let less : b < j.atoms = out.within in omega (arith, less, is.atoms);
    no_input = λ (k, i, within, at, same). elim ((is.inputs i).0 (k, within, at)) [
      | inl stays ↦ out.no_input (any_from (λ (i : Input). i.atom ≡ b) j.inputs i stays.0 same)
      | inr given ↦ out.no_input (subst (IsInput j) (sym (ap (λ (i : Input). i.atom) given.1) ∙ same) given.0)
    ];
  }

  output_was : (b : ℕ) → IsOutput assigned b → IsOutput j b
  output_was b out = record {
    within = let less : b < assigned.atoms = out.within in omega (arith, less, is.atoms);
    no_input = λ (k, i, within, at, same). elim (cases_eq i.atom a) [
      | inl it ↦
          let given : Input = record { atom = a; value = value } in
          let input : IsInput j a = any_from (λ (i : Input). i.atom ≡ a) j.inputs i (k, within, at) it in
          out.no_input (any_from (λ (i : Input). i.atom ≡ b) assigned.inputs given ((is.inputs given).1 (inr (input, refl))) (sym it ∙ same))
      | inr differ ↦ out.no_input (any_from (λ (i : Input). i.atom ≡ b) assigned.inputs i ((is.inputs i).1 (inl ((k, within, at), differ))) same)
    ];
  }

pub are_of_assigned : (j assigned : Join) (a : ℕ) (value : Option Bool) (things : List Thing) (store : Store) → IsAssigned j a value assigned → AreOf j things store → AreOf assigned things store
are_of_assigned j assigned a value things store is of = record {
  are = same_things j assigned is.atoms is.rules things of.are;
  completion = λ n. (
    λ has. completion_stays j assigned is.atoms is.rules (output_stays j assigned a value is) things n ((of.completion n).0 has),
    λ c. (of.completion n).1 (completion_stays assigned j (sym is.atoms) (sym is.rules) (output_was j assigned a value is) things n c),
  );
}

-- The join of no modules has no thing, and no completion nogood.
no_thing : (t : Thing) → ¬ IsThing 0 [] t
no_thing (atom a) less = absurd (omega (arith, less))
no_thing (body b) some = any_none (λ rule. IsThingOf rule (body b)) some
no_thing (tuple t) some = any_none (λ rule. IsThingOf rule (tuple t)) some
no_thing (aggregate g) some = any_none (λ rule. IsThingOf rule (aggregate g)) some

no_completion : (says : Completion) → ¬ IsOf (IsThing 0 []) (IsOutput no_join) [] says
no_completion (whole_body b) its = no_thing (body b) its
no_completion (part_of_body b part) its = no_thing (body b) its.0
no_completion (no_condition t) its = no_thing (tuple t) its
no_completion (condition_of_tuple t c) its = no_thing (tuple t) its.0
no_completion (unsupported b) its = let less : b < 0 = its.within in absurd (omega (arith, less))
no_completion (no_head rule h) its = member_none rule its.0
no_completion (broken rule) its = member_none rule its.0

pub are_of_none : (store : Store) → ((key : ℕ) → slot_at store key ≡ None) → AreOf no_join [] store
are_of_none store empty = record {
  are = record {
    exactly = λ t. (λ has. absurd (member_none t has), λ it. absurd (no_thing t it));
    once = λ i k d less within. absurd (omega (arith, within));
    before = λ k t part at made. absurd (member_none t (some_at [] k t at));
  };
  completion = λ n. (
    λ (key, at). absurd (none_is_some (base_of n) (sym (empty key) ∙ at)),
    λ c. absurd (no_completion c.says c.of_join),
  );
}
