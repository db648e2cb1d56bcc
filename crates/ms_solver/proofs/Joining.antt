-- A solver serves the join with a module once completion and loops took it and a nogood sleeps for each new input.
use Rattle.std.proofs.Common.{◌≡◌, ◌∙◌, ◌++◌, ◌+◌, ◌<◌, ◌≤◌, ℕ, List, [], ◌∷◌, Option, Some, None, length, get_or, refl, sym, ap, subst, inl, inr, arith, length-append}
use Rattle.std.specs.Prelude.{IsSomeAnd, slice_get}
use Rattle.std.specs.List.{All, Contains}
use Rattle.std.proofs.lemmas.List.Elements.{All-contains, All-weaker, Contains-append_cases}
use Rattle.std.proofs.lemmas.Option.{slice_get-get_or, slice_get_within}
use Rattle.ms_lits.specs.Literals.{Nogood}
use Rattle.ms_nogood.specs.Store.{Store}
use Rattle.ms_join.specs.declared.ground_module.GroundModule.{GroundModule}
use Rattle.ms_join.specs.declared.ground_rule.GroundRule.{GroundRule}
use Rattle.ms_join.specs.declared.ground_rule.Input.{Input}
use Rattle.ms_join.specs.AnswerSets.{IsRuleOver}
use Rattle.ms_join.specs.Modules.{Join, IsInput, IsWellFormed}
use Rattle.ms_join.specs.Things.{Body, Thing}
use Rattle.ms_join.specs.Things.Thing.{atom, body}
use Rattle.ms_things.specs.Completion.{IsCompletionNogood}
use Rattle.ms_loops.specs.Laws.{ConsequencesStay}
use Rattle.ms_complete.specs.Completing.{AreOf, CanTake, Completes}
use Rattle.ms_complete.specs.Keys.{plain_body}
use Rattle.ms_complete.specs.Numbering.{IsFrom, IsHeadThing, IsOfRule, Numbering}
use Rattle.ms_complete.specs.Rules.{holds}
use Rattle.ms_complete.proofs.Lists.{any_from, at_left, member_of}
use Rattle.ms_complete.proofs.Taking.{head_within}
use Rattle.ms_unfound.specs.Parts.{Known}
use Rattle.ms_unfound.specs.Taking.{Takes}
use Rattle.ms_unfound.proofs.WithCompletion.{taken_with_completion}
use Rattle.ms_solver.specs.Extending.{AddsPlaces, KeepsSlots, PutsToSleep}
use Rattle.ms_problem.specs.Numbered.{AreNumbers}
use Rattle.ms_solver.specs.States.{HasSleeper, IsLasting, Joins, Knowledge, Serves, kept_of}
use Rattle.ms_solver.proofs.Lasting.{lasting_joined}
use Rattle.ms_solver.proofs.Stores.{exactly_still, kept_stays, order_stays, slots_from, slots_keep_kept, slots_keep_lasting}

-- ---- the atoms of a module

no_body : (a : ℕ) (b : Body) → atom a ≡ body b → ⊥
no_body a b is = cc

atoms_same : (a h : ℕ) → atom a ≡ atom h → a ≡ h
atoms_same a h is = cc

module _ (base : ℕ) (m : GroundModule) (formed : IsWellFormed base m) where
  of_head : (rule : GroundRule) → IsRuleOver (base + m.fresh) rule → (head : Option ℕ) → rule.head ≡ head → (a : ℕ) → IsHeadThing head (atom a) → a < base + m.fresh
  of_head rule over None at a has = absurd has
  of_head rule over (Some h) at a has = subst (λ (b : ℕ). b < base + m.fresh) (sym (atoms_same a h has)) (head_within (base + m.fresh) rule.kind rule.head h over.head at)

  -- they are within the base and the new ones
  atom_within : (a : ℕ) → IsFrom m (atom a) → a < base + m.fresh
  atom_within a from = elim from [
    | inl (least, less) ↦ (let first : m.first_new ≡ base = formed.first in omega (arith, less, first))
    | inr (inl some) ↦ (
        let rule = some.1 in
        let over : IsRuleOver (base + m.fresh) rule = All-contains (IsRuleOver (base + m.fresh)) m.rules rule formed.rules (member_of (λ (r : GroundRule). IsOfRule r (atom a)) m.rules some) in
        elim some.4 [
          | inl (inl is_body) ↦ absurd (no_body a (plain_body rule) is_body)
          | inl (inr (inl positive)) ↦ All-contains (λ (b : ℕ). b < base + m.fresh) rule.pos a over.pos positive
          | inl (inr (inr negated)) ↦ All-contains (λ (b : ℕ). b < base + m.fresh) rule.neg a over.neg negated
          | inr head ↦ of_head rule over rule.head refl a head
        ])
    | inr (inr head) ↦ All-contains (λ (b : ℕ). b < base + m.fresh) m.heads a formed.heads.within head
  ]

module _ (s : Knowledge) (m : GroundModule) (new : Numbering) (mid : Store) (completes : Completes s.numbering m s.store new mid) where
  pub keeps_thing : (k : ℕ) (t : Thing) → slice_get s.numbering.things k ≡ Some t → slice_get new.things k ≡ Some t
  keeps_thing k t at = subst (λ (ts : List Thing). slice_get ts k ≡ Some t) (sym completes.things) (at_left s.numbering.things completes.more k t at)

  -- ---- what the calls ask for

  module _ (j : Join) (serves : Serves s j) (formed : IsWellFormed j.atoms m) where
    abbrev first : m.first_new ≡ j.atoms
    first = formed.first

    pub formed_first : IsWellFormed m.first_new m
    formed_first = subst (λ (n : ℕ). IsWellFormed n m) (sym formed.first) formed

    pub longer : s.loops.vars ≤ length new.things
    longer =
        let vars : s.loops.vars ≡ length s.numbering.things = serves.loops.vars in
        let len : length new.things ≡ length s.numbering.things + length completes.more = ap length completes.things ∙ length-append s.numbering.things completes.more in
        omega (arith, vars, len)

    pub declared : (a : ℕ) → m.first_new ≤ a → a < m.first_new + m.fresh → Contains new.things (atom a)
    declared a least less = completes.all (atom a) (inl (least, less))

    atom_below : (a : ℕ) → Contains new.things (atom a) → a < j.atoms + m.fresh
    atom_below a has = elim (Contains-append_cases s.numbering.things completes.more (atom a) (subst (λ (ts : List Thing). Contains ts (atom a)) completes.things has)) [
      | inl before ↦ (let less : a < j.atoms = (serves.of.are.exactly (atom a)).0 before in omega (arith, less))
      | inr more ↦ atom_within j.atoms m formed a (All-contains (IsFrom m) completes.more (atom a) completes.from more)
    ]

    names_many : length new.names ≡ j.atoms + m.fresh
    names_many =
        let len : length new.names ≡ length s.numbering.names + length m.names = ap length completes.names ∙ length-append s.numbering.names m.names in
        let named : length s.numbering.names ≡ j.atoms = serves.named in
        let fresh : m.fresh ≡ length m.names = formed.fresh in
        omega (arith, len, named, fresh)

    pub named_all : (terms : ℕ) → All (λ (name : ℕ). name < terms) (s.numbering.names ++ m.names) → (a : ℕ) → Contains new.things (atom a) → IsSomeAnd (slice_get new.names a) (λ name. name < terms)
    named_all terms each a has =
        let less : a < length new.names = (let below : a < j.atoms + m.fresh = atom_below a has in let many : length new.names ≡ j.atoms + m.fresh = names_many in omega (arith, below, many)) in
        let at : slice_get new.names a ≡ Some (get_or new.names a 0) = slice_get-get_or new.names a 0 less in
        let below : All (λ (name : ℕ). name < terms) new.names = subst (All (λ (name : ℕ). name < terms)) (sym completes.names) each in
        subst (λ (o : Option ℕ). IsSomeAnd o (λ name. name < terms)) (sym at) (below a 0 less)

-- ---- the join with the module

module _ (stay : ConsequencesStay) (s : Knowledge) (m : GroundModule) (new : Numbering) (mid after : Store) (loops : Known) (atoms : List ℕ) (widened sleepers : List (Option ℕ)) (j joined : Join)
    (serves : Serves s j) (is : Joins j m joined) (completes : Completes s.numbering m s.store new mid) (takes : Takes s.loops m new.things loops)
    (numbers : AreNumbers new.things (m.first_new + m.fresh) atoms) (places : AddsPlaces m.fresh s.sleepers widened) (sleep : PutsToSleep m.first_new m.externals atoms mid widened after sleepers) where
  can : CanTake j s.numbering.things s.store m
  can = record { join = serves.join; of = serves.of; well_formed = is.well_formed; composable = is.composable }

  of : AreOf joined new.things mid
  of = completes.completes j joined can is.joined

  slots : KeepsSlots s.store after
  slots = slots_from s.store mid after completes.keeps sleep.store

  count : m.first_new + m.fresh ≡ joined.atoms
  count = ap (λ (n : ℕ). n + m.fresh) is.well_formed.first ∙ sym is.joined.atoms

  sleeper_stays : (a : ℕ) → HasSleeper s.numbering.things s.store s.sleepers a → HasSleeper new.things after sleepers a
  sleeper_stays a h =
      let within : a < length s.sleepers = slice_get_within s.sleepers a (Some h.key) h.at in
      let many : length s.sleepers ≡ j.atoms = serves.places in
      let first : m.first_new ≡ j.atoms = is.well_formed.first in
      let less : a < m.first_new = omega (arith, within, many, first) in
      record {
        key = h.key;
        at = sleep.others a less ∙ subst (λ (xs : List (Option ℕ)). slice_get xs a ≡ Some (Some h.key)) (sym places.places) (at_left s.sleepers places.more a (Some h.key) h.at);
        number = h.number;
        thing = keeps_thing s m new mid completes h.number (atom a) h.thing;
        asleep = slots.keeps h.key (record { lits = holds h.number ∷ []; kind = None }) h.asleep;
      }

  sleeper_comes : (a : ℕ) → m.first_new ≤ a → Contains m.externals a → HasSleeper new.things after sleepers a
  sleeper_comes a least has = let s = sleep.each a least has in record { key = s.key; at = s.at; number = s.number; thing = numbers.each a s.number s.numbered; asleep = s.asleep }

  sleeper_all : (b : ℕ) → IsInput joined b → HasSleeper new.things after sleepers b
  sleeper_all b (k, i, within, found, same) = elim ((is.joined.inputs i).0 (k, within, found)) [
    | inl stays ↦ sleeper_stays b (serves.sleepers b (any_from (λ (i : Input). i.atom ≡ b) j.inputs i stays.0 same))
    | inr becomes ↦ (
        let first : m.first_new ≡ j.atoms = is.well_formed.first in
        let late : j.atoms ≤ i.atom = becomes.0 in
        let least : m.first_new ≤ i.atom = omega (arith, first, late) in
        subst (HasSleeper new.things after sleepers) same (sleeper_comes i.atom least becomes.1))
  ]

  lasting_more : (nogood : Nogood) → IsLasting j s.numbering.things nogood → IsLasting joined new.things nogood
  lasting_more nogood l = subst (λ (ts : List Thing). IsLasting joined ts nogood) (sym completes.things) (lasting_joined stay j joined m s.numbering.things completes.more nogood serves.join serves.of.are is l)

  pub joined_serves : Serves (record { store = after; numbering = new; loops = loops; atoms = atoms; sleepers = sleepers }) joined
  joined_serves = record {
    join = is.join;
    of = record { are = of.are; completion = exactly_still mid after (IsCompletionNogood joined new.things) sleep.store of.completion };
    loops = taken_with_completion j joined m s.numbering new s.store mid s.loops loops can is.joined completes serves.loops takes;
    lasting = slots_keep_lasting s.store after slots serves.lasting;
    order = order_stays s.store after serves.order (slots_keep_kept s.store after slots);
    kept = subst (All (IsLasting joined new.things)) (sym (kept_stays s.store after serves.order (slots_keep_kept s.store after slots)))
        (All-weaker (IsLasting j s.numbering.things) (IsLasting joined new.things) lasting_more (kept_of s) serves.kept);
    sleepers = sleeper_all;
    named = names_many s m new mid completes j serves is.well_formed ∙ sym is.joined.atoms;
    places =
        let len : length widened ≡ length s.sleepers + m.fresh = ap length places.places ∙ (length-append s.sleepers places.more ∙ ap (λ (n : ℕ). length s.sleepers + n) places.many) in
        sleep.places ∙ (len ∙ (ap (λ (n : ℕ). n + m.fresh) serves.places ∙ sym is.joined.atoms));
    atoms = subst (λ (n : ℕ). AreNumbers new.things n atoms) count numbers;
  }
