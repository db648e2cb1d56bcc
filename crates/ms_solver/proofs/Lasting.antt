-- What is kept stays a consequence, and what is stored is known.
use Rattle.std.proofs.Common.{◌≡◌, ◌∙◌, ◌++◌, ◌<◌, ℕ, zero, suc, true, List, Some, option_map, length, sym, ap, subst, inl, inr, arith, length-append}
use Rattle.std.proofs.lemmas.List.Elements.{All-contains, All-weaker}
use Rattle.ms_lits.specs.declared.lit.Lit.{Lit}
use Rattle.ms_lits.specs.Literals.{Nogood}
use Rattle.ms_nogood.specs.Store.{Stored, holds_kept, is_kept, slot_at}
use Rattle.ms_join.specs.declared.ground_module.GroundModule.{GroundModule}
use Rattle.ms_join.specs.Modules.{Join, IsInput, IsJoin}
use Rattle.ms_join.specs.Things.{Thing}
use Rattle.ms_things.specs.Numbers.{AreThings}
use Rattle.ms_loops.specs.Laws.{ConsequencesStay, InputsKeepConsequences, NogoodsAreConsequences}
use Rattle.ms_complete.proofs.Assigned.{are_of_assigned}
use Rattle.ms_complete.proofs.Lists.{any_from}
use Rattle.ms_lawful.proofs.Lists.{filter_map-Contains}
use Rattle.ms_search.specs.Problems.{literals_at}
use Rattle.ms_search.proofs.Begins.{awake_slot}
use Rattle.ms_unfound.proofs.InputLoops.{assign_keeps_loops}
use Rattle.ms_solver.specs.Laws.{AssignedIsServed, LeadsTo, LearnedLasts, Moment, StoredIsConsequence, StoredIsKnown}
use Rattle.ms_problem.specs.Numbered.{AreNumbers}
use Rattle.ms_solver.specs.States.{IsLasting, Joins, kept_of}

pub lasting_joined : ConsequencesStay → (old new : Join) (m : GroundModule) (things more : List Thing) (nogood : Nogood) → IsJoin old → AreThings old things → Joins old m new
    → IsLasting old things nogood → IsLasting new (things ++ more) nogood
lasting_joined stay old new m things more nogood join are joins l = record {
  within = All-weaker (λ (lit : Lit). lit.var < length things) (λ (lit : Lit). lit.var < length (things ++ more)) (λ lit less. omega (arith, less, length-append things more)) nogood l.within;
  consequence = stay old new m things more nogood join joins.well_formed joins.composable joins.joined are l.within l.consequence;
}

pub learned_lasts : ConsequencesStay → InputsKeepConsequences → LearnedLasts
unfolding LeadsTo
learned_lasts stay keep zero old new nogood leads l = subst (λ (at : Moment). IsLasting at.join at.things nogood) leads l
learned_lasts stay keep (suc steps) old new nogood leads l =
    let mid = leads.0 in
    let before = learned_lasts stay keep steps old mid nogood leads.1 l in
    elim leads.2 [
      | inl grows ↦ subst (λ (things : List Thing). IsLasting new.join things nogood) (sym grows.things)
          (lasting_joined stay mid.join new.join grows.m mid.things grows.more nogood grows.join grows.are grows.joins before)
      | inr turns ↦ subst (λ (things : List Thing). IsLasting new.join things nogood) (sym turns.things)
          (record { within = before.within; consequence = keep mid.join new.join turns.input turns.value mid.things nogood turns.is before.consequence })
    ]

pub assigned_is_served : InputsKeepConsequences → AssignedIsServed
assigned_is_served keep s j assigned a value serves is join = record {
  join = join;
  of = are_of_assigned j assigned a value s.numbering.things s.store is serves.of;
  loops = assign_keeps_loops j assigned a value s.numbering.things s.loops is serves.loops;
  lasting = serves.lasting;
  order = serves.order;
  kept = All-weaker (IsLasting j s.numbering.things) (IsLasting assigned s.numbering.things)
      (λ nogood l. record { within = l.within; consequence = keep j assigned a value s.numbering.things nogood (inr is) l.consequence }) (kept_of s) serves.kept;
  sleepers = λ b (k, i, within, found, same). serves.sleepers b (elim ((is.inputs i).0 (k, within, found)) [
    | inl stays ↦ any_from (λ i. i.atom ≡ b) j.inputs i stays.0 same
    | inr turned ↦ subst (IsInput j) (sym (ap (λ i. i.atom) turned.1) ∙ same) turned.0
  ]);
  named = serves.named ∙ sym is.atoms;
  places = serves.places ∙ sym is.atoms;
  atoms = subst (λ (n : ℕ). AreNumbers s.numbering.things n s.atoms) (sym is.atoms) serves.atoms;
}

pub stored_is_known : StoredIsKnown
stored_is_known s j key stored serves found =
    let slot : slot_at s.store key ≡ Some stored = awake_slot (slot_at s.store key) stored found in
    elim (serves.lasting key stored found) [
      | inl base ↦ inl (base, (serves.of.completion stored.lits).0 (key, slot ∙ ap (λ kind. Some (record { lits = stored.lits; kind = kind })) base))
      | inr kept ↦ inr (
        kept,
        let holds : holds_kept (slot_at s.store key) ≡ true = ap holds_kept slot ∙ ap is_kept kept in
            All-contains (IsLasting j s.numbering.things) (kept_of s) stored.lits serves.kept
            (filter_map-Contains (literals_at s.store) key stored.lits s.store.kept (serves.order.every_one key holds) (ap (option_map (λ (t : Stored). t.lits)) slot)),
      )
    ]

pub stored_is_consequence : NogoodsAreConsequences → StoredIsConsequence
stored_is_consequence are s j key stored serves found = elim (stored_is_known s j key stored serves found) [
  | inl program ↦ are j s.numbering.things stored.lits (inl program.1)
  | inr learned ↦ learned.1.consequence
]
