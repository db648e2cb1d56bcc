-- The completion nogoods of a join of which an input is released.
use Rattle.std.proofs.Common.{◌≡◌, ◌∙◌, ◌⊎◌, ◌<◌, ℕ, List, [], ◌∷◌, Some, None, option_map, map, sym, ap, subst, inl, inr, arith}
use Rattle.std.specs.Prelude.{IfSome}
use Rattle.std.specs.List.{Contains, filter}
use Rattle.std.proofs.lemmas.Bool.{cases_eq}
use Rattle.std.proofs.lemmas.List.Elements.{All-contains}
use Rattle.ms_lits.specs.Literals.{Nogood}
use Rattle.ms_nogood.specs.declared.kind.Kind.TheVariants.{Base}
use Rattle.ms_nogood.specs.Store.{Store, Stored, Wakes, slot_at}
use Rattle.ms_join.specs.declared.ground_rule.GroundRule.{GroundRule}
use Rattle.ms_join.specs.declared.ground_rule.Input.{Input}
use Rattle.ms_join.specs.Modules.{Join, IsInput, IsJoin, IsOutput, IsReleased}
use Rattle.ms_join.specs.Things.{Thing, IsThing, body_of}
use Rattle.ms_join.specs.Things.Thing.{atom, body, tuple}
use Rattle.ms_things.specs.Signs.{Signed, IsNogoodOf, plus, minus}
use Rattle.ms_things.specs.Completion.{Completion, whole_body, part_of_body, no_condition, condition_of_tuple, unsupported, no_head, broken, IsOf, signs_of, IsCompletionNogood}
use Rattle.ms_complete.specs.Bases.{HasBase, base_of}
use Rattle.ms_complete.specs.Completing.{AreOf}
use Rattle.ms_complete.specs.Steps.{IsHeldFor}
use Rattle.ms_complete.specs.Sets.{Writes}
use Rattle.ms_complete.proofs.Assigned.{there, completion_stays, same_things}
use Rattle.ms_complete.proofs.Lists.{any_from, all_from, same_some, none_is_some}
use Rattle.ms_complete.proofs.Writing.{nogood_from, writes_from, writes_once}
use Rattle.ms_complete.proofs.Carried.{filter_none, heads, if_some, match_one, other_head}

module _ (j released : Join) (a key : ℕ) (things : List Thing) (store after : Store) (join : IsJoin j) (input : IsInput j a) (is : IsReleased j a released) (of : AreOf j things store)
    (held : IsHeldFor things a store key) (wakes : Wakes store after key) where
  abbrev own : Nogood
  own = held.lit ∷ []

  back : (t : Thing) → IsThing released.atoms released.rules t → IsThing j.atoms j.rules t
  back = there released j (sym is.atoms) (sym is.rules)

  -- its outputs are those that there were, and the atom
  atom_is_output : IsOutput released a
  atom_is_output =
      let (k, i, within, at, same) = input in
      let below : i.atom < j.atoms = All-contains (λ (i : Input). i.atom < j.atoms) j.inputs i join.over.inputs (k, within, at) in
      record {
        within = omega (arith, below, same, is.atoms);
        no_input = λ (k, i, within, at, same). ((is.inputs i).0 (k, within, at)).1 same;
      }

  output_stays : (b : ℕ) → IsOutput j b → IsOutput released b
  output_stays b out = record {
    within = let less : b < j.atoms = out.within in omega (arith, less, is.atoms);
    no_input = λ (k, i, within, at, same). out.no_input (any_from (λ (i : Input). i.atom ≡ b) j.inputs i ((is.inputs i).0 (k, within, at)).0 same);
  }

  output_was : (b : ℕ) → (b ≡ a → ⊥) → IsOutput released b → IsOutput j b
  output_was b differ out = record {
    within = let less : b < released.atoms = out.within in omega (arith, less, is.atoms);
    no_input = λ (k, i, within, at, same). out.no_input (any_from (λ (i : Input). i.atom ≡ b) released.inputs i ((is.inputs i).1 ((k, within, at), λ e. differ (sym same ∙ e))) same);
  }

  -- no rule has the atom as its head
  no_rule : filter (heads a) j.rules ≡ []
  no_rule =
      filter_none (heads a) j.rules (λ rule has. other_head a rule.head (λ e.
      (if_some (λ h. ¬ IsInput j h) rule.head a (All-contains (λ (r : GroundRule). IfSome r.head (λ h. ¬ IsInput j h)) j.rules rule join.outputs has) e) input))

  alone : signs_of released.rules (unsupported a) ≡ plus (atom a) ∷ []
  alone =
      ap (λ (rs : List GroundRule). signs_of rs (unsupported a)) is.rules
      ∙ ap (λ (rs : List GroundRule). plus (atom a) ∷ map (λ (rule : GroundRule). minus (body (body_of rule))) rs) no_rule

  own_written : Writes own own
  own_written = record {
    rising = λ i k d less within. absurd (omega (arith, less, within));
    each = all_from (Contains own) own (λ l has. has);
    all = all_from (Contains own) own (λ l has. has);
  }

  own_is : IsNogoodOf things (signs_of released.rules (unsupported a)) own
  own_is = subst (λ (signs : List Signed). IsNogoodOf things signs own) (sym alone) (nogood_from things (plus (atom a) ∷ []) own (match_one things (plus (atom a)) held.lit held.says) own own_written)

  is_own : (n : Nogood) → IsNogoodOf things (signs_of released.rules (unsupported a)) n → n ≡ own
  is_own n nogood =
      writes_once own n own
      (writes_from things (plus (atom a) ∷ []) own (match_one things (plus (atom a)) held.lit held.says) of.are.once n (subst (λ (signs : List Signed). IsNogoodOf things signs n) alone nogood))
      own_written

  -- the completion has that of the atom more
  own_completes : IsCompletionNogood released things own
  own_completes = record { says = unsupported a; of_join = atom_is_output; is = own_is }

  same_signs : (says : Completion) → signs_of released.rules says ≡ signs_of j.rules says
  same_signs says = ap (λ (rs : List GroundRule). signs_of rs says) is.rules

  stays : (n : Nogood) → IsCompletionNogood j things n → IsCompletionNogood released things n
  stays = completion_stays j released is.atoms is.rules output_stays things

  was : (n : Nogood) (says : Completion) → IsOf (IsThing j.atoms j.rules) (IsOutput j) j.rules says → IsNogoodOf things (signs_of released.rules says) n → (n ≡ own) ⊎ IsCompletionNogood j things n
  was n says its nogood = inr (record { says = says; of_join = its; is = subst (λ (signs : List Signed). IsNogoodOf things signs n) (same_signs says) nogood })

  cases : (n : Nogood) (says : Completion) → IsOf (IsThing released.atoms released.rules) (IsOutput released) released.rules says → IsNogoodOf things (signs_of released.rules says) n
      → (n ≡ own) ⊎ IsCompletionNogood j things n
  cases n (whole_body b) its nogood = was n (whole_body b) (back (body b) its) nogood
  cases n (part_of_body b part) its nogood = was n (part_of_body b part) (back (body b) its.0, its.1) nogood
  cases n (no_condition t) its nogood = was n (no_condition t) (back (tuple t) its) nogood
  cases n (condition_of_tuple t c) its nogood = was n (condition_of_tuple t c) (back (tuple t) its.0, its.1) nogood
  cases n (unsupported b) its nogood = elim (cases_eq b a) [
    | inl same ↦ inl (is_own n (subst (λ (x : ℕ). IsNogoodOf things (signs_of released.rules (unsupported x)) n) same nogood))
    | inr differ ↦ was n (unsupported b) (output_was b differ its) nogood
  ]
  cases n (no_head rule h) its nogood = was n (no_head rule h) (subst (λ (rs : List GroundRule). Contains rs rule) is.rules its.0, its.1, its.2) nogood
  cases n (broken rule) its nogood = was n (broken rule) (subst (λ (rs : List GroundRule). Contains rs rule) is.rules its.0, its.1) nogood

  -- the store has it
  woken : slot_at after key ≡ Some (base_of own)
  woken = wakes.woken ∙ ap (option_map (λ (s : Stored). let woken : Stored = record { lits = s.lits; kind = Some Base } in woken)) held.asleep

  not_asleep : (n : Nogood) (k : ℕ) → k ≡ key → slot_at store k ≡ Some (base_of n) → ⊥
  not_asleep n k same at =
      let slept : Stored = record { lits = own; kind = None } in
      let equal : slept ≡ base_of n = same_some slept (base_of n) (sym held.asleep ∙ (ap (slot_at store) (sym same) ∙ at)) in
      none_is_some Base (ap (λ (s : Stored). s.kind) equal)

  found : (n : Nogood) → HasBase after n → IsCompletionNogood released things n
  found n (k, at) = elim (cases_eq k key) [
    | inl same ↦
        let equal : base_of own ≡ base_of n = same_some (base_of own) (base_of n) (sym woken ∙ (ap (slot_at after) (sym same) ∙ at)) in
        subst (IsCompletionNogood released things) (ap (λ (s : Stored). s.lits) equal) own_completes
    | inr differ ↦ stays n ((of.completion n).0 (k, sym (wakes.others k differ) ∙ at))
  ]

  has : (n : Nogood) → IsCompletionNogood released things n → HasBase after n
  has n c = elim (cases n c.says c.of_join c.is) [
    | inl is_own ↦ subst (HasBase after) (sym is_own) (key, woken)
    | inr before ↦
        let (k, at) = (of.completion n).1 before in
        (k, wakes.others k (λ same. not_asleep n k same at) ∙ at)
  ]

  pub are_of_released : AreOf released things after
  are_of_released = record { are = same_things j released is.atoms is.rules things of.are; completion = λ n. (found n, has n) }
