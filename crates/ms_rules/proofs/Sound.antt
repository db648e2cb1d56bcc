-- What the steps of a propagation keep.
use Rattle.std.proofs.Common.{◌≡◌, ◌≢◌, ◌+◌, ◌-◌, ◌<◌, ◌≤◌, ◌⊎◌, ℕ, Bool, true, false, IsTrue, List, All, length, get_or, set, refl, sym, subst, ap, ◌∙◌, ⊎_elim, length-set, arith}
use Rattle.std.proofs.lemmas.Bool.{cases_eq, cases_lt}
use Rattle.std.proofs.lemmas.List.{get_or-set_other, get_or-set_same, get_or_default}
use Rattle.std.proofs.lemmas.List.Sums.{list_all-from_AllPass}
use Rattle.ms_join.specs.declared.ground_rule.GroundRule.{GroundRule}
use Rattle.ms_join.specs.declared.ground_rule.Rules.{Rules}
use Rattle.ms_join.specs.AnswerSets.{IsReductModel, has_all}
use Rattle.ms_rules.specs.Flags.{flag_at}
use Rattle.ms_rules.specs.LeastModel.{AsksFor, unmarked_count}
use Rattle.ms_rules.specs.State.{State, advanced, looked, marked, popped, pushed}
use Rattle.ms_rules.specs.Waiting.{HasLooked, IsSized, IsSound, IsStuck, Requires, body_at}
use Rattle.ms_rules.proofs.LeastModel.{IsMarking-mark, asked_in_range, marks_stay, outside_is_no_model, unmarked_count-mark}
use Rattle.ms_rules.proofs.States.{body_of_rule}

pub IsSound-looked : (join : Rules) (in_set : List Bool) (k r : ℕ) (s : State) → k < length join.rules → IsStuck (body_at join.rules k) (flag_at s.derived) (get_or s.left k 0) r → IsSound join in_set s → IsSound join in_set (looked s k r)
IsSound-looked join in_set k r s short stuck sound =
    let sized = sound.sized in
    let same = length-set s.left k r in
    record {
      over = sound.over;
      sized = record { derived = sized.derived; first = sized.first; queue = sized.queue; left = refl; next = sized.next ∙ sym same };
      rules = omega (arith, sound.rules, same);
      marking = sound.marking;
      room = sound.room;
      queue = sound.queue;
      looked = λ j j_short.
          ⊎_elim (λ (is : j ≡ k).
          let within = sound.looked k short in
          let here : HasLooked (body_at join.rules k) (flag_at s.derived) r = record {
            within = omega (arith, within.within, stuck.fewer);
            passed = λ i from_r i_short. ⊎_elim (λ (before : i < get_or s.left k 0). stuck.passed i from_r before) (λ (after : get_or s.left k 0 ≤ i). within.passed i after i_short) (cases_lt i (get_or s.left k 0));
          } in
          let left : get_or (set s.left k r) k 0 ≡ r = get_or-set_same s.left k r 0 (omega (arith, short, sound.rules)) in
          let at_k : HasLooked (body_at join.rules k) (flag_at s.derived) (get_or (set s.left k r) k 0) = subst (HasLooked (body_at join.rules k) (flag_at s.derived)) (sym left) here in
          subst (λ n. HasLooked (body_at join.rules n) (flag_at s.derived) (get_or (set s.left k r) n 0)) (sym is) at_k)
          (λ (differs : j ≡ k → ⊥). subst (HasLooked (body_at join.rules j) (flag_at s.derived)) (sym (get_or-set_other s.left k j r 0 differs)) (sound.looked j j_short))
          (cases_eq j k);
    }

pub IsSound-pushed : (join : Rules) (in_set : List Bool) (b k : ℕ) (s : State) → IsSound join in_set s → IsSound join in_set (pushed s b k)
IsSound-pushed join in_set b k s sound =
    let sized = sound.sized in
    record {
      over = sound.over;
      sized = record { derived = sized.derived; first = length-set s.first b k ∙ sized.first; queue = sized.queue; left = refl; next = length-set s.next k (get_or s.first b 0) ∙ sized.next };
      rules = sound.rules;
      marking = sound.marking;
      room = sound.room;
      queue = sound.queue;
      looked = sound.looked;
    }

pub IsSound-popped : (join : Rules) (in_set : List Bool) (a : ℕ) (s : State) → IsSound join in_set s → IsSound join in_set (popped s a)
IsSound-popped join in_set a s sound =
    let sized = sound.sized in
    record {
      over = sound.over;
      sized = record { derived = sized.derived; first = length-set s.first a (get_or s.next (get_or s.first a 0) 0) ∙ sized.first; queue = sized.queue; left = refl; next = sized.next };
      rules = sound.rules;
      marking = sound.marking;
      room = sound.room;
      queue = sound.queue;
      looked = sound.looked;
    }

pub IsSound-advanced : (join : Rules) (in_set : List Bool) (s : State) → IsSound join in_set s → IsSound join in_set (advanced s)
IsSound-advanced join in_set s sound =
    let sized = sound.sized in
    record {
      over = sound.over;
      sized = record { derived = sized.derived; first = sized.first; queue = sized.queue; left = refl; next = sized.next };
      rules = sound.rules;
      marking = sound.marking;
      room = sound.room;
      queue = sound.queue;
      looked = sound.looked;
    }

-- a rule that looked at all its positive atoms asks for its head
pub asks_for_head : (join : Rules) (in_set : List Bool) (k h : ℕ) (rule : GroundRule) (s : State) → k < length join.rules → rule ≡ get_or join.rules k rule → get_or s.left k 0 ≡ 0 → flag_at s.derived h ≡ false → Requires (flag_at in_set) rule h → IsSound join in_set s → AsksFor (flag_at in_set) (flag_at s.derived) rule h
asks_for_head join in_set k h rule s short read none lacks requires sound =
    let body = body_of_rule join.rules k rule short read in
    let all : HasLooked rule.pos (flag_at s.derived) (get_or s.left k 0) = subst (λ xs. HasLooked xs (flag_at s.derived) (get_or s.left k 0)) body (sound.looked k short) in
    record {
      kind = requires.kind;
      side = requires.side;
      pos = list_all-from_AllPass (flag_at s.derived) rule.pos (λ i d i_short. ap (flag_at s.derived) (get_or_default rule.pos i d 0 i_short) ∙ all.passed i (omega (arith, none)) i_short);
      head = requires.head;
      lacks = lacks;
    }

pub head_in_range : (join : Rules) (in_set : List Bool) (k h : ℕ) (rule : GroundRule) (s : State) → k < length join.rules → rule ≡ get_or join.rules k rule → IsSound join in_set s → AsksFor (flag_at in_set) (flag_at s.derived) rule h → h < length s.derived
head_in_range join in_set k h rule s short read sound asks =
    let over = sound.over.rules k rule short in
    omega (arith, asked_in_range (length in_set) (flag_at in_set) (flag_at s.derived) rule h (rw (← read) at over) asks, sound.sized.derived)

pub IsSound-marked : (join : Rules) (in_set : List Bool) (k h : ℕ) (rule : GroundRule) (s : State) → k < length join.rules → rule ≡ get_or join.rules k rule → AsksFor (flag_at in_set) (flag_at s.derived) rule h → h < length s.derived → s.queued < length s.queue → IsSound join in_set s → IsSound join in_set (marked s h)
IsSound-marked join in_set k h rule s short read asks in_range room sound =
    let sized = sound.sized in
    let length_marks = length-set s.derived h true in
    let fewer = unmarked_count-mark s.derived h in_range asks.lacks in
    record {
      over = sound.over;
      sized = record { derived = length_marks ∙ sized.derived; first = sized.first; queue = length-set s.queue s.queued h ∙ sized.queue; left = refl; next = sized.next };
      rules = sound.rules;
      marking = IsMarking-mark join (flag_at in_set) s.derived k rule h short read in_range sound.marking asks;
      room = omega (arith, length_marks, fewer, sound.room);
      queue = λ i i_short.
          ⊎_elim (λ (is : i ≡ s.queued).
          let at_end : get_or (set s.queue s.queued h) i 0 ≡ h = ap (λ n. get_or (set s.queue s.queued h) n 0) is ∙ get_or-set_same s.queue s.queued h 0 room in
          ap (flag_at (set s.derived h true)) at_end ∙ get_or-set_same s.derived h true false in_range)
          (λ (differs : i ≡ s.queued → ⊥).
          ap (flag_at (set s.derived h true)) (get_or-set_other s.queue s.queued i h 0 differs) ∙ marks_stay s.derived h (get_or s.queue i 0) in_range (sound.queue i (omega (arith, i_short, differs))))
          (cases_eq i s.queued);
      looked = λ j j_short.
          let before = sound.looked j j_short in
          record { within = before.within; passed = λ i from i_short. marks_stay s.derived h (get_or (body_at join.rules j) i 0) in_range (before.passed i from i_short) };
    }

-- the queue has room for a head that isn't marked
pub room_for_head : (join : Rules) (in_set : List Bool) (h : ℕ) (s : State) → h < length s.derived → flag_at s.derived h ≡ false → IsSound join in_set s → s.queued < length s.queue
room_for_head join in_set h s in_range lacks sound =
    let fewer = unmarked_count-mark s.derived h in_range lacks in
    omega (arith, fewer, sound.room, sound.sized.queue, sound.sized.derived)

pub outside_fails : (join : Rules) (in_set : List Bool) (k h : ℕ) (rule : GroundRule) (s : State) → k < length join.rules → rule ≡ get_or join.rules k rule → AsksFor (flag_at in_set) (flag_at s.derived) rule h → flag_at in_set h ≡ false → IsSound join in_set s → ¬ (IsReductModel join (flag_at in_set) (flag_at in_set))
outside_fails join in_set k h rule s short read asks outside sound =
    outside_is_no_model join (flag_at in_set) (flag_at s.derived) k rule h short read sound.marking.within asks outside
