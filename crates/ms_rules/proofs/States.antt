-- What the steps of a propagation make of the rules that wait.
use Rattle.std.proofs.Common.{◌≡◌, ◌≢◌, ◌+◌, ◌-◌, ◌<◌, ◌≤◌, ◌⊎◌, ℕ, Bool, true, false, IsTrue, List, [], Option, Some, None, All, inl, inr, length, map, get_or, set, refl, sym, subst, ap, ◌∙◌, ⊎_elim, length-set, arith}
use Rattle.std.specs.Option.{IfSome}
use Rattle.std.proofs.lemmas.Bool.{both_ways, cases_Bool, cases_eq, cases_lt}
use Rattle.std.proofs.lemmas.List.{get_or-map, get_or-set_other, get_or-set_same, get_or_default}
use Rattle.std.proofs.lemmas.List.Folds.{list_all_at}
use Rattle.ms_join.specs.declared.ground_rule.GroundRule.{GroundRule}
use Rattle.ms_join.specs.declared.ground_rule.Rules.{Rules}
use Rattle.ms_join.specs.declared.ground_rule.GroundKind.{GroundKind}
use Rattle.ms_join.specs.declared.ground_rule.GroundKind.TheVariants.{Normal, Choice, Constraint}
use Rattle.ms_join.specs.AnswerSets.{AreRulesOver, IsRuleOver, Keeps, has_all, side_holds}
use Rattle.ms_rules.specs.Flags.{flag_at}
use Rattle.ms_rules.specs.State.{State, advanced, looked, marked, popped, pushed}
use Rattle.ms_rules.specs.Waiting.{AreWaiting, Has, IsListed, IsQueued, IsSettled, IsSound, IsWaiting, body_at}
use Rattle.ms_rules.proofs.LeastModel.{marks_stay}
use Rattle.ms_rules.proofs.Lists.{IsListed-looked, IsListed-others, IsListed-pushed, IsListed-settled, IsListed-untouched, IsTaken, IsTaken-first, empty_from_end}

pub body_of_rule : (rules : List GroundRule) (k : ℕ) (rule : GroundRule) → k < length rules → rule ≡ get_or rules k rule → body_at rules k ≡ rule.pos
body_of_rule rules k rule short read =
    get_or-map (λ (r : GroundRule). r.pos) rules k rule [] short ∙ ap (λ (r : GroundRule). r.pos) (sym read)

same_rule : (rules : List GroundRule) (k : ℕ) (rule other : GroundRule) → k < length rules → rule ≡ get_or rules k rule → other ≡ get_or rules k other → rule ≡ other
same_rule rules k rule other short read read_other =
    read ∙ get_or_default rules k rule other short ∙ sym read_other

pub AreWaiting-looked : (rules : List GroundRule) (by : ℕ → Bool) (seen k r : ℕ) (s : State) → AreWaiting rules by seen k s → AreWaiting rules by seen k (looked s k r)
AreWaiting-looked rules by seen k r s w = record {
  within = w.within;
  taken = w.taken;
  lists = λ a short. IsListed-looked rules s.left s.next (get_or s.first a 0) seen k r a (w.lists a short);
  later = w.later;
  settled = λ j rule before apart read none. w.settled j rule before apart read (sym (get_or-set_other s.left k j r 0 apart) ∙ none);
}

pub AreWaiting-pushed : (rules : List GroundRule) (by : ℕ → Bool) (seen k b : ℕ) (s : State) → k < length s.next → b < length s.first → IsWaiting rules s.left seen seen b k → flag_at s.derived b ≡ false → AreWaiting rules by seen k s → AreWaiting rules by seen seen (pushed s b k)
AreWaiting-pushed rules by seen k b s rule_in atom_in waits unmarked w =
    let from = get_or s.first b 0 in
    let next = set s.next k from in
    record {
      within = w.within;
      taken = w.taken;
      lists = λ a short.
          ⊎_elim (λ (is : a ≡ b).
          let at_b : IsListed rules s.left next (get_or (set s.first b k) b 0) seen seen b = subst (λ n. IsListed rules s.left next n seen seen b) (sym (get_or-set_same s.first b k 0 atom_in)) (IsListed-pushed rules s.left s.next from seen k b rule_in waits (w.lists b atom_in)) in
          subst (λ n. IsListed rules s.left next (get_or (set s.first b k) n 0) seen seen n) (sym is) at_b)
          (λ (differs : a ≡ b → ⊥).
          subst (λ n. IsListed rules s.left next n seen seen a) (sym (get_or-set_other s.first b a k 0 differs)) (IsListed-others rules s.left s.next (get_or s.first a 0) seen k from a b differs waits (w.lists a (omega (arith, short, length-set s.first b k)))))
          (cases_eq a b);
      later = λ a short is_marked.
          ⊎_elim (λ (is : a ≡ b). absurd (both_ways (flag_at s.derived b) unmarked (subst (λ n. IsTrue (flag_at s.derived n)) is is_marked)))
          (λ (differs : a ≡ b → ⊥).
          ⊎_elim (λ (end : length s.next ≤ get_or s.first a 0). inl (omega (arith, end, length-set s.next k from, get_or-set_other s.first b a k 0 differs))) (λ (queued : IsQueued s.queue s.taken s.queued a). inr queued)
          (w.later a (omega (arith, short, length-set s.first b k)) is_marked))
          (cases_eq a b);
      settled = λ j rule before _ read none.
          ⊎_elim (λ (is : j ≡ k). absurd (let at_k = ap (λ n. get_or s.left n 0) is in omega (arith, at_k, none, waits.some)))
          (λ (apart : j ≡ k → ⊥). w.settled j rule before apart read none)
          (cases_eq j k);
    }

pub AreWaiting-settled : (rules : List GroundRule) (by : ℕ → Bool) (seen k : ℕ) (s : State) (rule : GroundRule) → k < length rules → rule ≡ get_or rules k rule → get_or s.left k 0 ≡ 0 → IsSettled by (flag_at s.derived) rule → AreWaiting rules by seen k s → AreWaiting rules by seen seen s
AreWaiting-settled rules by seen k s rule short read none settled w = record {
  within = w.within;
  taken = w.taken;
  lists = λ a within. IsListed-settled rules s.left s.next (get_or s.first a 0) seen k a none (w.lists a within);
  later = w.later;
  settled = λ j other before _ read_other none_left.
      ⊎_elim (λ (is : j ≡ k).
      let read_here : other ≡ get_or rules k other = subst (λ n. other ≡ get_or rules n other) is read_other in
      subst (λ r. IsSettled by (flag_at s.derived) r) (same_rule rules k rule other short read read_here) settled)
      (λ (apart : j ≡ k → ⊥). w.settled j other before apart read_other none_left)
      (cases_eq j k);
}

pub AreWaiting-marked : (rules : List GroundRule) (by : ℕ → Bool) (seen hand h : ℕ) (s : State) → h < length s.derived → s.queued < length s.queue → AreWaiting rules by seen hand s → AreWaiting rules by seen hand (marked s h)
AreWaiting-marked rules by seen hand h s atom_in room w = record {
  within = w.within;
  taken = omega (arith, w.taken);
  lists = w.lists;
  later = λ a short is_marked.
      ⊎_elim (λ (is : a ≡ h). inr (record { place = s.queued; after = w.taken; before = omega arith; at = get_or-set_same s.queue s.queued h 0 room ∙ sym is }))
      (λ (differs : a ≡ h → ⊥).
      ⊎_elim (λ (end : length s.next ≤ get_or s.first a 0). inl end)
      (λ (queued : IsQueued s.queue s.taken s.queued a).
      let apart : queued.place ≢ s.queued = λ same. (let lt = queued.before in omega (arith, lt, same)) in
      inr (record { place = queued.place; after = queued.after; before = omega (arith, queued.before); at = get_or-set_other s.queue s.queued queued.place h 0 apart ∙ queued.at }))
      (w.later a short (sym (get_or-set_other s.derived h a true false differs) ∙ is_marked)))
      (cases_eq a h);
  settled = λ j rule before apart read none of above. w.settled j rule before apart read none of (λ a has. above a (marks_stay s.derived h a atom_in has));
}

-- The first rule that waits for an atom is taken in hand.
pub record IsInHand (rules : List GroundRule) (by : ℕ → Bool) (seen k a : ℕ) (old new : State) : Type 0 where
  pub waits : IsWaiting rules old.left seen seen a k
  pub others : AreWaiting rules by seen k new

pub AreWaiting-popped : (rules : List GroundRule) (by : ℕ → Bool) (seen k a : ℕ) (s : State) → k < length s.next → a < length s.first → k ≡ get_or s.first a 0 → AreWaiting rules by seen seen s → IsInHand rules by seen k a s (popped s a)
AreWaiting-popped rules by seen k a s rule_in atom_in first w =
    let after = get_or s.next (get_or s.first a 0) 0 in
    let here : IsListed rules s.left s.next k seen seen a = subst (λ n. IsListed rules s.left s.next n seen seen a) (sym first) (w.lists a atom_in) in
    let taken : IsTaken rules s.left s.next seen k a = IsTaken-first rules s.left s.next k seen a rule_in here in
    let rest : IsListed rules s.left s.next after seen k a = subst (λ n. IsListed rules s.left s.next (get_or s.next n 0) seen k a) first taken.rest in
    record {
      waits = taken.waits;
      others = record {
        within = w.within;
        taken = w.taken;
        lists = λ b short.
            ⊎_elim (λ (is : b ≡ a).
            let at_a : IsListed rules s.left s.next (get_or (set s.first a after) a 0) seen k a = subst (λ n. IsListed rules s.left s.next n seen k a) (sym (get_or-set_same s.first a after 0 atom_in)) rest in
            subst (λ n. IsListed rules s.left s.next (get_or (set s.first a after) n 0) seen k n) (sym is) at_a)
            (λ (differs : b ≡ a → ⊥).
            subst (λ n. IsListed rules s.left s.next n seen k b) (sym (get_or-set_other s.first a b after 0 differs)) (IsListed-untouched rules s.left s.next (get_or s.first b 0) seen k b a differs taken.waits (w.lists b (omega (arith, short, length-set s.first a after)))))
            (cases_eq b a);
        later = λ b short is_marked.
            ⊎_elim (λ (is : b ≡ a).
            ⊎_elim (λ (end : length s.next ≤ get_or s.first a 0). absurd (omega (arith, end, first, rule_in))) (λ (queued : IsQueued s.queue s.taken s.queued a). inr (subst (IsQueued s.queue s.taken s.queued) (sym is) queued))
            (w.later a atom_in (subst (λ n. IsTrue (flag_at s.derived n)) is is_marked)))
            (λ (differs : b ≡ a → ⊥).
            ⊎_elim (λ (end : length s.next ≤ get_or s.first b 0). inl (omega (arith, end, get_or-set_other s.first a b after 0 differs))) (λ (queued : IsQueued s.queue s.taken s.queued b). inr queued)
            (w.later b (omega (arith, short, length-set s.first a after)) is_marked))
            (cases_eq b a);
        settled = λ j rule before _ read none. w.settled j rule before (omega (arith, before)) read none;
      };
    }

pub AreWaiting-advanced : (rules : List GroundRule) (by : ℕ → Bool) (seen a : ℕ) (s : State) → s.taken < s.queued → a ≡ get_or s.queue s.taken 0 → length s.next ≤ get_or s.first a 0 → AreWaiting rules by seen seen s → AreWaiting rules by seen seen (advanced s)
AreWaiting-advanced rules by seen a s more first end w = record {
  within = w.within;
  taken = omega (arith, more);
  lists = w.lists;
  later = λ b short is_marked.
      ⊎_elim (λ (none : length s.next ≤ get_or s.first b 0). inl none)
      (λ (queued : IsQueued s.queue s.taken s.queued b).
      ⊎_elim (λ (is : queued.place ≡ s.taken).
      let same : a ≡ b = first ∙ ap (λ n. get_or s.queue n 0) (sym is) ∙ queued.at in
      inl (subst (λ n. length s.next ≤ get_or s.first n 0) same end))
      (λ (differs : queued.place ≡ s.taken → ⊥).
      let after = queued.after in
      inr (record { place = queued.place; after = omega (arith, after, differs); before = queued.before; at = queued.at }))
      (cases_eq queued.place s.taken))
      (w.later b short is_marked);
  settled = w.settled;
}

-- the next rule is taken in hand
pub AreWaiting-enter : (rules : List GroundRule) (by : ℕ → Bool) (k : ℕ) (s : State) → k < length rules → AreWaiting rules by k k s → AreWaiting rules by (k + 1) k s
AreWaiting-enter rules by k s short w = record {
  within = omega (arith, short);
  taken = w.taken;
  lists = λ a within.
      let l = w.lists a within in
      record {
        list = l.list;
        linked = l.linked;
        once = l.once;
        only = λ j has. (let x = l.only j has in record { before = omega (arith, x.before); apart = x.apart; some = x.some; last = x.last });
        each = λ j x. l.each j (let before = x.before in let apart = x.apart in record { before = omega (arith, before, apart); apart = x.apart; some = x.some; last = x.last });
      };
  later = w.later;
  settled = λ j rule before apart read none. w.settled j rule (omega (arith, before, apart)) apart read none;
}

-- before the first rule no list has one
pub AreWaiting-none : (rules : List GroundRule) (by : ℕ → Bool) (s : State) → s.taken ≤ s.queued → ((a : ℕ) → a < length s.first → length s.next ≤ get_or s.first a 0) → AreWaiting rules by 0 0 s
AreWaiting-none rules by s taken ends = record {
  within = omega arith;
  taken = taken;
  lists = λ a short. record {
    list = [];
    linked = ends a short;
    once = tt;
    only = λ j has. absurd has;
    each = λ j w. absurd (let lt = w.before in omega (arith, lt));
  };
  later = λ a short is_marked. inl (ends a short);
  settled = λ j rule before apart read none. absurd (omega (arith, before));
}

-- a rule of which the set lacks a positive atom asks for nothing
lacking_head : (by of : ℕ → Bool) (rule : GroundRule) (head : Option ℕ) → ¬ (IsTrue (has_all of rule.pos)) → IfSome head (λ h. IsTrue (by h) → IsTrue (side_holds by rule) → IsTrue (has_all of rule.pos) → IsTrue (of h))
lacking_head by of rule (Some h) lacks = λ has side pos. absurd (lacks pos)
lacking_head by of rule None lacks = tt

keeps_lacking : (by of : ℕ → Bool) (kind : GroundKind) (rule : GroundRule) → ¬ (IsTrue (has_all of rule.pos)) → Keeps by of kind rule
keeps_lacking by of Normal rule lacks = λ side pos. absurd (lacks pos)
keeps_lacking by of Choice rule lacks = lacking_head by of rule rule.head lacks
keeps_lacking by of Constraint rule lacks = tt

no_longer : (s : State) (a : ℕ) → s.queued ≤ s.taken → ¬ (IsQueued s.queue s.taken s.queued a)
no_longer s a done queued =
    let after = queued.after in let before = queued.before in omega (arith, done, after, before)

-- for an atom that is marked no rule waits in the end
not_waiting : (rules : List GroundRule) (by : ℕ → Bool) (seen k a : ℕ) (s : State) → s.queued ≤ s.taken → a < length s.first → IsTrue (flag_at s.derived a) → AreWaiting rules by seen seen s → ¬ (IsWaiting rules s.left seen seen a k)
not_waiting rules by seen k a s done atom_in is_marked w waits =
    let l = w.lists a atom_in in
    ⊎_elim (λ (end : length s.next ≤ get_or s.first a 0).
    let empty : l.list ≡ [] = empty_from_end s.next (get_or s.first a 0) l.list l.linked end in
    let has : Has [] k = subst (λ list. Has list k) empty (l.each k waits) in
    absurd has)
    (λ (queued : IsQueued s.queue s.taken s.queued a). absurd (no_longer s a done queued))
    (w.later a atom_in is_marked)

-- In the end what is marked keeps what each rule asks for.
pub kept_in_the_end : (join : Rules) (in_set : List Bool) (s : State) → s.queued ≤ s.taken → IsSound join in_set s → AreWaiting join.rules (flag_at in_set) (length join.rules) (length join.rules) s → All (λ rule. Keeps (flag_at in_set) (flag_at s.derived) rule.kind rule) join.rules
kept_in_the_end join in_set s done sound w k d short =
    let rules = join.rules in
    let by = flag_at in_set in
    let of = flag_at s.derived in
    let rule = get_or rules k d in
    let read : rule ≡ get_or rules k rule = get_or_default rules k d rule short in
    let body = body_of_rule rules k rule short read in
    let left = get_or s.left k 0 in
    ⊎_elim (λ (some : 0 < left).
    let a = get_or rule.pos (left - 1) 0 in
    let within : left ≤ length (body_at rules k) = (sound.looked k short).within in
    let inside : left - 1 < length rule.pos = omega (arith, some, within, ap length body) in
    let over : IsRuleOver (length in_set) rule = sound.over.rules k d short in
    let atom_in : a < length s.first = omega (arith, over.pos (left - 1) 0 inside, sound.sized.first) in
    let waits : IsWaiting rules s.left (length rules) (length rules) a k = record { before = short; apart = omega (arith, short); some = some; last = ap (λ (xs : List ℕ). get_or xs (left - 1) 0) body } in
    let unmarked : of a ≡ false = elim (cases_Bool (of a)) [
      | inl has ↦ absurd (not_waiting rules by (length rules) k a s done atom_in has w waits)
      | inr lacks ↦ lacks
    ] in
    keeps_lacking by of rule.kind rule (λ all. both_ways (has_all of rule.pos) (list_all_at of rule.pos (left - 1) 0 inside unmarked) all))
    (λ (none : left ≤ 0). w.settled k rule short (omega (arith, short)) read (omega (arith, none)) of (λ a has. has))
    (cases_lt 0 left)
