-- Lists of rules that are linked by their numbers, and what a step of the propagation makes of them.
use Rattle.std.proofs.Common.{◌≡◌, ◌≢◌, ◌+◌, ◌-◌, ◌<◌, ◌≤◌, ◌⊎◌, ℕ, List, [], ◌∷◌, inl, inr, length, get_or, set, refl, sym, subst, ap, ◌∙◌, ⊎_elim, length-set, arith}
use Rattle.std.proofs.lemmas.Bool.{cases_eq}
use Rattle.std.proofs.lemmas.List.{get_or-set_other, get_or-set_same}
use Rattle.ms_join.specs.declared.ground_rule.GroundRule.{GroundRule}
use Rattle.ms_rules.specs.Waiting.{AreApart, Has, IsLinked, IsListed, IsWaiting, body_at}

-- what isn't on the list doesn't link it
linked_without : (next : List ℕ) (k v from : ℕ) (list : List ℕ) → ¬ (Has list k) → IsLinked next from list → IsLinked (set next k v) from list
linked_without next k v from [] out linked = omega (arith, length-set next k v)
linked_without next k v from (j ∷ js) out linked =
    let same : get_or (set next k v) j 0 ≡ get_or next j 0 = get_or-set_other next k j v 0 (λ e. out (inl (sym e))) in (
      linked.0,
      omega (arith, linked.1, length-set next k v),
      subst (λ n. IsLinked (set next k v) n js) (sym same) (linked_without next k v (get_or next j 0) js (λ has. out (inr has)) linked.2),
    )

-- the list is empty where its first number is no rule's
pub empty_from_end : (next : List ℕ) (from : ℕ) (list : List ℕ) → IsLinked next from list → length next ≤ from → list ≡ []
empty_from_end next from [] linked end = refl
empty_from_end next from (j ∷ js) linked end = absurd (omega (arith, linked.0, linked.1))

-- Where its first number is a rule's, the list begins with that rule.
pub record BeginsWith (next : List ℕ) (k : ℕ) (list : List ℕ) : Type 0 where
  pub rest : List ℕ
  pub is : list ≡ k ∷ rest
  pub linked : IsLinked next (get_or next k 0) rest

pub begins_from_rule : (next : List ℕ) (from : ℕ) (list : List ℕ) → IsLinked next from list → from < length next → BeginsWith next from list
begins_from_rule next from [] linked within = absurd (omega (arith, linked))
begins_from_rule next from (j ∷ js) linked within = record {
  rest = js;
  is = ap (λ n. n ∷ js) (sym linked.0);
  linked = subst (λ n. IsLinked next (get_or next n 0) js) (sym linked.0) linked.2;
}

-- a rule that isn't in hand looked at what it had looked at
waiting_apart : (rules : List GroundRule) (left : List ℕ) (k r seen a j : ℕ) → IsWaiting rules left seen k a j → IsWaiting rules (set left k r) seen k a j
waiting_apart rules left k r seen a j w =
    let same : get_or (set left k r) j 0 ≡ get_or left j 0 = get_or-set_other left k j r 0 w.apart in
    record { before = w.before; apart = w.apart; some = omega (arith, same, w.some); last = ap (λ n. get_or (body_at rules j) (n - 1) 0) same ∙ w.last }

waiting_back : (rules : List GroundRule) (left : List ℕ) (k r seen a j : ℕ) → IsWaiting rules (set left k r) seen k a j → IsWaiting rules left seen k a j
waiting_back rules left k r seen a j w =
    let same : get_or (set left k r) j 0 ≡ get_or left j 0 = get_or-set_other left k j r 0 w.apart in
    record { before = w.before; apart = w.apart; some = omega (arith, same, w.some); last = sym (ap (λ n. get_or (body_at rules j) (n - 1) 0) same) ∙ w.last }

pub IsListed-looked : (rules : List GroundRule) (left next : List ℕ) (from seen k r a : ℕ) → IsListed rules left next from seen k a → IsListed rules (set left k r) next from seen k a
IsListed-looked rules left next from seen k r a l = record {
  list = l.list;
  linked = l.linked;
  once = l.once;
  only = λ j has. waiting_apart rules left k r seen a j (l.only j has);
  each = λ j w. l.each j (waiting_back rules left k r seen a j w);
}

-- none is in hand
waiting_all : (rules : List GroundRule) (left : List ℕ) (seen k a j : ℕ) → IsWaiting rules left seen k a j → IsWaiting rules left seen seen a j
waiting_all rules left seen k a j w = record { before = w.before; apart = omega (arith, w.before); some = w.some; last = w.last }

waiting_but : (rules : List GroundRule) (left : List ℕ) (seen k a j : ℕ) → j ≢ k → IsWaiting rules left seen seen a j → IsWaiting rules left seen k a j
waiting_but rules left seen k a j apart w = record { before = w.before; apart = apart; some = w.some; last = w.last }

-- a rule that waits for no atom is on no list
pub IsListed-settled : (rules : List GroundRule) (left next : List ℕ) (from seen k a : ℕ) → get_or left k 0 ≡ 0 → IsListed rules left next from seen k a → IsListed rules left next from seen seen a
IsListed-settled rules left next from seen k a none l = record {
  list = l.list;
  linked = l.linked;
  once = l.once;
  only = λ j has. waiting_all rules left seen k a j (l.only j has);
  each = λ j w.
      let apart : j ≢ k = λ same. (let here = ap (λ n. get_or left n 0) same in omega (arith, here, none, w.some)) in
      l.each j (waiting_but rules left seen k a j apart w);
}

-- the rule in hand goes to the front of the list of its atom
pub IsListed-pushed : (rules : List GroundRule) (left next : List ℕ) (from seen k a : ℕ) → k < length next → IsWaiting rules left seen seen a k → IsListed rules left next from seen k a → IsListed rules left (set next k from) k seen seen a
IsListed-pushed rules left next from seen k a within waits l =
    let out : ¬ (Has l.list k) = λ has. (l.only k has).apart refl in
    let same : get_or (set next k from) k 0 ≡ from = get_or-set_same next k from 0 within in
    record {
      list = k ∷ l.list;
      linked = (
        refl,
        omega (arith, within, length-set next k from),
        subst (λ n. IsLinked (set next k from) n l.list) (sym same) (linked_without next k from from l.list out l.linked),
      );
      once = (out, l.once);
      only = λ j has. ⊎_elim (λ (is : j ≡ k). subst (λ n. IsWaiting rules left seen seen a n) (sym is) waits) (λ (more : Has l.list j). waiting_all rules left seen k a j (l.only j more)) has;
      each = λ j w. ⊎_elim (λ (is : j ≡ k). inl is) (λ (apart : j ≡ k → ⊥). inr (l.each j (waiting_but rules left seen k a j apart w))) (cases_eq j k);
    }

-- and not to that of another atom
pub IsListed-others : (rules : List GroundRule) (left next : List ℕ) (from seen k v a b : ℕ) → a ≢ b → IsWaiting rules left seen seen b k → IsListed rules left next from seen k a → IsListed rules left (set next k v) from seen seen a
IsListed-others rules left next from seen k v a b differs waits l =
    let out : ¬ (Has l.list k) = λ has. (l.only k has).apart refl in
    record {
      list = l.list;
      linked = linked_without next k v from l.list out l.linked;
      once = l.once;
      only = λ j has. waiting_all rules left seen k a j (l.only j has);
      each = λ j w.
          let apart : j ≢ k = λ same. differs (sym w.last ∙ ap (λ n. get_or (body_at rules n) (get_or left n 0 - 1) 0) same ∙ waits.last) in
          l.each j (waiting_but rules left seen k a j apart w);
    }

-- a rule that waits for one atom doesn't wait for another
pub IsListed-untouched : (rules : List GroundRule) (left next : List ℕ) (from seen k a b : ℕ) → a ≢ b → IsWaiting rules left seen seen b k → IsListed rules left next from seen seen a → IsListed rules left next from seen k a
IsListed-untouched rules left next from seen k a b differs waits l = record {
  list = l.list;
  linked = l.linked;
  once = l.once;
  only = λ j has.
      let w = l.only j has in
      let apart : j ≢ k = λ same. differs (sym w.last ∙ ap (λ n. get_or (body_at rules n) (get_or left n 0 - 1) 0) same ∙ waits.last) in
      waiting_but rules left seen k a j apart w;
  each = λ j w. l.each j (waiting_all rules left seen k a j w);
}

-- The first rule of a list is taken in hand.
pub record IsTaken (rules : List GroundRule) (left next : List ℕ) (seen k a : ℕ) : Type 0 where
  pub waits : IsWaiting rules left seen seen a k
  pub rest : IsListed rules left next (get_or next k 0) seen k a

pub IsTaken-first : (rules : List GroundRule) (left next : List ℕ) (k seen a : ℕ) → k < length next → IsListed rules left next k seen seen a → IsTaken rules left next seen k a
IsTaken-first rules left next k seen a within l =
    let begins = begins_from_rule next k l.list l.linked within in
    let once : AreApart (k ∷ begins.rest) = subst AreApart begins.is l.once in
    let only : (j : ℕ) → Has (k ∷ begins.rest) j → IsWaiting rules left seen seen a j = subst (λ list. (j : ℕ) → Has list j → IsWaiting rules left seen seen a j) begins.is l.only in
    let each : (j : ℕ) → IsWaiting rules left seen seen a j → Has (k ∷ begins.rest) j = subst (λ list. (j : ℕ) → IsWaiting rules left seen seen a j → Has list j) begins.is l.each in
    record {
      waits = only k (inl refl);
      rest = record {
        list = begins.rest;
        linked = begins.linked;
        once = once.1;
        only = λ j has.
            let apart : j ≢ k = λ same. once.0 (subst (Has begins.rest) same has) in
            waiting_but rules left seen k a j apart (only j (inr has));
        each = λ j w.
            ⊎_elim (λ (is : j ≡ k). absurd (w.apart is)) (λ (more : Has begins.rest j). more) (each j (waiting_all rules left seen k a j w));
      };
    }
