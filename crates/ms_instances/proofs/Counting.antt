-- There are as many copies of rules without aggregates as they say things.
use Rattle.std.proofs.Common.{◌≡◌, ℕ, zero, suc, ◌+◌, ◌<◌, ◌≤◌, ℤ, pos, negsuc, ◌+ℤ◌, ◌-ℤ◌, ◌≤ℤ◌, ◌<ℤ◌, Bool, cond, inl, inr, List, [], ◌∷◌, ◌++◌, map, length, All, Option, Some, None, refl, sym, ap, ◌∙◌, subst, arith, length-append}
use Rattle.std.specs.Prelude.{Contains, IsSomeAnd, is_some, filter, slice_get}
use Rattle.std.specs.List.{filter_map, cons_option}
use Rattle.std.proofs.lemmas.Int.{ints}
use Rattle.std.proofs.lemmas.List.{length-map}
use Rattle.std.proofs.lemmas.List.Elements.{All-nil, All-head, All-tail, All-contains, Contains-append_cases, Contains-append_left, Contains-append_right}
use Rattle.ms_base.proofs.Lists.{Contains-behind, Contains-filter, Contains-first, Contains-map}
use Rattle.ms_core.specs.declared.rule.Range.{Range}
use Rattle.ms_core.specs.declared.rule.Agg.{Agg}
use Rattle.ms_core.specs.declared.rule.CoreRule.{CoreRule}
use Rattle.ms_copies.specs.Evaluating.{Chosen, integer, value}
use Rattle.ms_copies.specs.Choosing.{IsCopy, IsElementCopy}
use Rattle.ms_copies.specs.InOrder.{integers, integers_between, integers_within, choices}
use Rattle.ms_copies.specs.Limits.{most_copies, Copy, ElementCopy, IsCopyOf, IsElementCopyIn, IsElementCopyOf, HasTooManyCopies}
use Rattle.ms_copies.proofs.Integers.{integers_more, integers_none, integers_bounds}
use Rattle.ms_copies.proofs.Listed.{map_parts, choices_from, choices_to}
use Rattle.ms_instances.specs.Listing.{said_of, said_by_rule, all_said}
use Rattle.ms_instances.proofs.Members.{all_from}
use Rattle.ms_instances.proofs.Copies.{some_of, says_copy, copy_says}
use Rattle.ms_copies.specs.Simplifying.{ArePlain}
use Rattle.ms_instances.proofs.Different.{Different, nothing_in, different_pairs, pairs_different, different_append, different_map, different_flat, different_filter, filter_parts, no_longer}

not_again : (low high : ℤ) → Contains (integers (low +ℤ pos 1) high) low → ⊥
not_again low high c = let b : (low +ℤ pos 1) ≤ℤ low = (integers_bounds (low +ℤ pos 1) high low c).0 in omega (arith, ints)

-- the integers from one to another rise
rising_integers : (d : ℕ) (low high : ℤ) → high -ℤ low ≡ pos d → Different (integers low high)
rising_integers zero low high e =
    let le : low ≤ℤ high = omega (arith, ints) in
    let past : high <ℤ (low +ℤ pos 1) = omega (arith, ints) in
    subst (λ (ns : List ℤ). Different ns) (sym (integers_more low high le ∙ ap (λ (ns : List ℤ). low ∷ ns) (integers_none (low +ℤ pos 1) high past))) (nothing_in low, tt)
rising_integers (suc d) low high e =
    let le : low ≤ℤ high = omega (arith, ints) in
    let next : high -ℤ (low +ℤ pos 1) ≡ pos d = omega (arith, ints) in
    subst (λ (ns : List ℤ). Different ns) (sym (integers_more low high le))
    (not_again low high, rising_integers d (low +ℤ pos 1) high next)

by_distance : (z low high : ℤ) → high -ℤ low ≡ z → Different (integers low high)
by_distance (pos d) low high e = rising_integers d low high e
by_distance (negsuc d) low high e =
    let less : high <ℤ low = omega (arith, ints) in
    subst (λ (ns : List ℤ). Different ns) (sym (integers_none low high less)) tt

different_between : (low high : Option ℤ) → Different (integers_between low high)
different_between (Some low) (Some high) = by_distance (high -ℤ low) low high refl
different_between (Some low) None = tt
different_between None high = tt

same_first : (n m : ℤ) (y : Chosen) (cs ds : List Chosen) → Contains (map (λ c. n ∷ c) cs) y → Contains (map (λ c. m ∷ c) ds) y → n ≡ m
same_first n m y cs ds a b =
    let p = map_parts (λ c. n ∷ c) cs y a in
    let q = map_parts (λ c. m ∷ c) ds y b in
    let same : n ∷ p.0 ≡ m ∷ q.0 = p.2 ∙ sym q.2 in
    cc

-- the list of the choices has each choice once
pub different_choices : (ranges : List Range) (before : Chosen) → Different (choices ranges before)
unfolding choices
different_choices [] before = (nothing_in [], tt)
different_choices (range ∷ ranges) before =
    different_flat (λ n. map (λ c. n ∷ c) (choices ranges (before ++ n ∷ []))) (integers_within before range)
    (λ (n : ℤ). different_map (λ c. n ∷ c) (choices ranges (before ++ n ∷ [])) (λ (c d : Chosen) (e : n ∷ c ≡ n ∷ d). let same : c ≡ d = cc in same) (different_choices ranges (before ++ n ∷ [])))
    (λ (n m : ℤ) (y : Chosen). same_first n m y (choices ranges (before ++ n ∷ [])) (choices ranges (before ++ m ∷ [])))
    (different_between (integer (value before range.low)) (integer (value before range.high)))

abbrev says_something : CoreRule → Chosen → Bool
says_something rule chosen = is_some (said_of rule chosen)

abbrev chosen_for : CoreRule → List Chosen
chosen_for rule = filter (says_something rule) (choices rule.conds.ranges [])

-- the copies of rules, the first of which has this place
abbrev copies_at : ℕ → List CoreRule → List Copy
copies_at n [] = []
copies_at n (rule ∷ rules) = map (λ c. record { place = n; chosen = c }) (chosen_for rule) ++ copies_at (n + 1) rules

kept_length : {X : Type 0} (o : Option X) (c : Chosen) (cs : List Chosen) (xs : List X) → length cs ≡ length xs → length (cond (is_some o) (c ∷ cs) cs) ≡ length (cons_option o xs)
kept_length None c cs xs e = e
kept_length (Some x) c cs xs e = omega arith

filter_length : (rule : CoreRule) (cs : List Chosen) → length (filter (says_something rule) cs) ≡ length (filter_map (said_of rule) cs)
filter_length rule [] = refl
filter_length rule (c ∷ cs) = kept_length (said_of rule c) c (filter (says_something rule) cs) (filter_map (said_of rule) cs) (filter_length rule cs)

length_copies : (n : ℕ) (rules : List CoreRule) → length (copies_at n rules) ≡ length (all_said rules)
length_copies n [] = refl
length_copies n (rule ∷ rules) =
    let made : Chosen → Copy = λ c. record { place = n; chosen = c } in
    omega (
      arith,
      length-append (map made (chosen_for rule)) (copies_at (n + 1) rules),
      length-map (chosen_for rule) made,
      filter_length rule (choices rule.conds.ranges []),
      length_copies (n + 1) rules,
      length-append (said_by_rule rule) (all_said rules),
    )

-- the rule at the place of a copy
record IsAt (n : ℕ) (rules : List CoreRule) (c : Copy) : Type 0 where
  pub after : ℕ
  pub place : c.place ≡ n + after
  pub copy : IsSomeAnd (slice_get rules after) (λ rule. IsCopy rule c.chosen)

copy_at : (n : ℕ) (rules : List CoreRule) → ArePlain rules → (c : Copy) → Contains (copies_at n rules) c → IsAt n rules c
copy_at n [] plain c h = absurd (nothing_in c h)
copy_at n (rule ∷ rules) plain c h =
    let made : Chosen → Copy = λ c. record { place = n; chosen = c } in
    elim (Contains-append_cases (map made (chosen_for rule)) (copies_at (n + 1) rules) c h) [
      | inl here ↦
          let from = map_parts made (chosen_for rule) c here in
          let kept = filter_parts (says_something rule) (choices rule.conds.ranges []) from.0 from.1 in
          let s = some_of (said_of rule from.0) kept.1 in
          let copy : IsCopy rule from.0 = says_copy rule from.0 s.0 (All-head (λ (r : CoreRule). r.aggs ≡ []) rule rules plain) (choices_from rule.conds.ranges [] from.0 kept.0) s.1 in
          subst (λ (d : Copy). IsAt n (rule ∷ rules) d) from.2 (record { after = 0; place = omega arith; copy = copy })
      | inr there ↦
          let at = copy_at (n + 1) rules (All-tail (λ (r : CoreRule). r.aggs ≡ []) rule rules plain) c there in
          record { after = suc at.after; place = omega (arith, at.place); copy = at.copy }
    ]

copy_among : (n : ℕ) (rules : List CoreRule) (c : Copy) (k : ℕ) → c.place ≡ n + k → IsSomeAnd (slice_get rules k) (λ rule. IsCopy rule c.chosen) → Contains (copies_at n rules) c
copy_among n [] c k e h = absurd h
copy_among n (rule ∷ rules) c zero e h =
    let made : Chosen → Copy = λ d. record { place = n; chosen = d } in
    let s = copy_says rule c.chosen h in
    let here : n ≡ c.place = omega arith in
    let same : made c.chosen ≡ c = ap (λ (p : ℕ). record { place = p; chosen = c.chosen }) here in
    Contains-append_left (map made (chosen_for rule)) (copies_at (n + 1) rules) c
    (subst (λ (d : Copy). Contains (map made (chosen_for rule)) d) same
    (Contains-map made (chosen_for rule) c.chosen (Contains-filter (says_something rule) (choices rule.conds.ranges []) c.chosen (choices_to rule.conds.ranges [] c.chosen h.within) (ap is_some s.1))))
copy_among n (rule ∷ rules) c (suc k) e h =
    Contains-append_right (map (λ d. record { place = n; chosen = d }) (chosen_for rule)) (copies_at (n + 1) rules) c (copy_among (n + 1) rules c k (omega arith) h)

different_copies : (n : ℕ) (rules : List CoreRule) → ArePlain rules → Different (copies_at n rules)
different_copies n [] plain = tt
different_copies n (rule ∷ rules) plain =
    let made : Chosen → Copy = λ c. record { place = n; chosen = c } in
    let rest = All-tail (λ (r : CoreRule). r.aggs ≡ []) rule rules plain in
    different_append (map made (chosen_for rule)) (copies_at (n + 1) rules)
    (different_map made (chosen_for rule) (λ (c d : Chosen) (e : made c ≡ made d). ap (λ (x : Copy). x.chosen) e)
    (different_filter (says_something rule) (choices rule.conds.ranges []) (different_choices rule.conds.ranges [])))
    (different_copies (n + 1) rules rest)
    (λ (x : Copy) (a : Contains (map made (chosen_for rule)) x) (b : Contains (copies_at (n + 1) rules) x).
    let p = map_parts made (chosen_for rule) x a in
    let place : n ≡ x.place = ap (λ (y : Copy). y.place) p.2 in
    let at = copy_at (n + 1) rules rest x b in
    omega (arith, place, at.place))

is_copy_of : (rules : List CoreRule) (c : Copy) → IsAt 0 rules c → IsCopyOf rules c
is_copy_of rules c at =
    let here : at.after ≡ c.place = omega (arith, at.place) in
    subst (λ (k : ℕ). IsSomeAnd (slice_get rules k) (λ rule. IsCopy rule c.chosen)) here at.copy

-- Where the rules say more than there may be, they have too many copies.
pub too_many : (rules : List CoreRule) → ArePlain rules → most_copies < length (all_said rules) → HasTooManyCopies rules
too_many rules plain many = record {
  copies = copies_at 0 rules;
  elements = [];
  are_copies = all_from (IsCopyOf rules) (copies_at 0 rules) (λ (c : Copy) (h : Contains (copies_at 0 rules) c). is_copy_of rules c (copy_at 0 rules plain c h));
  are_elements = All-nil (IsElementCopyOf rules);
  copies_once = different_pairs (copies_at 0 rules) (different_copies 0 rules plain);
  elements_once = different_pairs [] tt;
  many = omega (arith, length_copies 0 rules);
}

no_element : (o : Option CoreRule) (e : ElementCopy) → ((rule : CoreRule) → o ≡ Some rule → rule.aggs ≡ []) → IsSomeAnd o (λ rule. IsElementCopyIn rule e) → ⊥
no_element None e plain h = h
no_element (Some rule) e plain h = subst (λ (aggs : List Agg). IsSomeAnd (slice_get aggs e.aggregate) (λ a. IsSomeAnd (slice_get a.elements e.element) (λ element. IsElementCopy e.of.chosen element e.chosen))) (plain rule refl) h

at_place : {X : Type 0} (xs : List X) (k : ℕ) (x : X) → slice_get xs k ≡ Some x → Contains xs x
at_place [] k x e = cc
at_place {X} (y ∷ ys) zero x e = let same : y ≡ x = cc in subst (λ (z : X). Contains (y ∷ ys) z) same (Contains-first y ys)
at_place (y ∷ ys) (suc k) x e = Contains-behind y ys x (at_place ys k x e)

no_elements : (rules : List CoreRule) → ArePlain rules → (es : List ElementCopy) → All (IsElementCopyOf rules) es → length es ≡ 0
no_elements rules plain [] h = refl
no_elements rules plain (e ∷ es) h =
    absurd (no_element (slice_get rules e.of.place) e (λ (rule : CoreRule) (is : slice_get rules e.of.place ≡ Some rule). All-contains (λ (r : CoreRule). r.aggs ≡ []) rules rule plain (at_place rules e.of.place rule is))
    (All-head (IsElementCopyOf rules) e es h).1)

-- Where they don't, there are not too many.
pub not_too_many : (rules : List CoreRule) → ArePlain rules → length (all_said rules) ≤ most_copies → ¬ HasTooManyCopies rules
not_too_many rules plain few h =
    let none : length h.elements ≡ 0 = no_elements rules plain h.elements h.are_elements in
    let fits : length h.copies ≤ length (copies_at 0 rules) =
    no_longer h.copies (copies_at 0 rules) (pairs_different h.copies h.copies_once) (λ (c : Copy) (among : Contains h.copies c).
    copy_among 0 rules c c.place (omega arith) (All-contains (IsCopyOf rules) h.copies c h.are_copies among)) in
    let many : most_copies < length h.copies + length h.elements = h.many in
    omega (arith, length_copies 0 rules)
