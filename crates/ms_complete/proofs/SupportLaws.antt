-- Supports of heads.
use Rattle.std.proofs.Common.{leb, ltb, leb-true, le-leb, ◌≡◌, ◌∙◌, ◌+◌, ◌-◌, ◌<◌, ◌≤◌, ℕ, min, map, true, false, List, [], ◌∷◌, ◌++◌, Some, None, take, drop, length, get_or, refl, sym, ap, subst, inl, inr, arith}
use Rattle.std.specs.Prelude.{◌↔◌}
use Rattle.std.specs.List.{Contains}
use Rattle.std.specs.List.Sorted.{IsPermutation, IsPartitionPoint}
use Rattle.std.proofs.lemmas.Bool.{cases_lt, false≢true}
use Rattle.std.proofs.lemmas.Bool.Decides.{Decides-ltb}
use Rattle.std.proofs.lemmas.List.{get_or_default, get_or-drop, get_or-take, length-drop, length-take, map-append}
use Rattle.std.proofs.lemmas.List.Elements.{Contains-append_left, Contains-push, Contains-push_cases}
use Rattle.std.proofs.lemmas.List.Sorted.{Contains-permutation, IsPermutation-sym}
use Rattle.ms_complete.specs.declared.key.NumberedRule.{NumberedRule}
use Rattle.ms_complete.specs.declared.key.Support.{Support}
use Rattle.ms_complete.specs.Rules.{IsSupport, AreSupports, AreOwn, HeadSays, head_lits, holds, fails}
use Rattle.ms_complete.specs.Bases.{AddsExactly}
use Rattle.ms_complete.specs.Sets.{Writes}
use Rattle.ms_lits.specs.declared.lit.Lit.{Lit}
use Rattle.ms_nogood.specs.Store.{Store}
use Rattle.ms_complete.proofs.Lists.{any_left, any_more_cases, any_right, any_here, any_none, member_none, member_here, member_later, member_cases, member_map, member_map_cases, next_one, same_some, none_is_some}
use Rattle.ms_complete.proofs.Stores.{adds_same}
use Rattle.ms_complete.proofs.Writing.{writes_same}

pub supports_none : AreSupports [] []
supports_none = record {
  each = λ s has. absurd (member_none s has);
  all = λ s some. absurd (any_none (λ r. IsSupport r s) some);
}

-- a rule without a head
pub supports_same : (rules : List NumberedRule) (r : NumberedRule) (supports : List Support) → r.head ≡ None → AreSupports rules supports → AreSupports (rules ++ r ∷ []) supports
supports_same rules r supports is are = record {
  each = λ s has. any_left (λ q. IsSupport q s) rules (r ∷ []) (are.each s has);
  all = λ s some. elim (any_more_cases (λ q. IsSupport q s) rules r some) [
    | inl before ↦ are.all s before
    | inr last ↦ absurd (none_is_some s.head (sym is ∙ last.0))
  ];
}

-- a rule with a head
pub supports_more : (rules : List NumberedRule) (r : NumberedRule) (supports : List Support) (h : ℕ) → r.head ≡ Some h → AreSupports rules supports
    → AreSupports (rules ++ r ∷ []) (supports ++ record { head = h; body = r.body } ∷ [])
supports_more rules r supports h is are =
    let new : Support = record { head = h; body = r.body } in
    record {
      each = λ s has. elim (Contains-push_cases supports new s has) [
        | inl before ↦ any_left (λ q. IsSupport q s) rules (r ∷ []) (are.each s before)
        | inr last ↦ any_right (λ q. IsSupport q s) rules (r ∷ []) (any_here (λ q. IsSupport q s) r [] (subst (IsSupport r) last (is, refl)))
      ];
      all = λ s some. elim (any_more_cases (λ q. IsSupport q s) rules r some) [
        | inl before ↦ Contains-append_left supports (new ∷ []) s (are.all s before)
        | inr last ↦
            let head : h ≡ s.head = same_some h s.head (sym is ∙ last.0) in
            let by_head : ℕ → Support = λ n. record { head = n; body = r.body } in
            let by_body : ℕ → Support = λ n. record { head = s.head; body = n } in
            subst (Contains (supports ++ new ∷ [])) (ap by_head head ∙ ap by_body last.1) (Contains-push supports new)
      ];
    }

pub supports_moved : (rules : List NumberedRule) (supports others : List Support) → IsPermutation supports others → AreSupports rules supports → AreSupports rules others
supports_moved rules supports others moved are = record {
  each = λ s has. are.each s (Contains-permutation others supports s (IsPermutation-sym supports others moved) has);
  all = λ s some. Contains-permutation supports others s moved (are.all s some);
}

-- Where the supports of one head begin and end among supports in the order of their heads.
module _ (supports : List Support) (head first end : ℕ)
    (below : (k : ℕ) (d : Support) → k < first → (get_or supports k d).head < head) (least : (k : ℕ) (d : Support) → first ≤ k → k < length supports → head ≤ (get_or supports k d).head)
    (up_to : (k : ℕ) (d : Support) → k < end → (get_or supports k d).head ≤ head) (above : (k : ℕ) (d : Support) → end ≤ k → k < length supports → head < (get_or supports k d).head) where
  pub in_order : first ≤ length supports → first ≤ end
  in_order within = elim (cases_lt end first) [
    | inl less ↦
        let d : Support = record { head = 0; body = 0 } in
        let inside : end < length supports = omega (arith, less, within) in
        let low : (get_or supports end d).head < head = below end d less in
        let itself : end ≤ end = omega arith in
        let high : head < (get_or supports end d).head = above end d itself inside in
        absurd (omega (arith, low, high))
    | inr order ↦ order
  ]

  part_at : (k : ℕ) (d : Support) → k < end - first → get_or (take (end - first) (drop first supports)) k d ≡ get_or supports (first + k) d
  part_at k d less = get_or-take (end - first) (drop first supports) k d less ∙ get_or-drop first supports k d

  pub own_part : end ≤ length supports → (s : Support) → Contains (take (end - first) (drop first supports)) s ↔ (Contains supports s × (s.head ≡ head))
  own_part within s = (
    λ (k, inside, at).
        let long : length (take (end - first) (drop first supports)) ≡ min (end - first) (length (drop first supports)) = length-take (end - first) (drop first supports) in
        let less : k < end - first = omega (arith, inside, long) in
        let there : get_or supports (first + k) s ≡ s = sym (part_at k s less) ∙ at in
        let is_in : first + k < length supports = omega (arith, less, within) in
        let from_first : first ≤ first + k = omega arith in
        let before_end : first + k < end = omega (arith, less) in
        let low : head ≤ (get_or supports (first + k) s).head = least (first + k) s from_first is_in in
        let high : (get_or supports (first + k) s).head ≤ head = up_to (first + k) s before_end in
        let same : (get_or supports (first + k) s).head ≡ s.head = ap (λ (t : Support). t.head) there in
        ((first + k, is_in, there), omega (arith, low, high, same)),
    λ ((k, inside, at), is_head).
        let same : (get_or supports k s).head ≡ s.head = ap (λ (t : Support). t.head) at in
        let from_first : first ≤ k = elim (cases_lt k first) [
          | inl less ↦ let low : (get_or supports k s).head < head = below k s less in absurd (omega (arith, low, same, is_head))
          | inr order ↦ order
        ] in
        let before_end : k < end = elim (cases_lt k end) [
          | inl less ↦ less
          | inr order ↦ let high : head < (get_or supports k s).head = above k s order inside in absurd (omega (arith, high, same, is_head))
        ] in
        let place : first + (k - first) ≡ k = omega (arith, from_first) in
        let less : k - first < end - first = omega (arith, from_first, before_end) in
        let dropped : length (drop first supports) ≡ length supports - first = length-drop first supports in
        let long : length (take (end - first) (drop first supports)) ≡ min (end - first) (length (drop first supports)) = length-take (end - first) (drop first supports) in
        (k - first, omega (arith, less, dropped, long, inside, from_first), part_at (k - first) s less ∙ (ap (λ (i : ℕ). get_or supports i s) place ∙ at)),
  )

-- the literals of a head and its supports, and the next one
pub lits_next : (head : ℕ) (own : List Support) (lits nexts : List Lit) (i : ℕ) (s : Support) → i < length own → s ≡ get_or own i s → lits ≡ head_lits head (take i own)
    → nexts ≡ lits ++ fails s.body ∷ [] → nexts ≡ head_lits head (take (i + 1) own)
lits_next head own lits nexts i s within is before pushed =
    pushed ∙ (ap (λ (ls : List Lit). ls ++ fails s.body ∷ []) before
    ∙ sym (ap (head_lits head) (next_one own i s within is) ∙ ap (λ (ls : List Lit). holds head ∷ ls) (map-append (λ (t : Support). fails t.body) (take i own) (s ∷ []))))

own_members : (supports : List Support) (head : ℕ) (own other : List Support) → AreOwn supports head own → AreOwn supports head other → (x : Lit) → Contains (head_lits head other) x → Contains (head_lits head own) x
own_members supports head own other are also x has = elim (member_cases (holds head) x (map (λ (t : Support). fails t.body) other) has) [
  | inl same ↦ subst (Contains (head_lits head own)) same (member_here (holds head) (map (λ (t : Support). fails t.body) own))
  | inr later ↦
      let (s, among, same) = member_map_cases (λ (t : Support). fails t.body) other x later in
      subst (Contains (head_lits head own)) same
      (member_later (holds head) (fails s.body) (map (λ (t : Support). fails t.body) own) (member_map (λ (t : Support). fails t.body) own s ((are s).1 ((also s).0 among))))
]

-- what adding the set of a head and its supports adds
pub head_added : (supports : List Support) (head : ℕ) (own : List Support) (lits : List Lit) (old new : Store) → AreOwn supports head own → lits ≡ head_lits head own
    → AddsExactly old new (Writes lits) → AddsExactly old new (HeadSays supports head)
head_added supports head own lits old new are is adds =
    adds_same old new (Writes (head_lits head own)) (HeadSays supports head) (subst (λ (ls : List Lit). AddsExactly old new (Writes ls)) is adds)
    (λ n writes. (own, are, writes))
    (λ n (other, also, writes). writes_same (head_lits head other) (head_lits head own) (λ x has. own_members supports head own other are also x has) (λ x has. own_members supports head other own also are x has) n writes)

-- the supports of the rules of a loop and of the next one
pub supports_same_at : (rules : List NumberedRule) (supports : List Support) (i : ℕ) (d : NumberedRule) → i < length rules → (get_or rules i d).head ≡ None → AreSupports (take i rules) supports
    → AreSupports (take (i + 1) rules) supports
supports_same_at rules supports i d within is are =
    subst (λ (rs : List NumberedRule). AreSupports rs supports) (sym (next_one rules i (get_or rules i d) within (get_or_default rules i d (get_or rules i d) within)))
    (supports_same (take i rules) (get_or rules i d) supports is are)

pub supports_more_at : (rules : List NumberedRule) (supports nexts : List Support) (i : ℕ) (d : NumberedRule) (h : ℕ) → i < length rules → (get_or rules i d).head ≡ Some h → AreSupports (take i rules) supports
    → nexts ≡ supports ++ record { head = h; body = (get_or rules i d).body } ∷ [] → AreSupports (take (i + 1) rules) nexts
supports_more_at rules supports nexts i d h within is are pushed =
    subst (λ (ss : List Support). AreSupports (take (i + 1) rules) ss) (sym pushed)
    (subst (λ (rs : List NumberedRule). AreSupports rs (supports ++ record { head = h; body = (get_or rules i d).body } ∷ [])) (sym (next_one rules i (get_or rules i d) within (get_or_default rules i d (get_or rules i d) within)))
    (supports_more (take i rules) (get_or rules i d) supports h is are))

pub lits_next_at : (head : ℕ) (own : List Support) (lits nexts : List Lit) (i : ℕ) (d : Support) → i < length own → lits ≡ head_lits head (take i own)
    → nexts ≡ lits ++ fails (get_or own i d).body ∷ [] → nexts ≡ head_lits head (take (i + 1) own)
lits_next_at head own lits nexts i d within before pushed = lits_next head own lits nexts i (get_or own i d) within (get_or_default own i d (get_or own i d) within) before pushed

lt_false : (a b : ℕ) → ltb a b ≡ false → b ≤ a
lt_false a b e = elim (cases_lt a b) [
  | inl less ↦ absurd (false≢true (sym e ∙ (Decides-ltb a b).1 less))
  | inr order ↦ order
]

le_false : (a b : ℕ) → leb a b ≡ false → b < a
le_false a b e = elim (cases_lt b a) [
  | inl less ↦ less
  | inr order ↦ absurd (false≢true (sym e ∙ le-leb a b order))
]

-- the same by the places where the tests of the heads turn
module _ (supports : List Support) (head first end : ℕ) (low : IsPartitionPoint (λ (s : Support). ltb s.head head ≡ true) (λ (s : Support). ltb s.head head ≡ false) supports first)
    (high : IsPartitionPoint (λ (s : Support). leb s.head head ≡ true) (λ (s : Support). leb s.head head ≡ false) supports end) where
  below_first : (k : ℕ) (d : Support) → k < first → (get_or supports k d).head < head
  below_first k d less = (Decides-ltb (get_or supports k d).head head).0 (low.0 k d (omega arith) less)

  from_first : (k : ℕ) (d : Support) → first ≤ k → k < length supports → head ≤ (get_or supports k d).head
  from_first k d least within = lt_false (get_or supports k d).head head (low.1 k d least within)

  below_end : (k : ℕ) (d : Support) → k < end → (get_or supports k d).head ≤ head
  below_end k d less = leb-true (get_or supports k d).head head (high.0 k d (omega arith) less)

  from_end : (k : ℕ) (d : Support) → end ≤ k → k < length supports → head < (get_or supports k d).head
  from_end k d least within = le_false (get_or supports k d).head head (high.1 k d least within)

  pub range_order : first ≤ length supports → first ≤ end
  range_order within = in_order supports head first end below_first from_first below_end from_end within

  pub range_own : end ≤ length supports → (s : Support) → Contains (take (end - first) (drop first supports)) s ↔ (Contains supports s × (s.head ≡ head))
  range_own within s = own_part supports head first end below_first from_first below_end from_end within s
