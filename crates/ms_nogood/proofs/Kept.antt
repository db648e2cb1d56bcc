-- The order of the kept keys, and what trimming leaves.
use Rattle.std.proofs.Common.{ℕ, ◌≡◌, ◌<◌, ◌+◌, ◌≤◌, ◌-◌, ◌⊎◌, inl, inr, zero, suc, List, Option, None, true, length, get_or, take, drop, sym, ◌∙◌, ap, subst, arith}
use Rattle.std.proofs.lemmas.Bool.{cases_eq, cases_lt, both_ways}
use Rattle.std.proofs.lemmas.List.{length-drop, get_or-drop, get_or-take, get_or_default, length-take-le}
use Rattle.ms_nogood.specs.Store.{Stored, Store, IsStore, ends, holds_kept, Trims}

-- The nogoods of the first kept keys are dropped, and all else is as it was.
pub record Dropped (kept : List ℕ) (old new : List (Option Stored)) (count : ℕ) : Type 0 where
  pub dropped : (k : ℕ) → k < count → get_or new (get_or kept k 0) None ≡ None
  pub others : (key : ℕ) → ((k : ℕ) → k < count → get_or kept k 0 ≡ key → ⊥) → get_or new key None ≡ get_or old key None

pub dropped_none : (kept : List ℕ) (slots : List (Option Stored)) (i : ℕ) → i ≡ 0 → Dropped kept slots slots i
dropped_none kept slots i start = record {
  dropped = λ k lt. absurd (omega arith);
  others = λ key absent i. get_or slots key None;
}

pub dropped_more : (kept : List ℕ) (old mid new : List (Option Stored)) (i key : ℕ) → Dropped kept old mid i → i < length kept → key ≡ get_or kept i key → get_or new key None ≡ None → ((other : ℕ) → (other ≡ key → ⊥) → get_or new other None ≡ get_or mid other None) → Dropped kept old new (i + 1)
dropped_more kept old mid new i key d within read changed rest =
    let is : key ≡ get_or kept i 0 = read ∙ get_or_default kept i key 0 within in
    record {
      dropped = λ k lt. elim (cases_eq (get_or kept k 0) key) [
        | inl same ↦ ap (λ x. get_or new x None) same ∙ changed
        | inr other ↦ (
            let before : k < i = elim (cases_lt k i) [
              | inl b ↦ b
              | inr late ↦ (let at : k ≡ i = omega arith in absurd (other (ap (λ x. get_or kept x 0) at ∙ sym is)))
            ] in
            rest (get_or kept k 0) other ∙ d.dropped k before)
      ];
      others = λ other absent.
          rest other (λ same. absent i (omega arith) (sym is ∙ sym same))
          ∙ d.others other (λ k lt here. absent k (omega arith) here);
    }

-- a key is one of the first ones, or none of them
found_or_absent : (kept : List ℕ) (key count : ℕ) → ((k : ℕ) × (k < count) × (get_or kept k 0 ≡ key)) ⊎ ((k : ℕ) → k < count → get_or kept k 0 ≡ key → ⊥)
found_or_absent kept key zero = inr (λ k lt. absurd (omega arith))
found_or_absent kept key (suc n) = elim (found_or_absent kept key n) [
  | inl at ↦ inl (at.0, (let lt = at.1 in omega (arith, lt)), at.2)
  | inr absent ↦ elim (cases_eq (get_or kept n 0) key) [
    | inl here ↦ inl (n, omega arith, here)
    | inr other ↦ inr (λ k lt same. elim (cases_lt k n) [
      | inl before ↦ absent k before same
      | inr late ↦ (let at : k ≡ n = omega arith in other (ap (λ x. get_or kept x 0) (sym at) ∙ same))
    ])
  ]
]

-- each key is dropped or stays as it is
pub dropped_or_same : (kept : List ℕ) (old new : List (Option Stored)) (count key : ℕ) → Dropped kept old new count → (get_or new key None ≡ None) ⊎ (get_or new key None ≡ get_or old key None)
dropped_or_same kept old new count key d = elim (found_or_absent kept key count) [
  | inl at ↦ inl (ap (λ k. get_or new k None) (sym at.2) ∙ d.dropped at.0 at.1)
  | inr absent ↦ inr (d.others key absent)
]

pub trimmed_store : (old new : List (Option Stored)) (kept left passing : List ℕ) (count capacity room : ℕ) → IsStore old kept passing capacity → room ≡ capacity → count ≤ length kept → left ≡ drop count kept → Dropped kept old new count → IsStore new left passing room
trimmed_store old new kept left passing count capacity room s same below lefts d =
    let o = s.order in
    let gone : (k : ℕ) → k < count → holds_kept (get_or new (get_or kept k 0) None) ≡ true → ⊥ = λ k lt here. both_ways (holds_kept (get_or new (get_or kept k 0) None)) (ap holds_kept (d.dropped k lt)) here in
    let len : length left ≡ length kept - count = ap length lefts ∙ length-drop count kept in
    let at : (i : ℕ) (e : ℕ) → get_or left i e ≡ get_or kept (count + i) e = λ i e. ap (λ xs. get_or xs i e) lefts ∙ get_or-drop count kept i e in
    record {
      ended = λ key high.
          let free = s.ended key (omega arith) in
          d.others key (λ k lt here.
          both_ways (holds_kept (get_or old key None)) (ap holds_kept free)
          (ap (λ x. holds_kept (get_or old x None)) (sym here) ∙ o.all_kept k 0 (omega arith)))
          ∙ free;
      order = record {
        all_kept = λ i e lt.
            let inside : count + i < length kept = omega arith in
            let stays = d.others (get_or kept (count + i) e) (λ k early here.
            let k_inside : k < length kept = omega arith in
            let clash : k ≡ count + i = o.once k (count + i) e k_inside inside (sym (get_or_default kept k 0 e k_inside) ∙ here) in
            omega arith) in
            ap (λ x. holds_kept (get_or new x None)) (at i e) ∙ ap holds_kept stays ∙ o.all_kept (count + i) e inside;
        every_one = λ key here.
            let stays = d.others key (λ k lt is. gone k lt (ap (λ x. holds_kept (get_or new x None)) is ∙ here)) in
            let found = o.every_one key (ap holds_kept (sym stays) ∙ here) in
            elim (cases_lt found.0 count) [
              | inl early ↦ absurd (gone found.0 early (ap (λ x. holds_kept (get_or new x None)) (get_or_default kept found.0 0 key found.1 ∙ found.2) ∙ here))
              | inr late ↦ (
                  let k : ℕ = found.0 in
                  let lt : k < length kept = found.1 in
                  let back : count + (k - count) ≡ k = omega arith in
                  (k - count, omega arith, at (k - count) key ∙ ap (λ x. get_or kept x key) back ∙ found.2))
            ];
        once = λ i k e i_in k_in alike.
            let equal : count + i ≡ count + k = o.once (count + i) (count + k) e (omega arith) (omega arith) (sym (at i e) ∙ alike ∙ at k e) in
            omega arith;
      };
      covered = λ key here. elim (dropped_or_same kept old new count key d) [
        | inl gone ↦ absurd (both_ways (ends (get_or new key None)) (ap ends gone) here)
        | inr stays ↦ s.covered key (ap ends (sym stays) ∙ here)
      ];
    }

pub trims_made : (old new : Store) (keep count : ℕ) → count ≡ length old.kept - keep → new.kept ≡ drop count old.kept → new.fresh ≡ old.fresh → Dropped old.kept old.slots new.slots count → Trims old new keep
trims_made old new keep count is lefts fresh d =
    let within : length old.kept - keep ≤ length old.kept = omega arith in
    let n : ℕ = length old.kept - keep in
    let e : Dropped old.kept old.slots new.slots n = subst (Dropped old.kept old.slots new.slots) is d in
    let read : (k : ℕ) (x : ℕ) → k < n → get_or (take n old.kept) k x ≡ get_or old.kept k 0 = λ k x lt. get_or-take n old.kept k x lt ∙ get_or_default old.kept k x 0 (omega arith) in
    let len : length (take n old.kept) ≡ n = length-take-le n old.kept within in
    record {
      kept = lefts ∙ ap (λ x. drop x old.kept) is;
      dropped = λ k x lt.
          let small : k < n = omega arith in
          ap (λ y. get_or new.slots y None) (read k x small) ∙ e.dropped k small;
      others = λ key absent. e.others key (λ k lt here. absent (k, omega arith, read k key lt ∙ here));
      fresh = fresh;
    }
