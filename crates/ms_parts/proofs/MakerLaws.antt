-- What makers make where there are ranges before.
use Rattle.std.proofs.Common.{◌≡◌, ℕ, ℤ, ◌+◌, ◌<◌, List, [], ◌∷◌, ◌++◌, map, length, take, get_or, refl, sym, ap, ◌∙◌, subst, arith}
use Rattle.std.proofs.lemmas.List.{append_assoc, append-nil, map-append, length-append, take_more}
use Rattle.ms_tree.specs.declared.op.Op.{Op}
use Rattle.ms_grammar.specs.declared.term.TextTerm.{TextTerm}
use Rattle.ms_grammar.specs.declared.term.TextTerm as text
use Rattle.ms_grammar.specs.declared.term.TextTerm.TheOpen.{TextTerm-F}
use Rattle.ms_grammar.specs.declared.term.TextTerm.TheVariants as variants
use Rattle.ms_grammar.specs.declared.term.TextTerm.TheFolds.{fold-roll-TextTerm}
use Rattle.ms_core.specs.declared.pattern.Pattern.{Pattern, Range as ChosenOf, Neg, Abs, Binary}
use Rattle.ms_core.specs.declared.rule.Range.{Range}
use Rattle.ms_core.specs.Ranges.{Maker, mapped, then_with, in_order, range_of, chosen_of, ranged_step, ranged, all_ranged}
use Rattle.ms_parts.specs.Makers.{IsMade}

-- the place of the next range behind those of a maker
next_place : (first : ℕ) (old more mid : List Range) → mid ≡ old ++ more → first + length mid ≡ (first + length old) + length more
next_place first old more mid e =
    let all : length mid ≡ length old + length more = ap length e ∙ length-append old more in
    omega (arith, all)

pub made_none : {T : Type 0} (v : T) (first : ℕ) (old : List Range) → IsMade (λ n. record { value = v; ranges = [] }) first old v old
made_none v first old = record { value_is = refl; ranges_are = sym (append-nil old) }

pub made_mapped : {A B : Type 0} (f : A → B) (m : Maker A) (first : ℕ) (old : List Range) (x : A) (new : List Range) → IsMade m first old x new → IsMade (mapped f m) first old (f x) new
made_mapped f m first old x new made = record { value_is = ap f made.value_is; ranges_are = made.ranges_are }

pub made_then : {A B C : Type 0} (f : A → B → C) (a : Maker A) (b : Maker B) (first : ℕ) (old : List Range) (x : A) (mid : List Range) (y : B) (new : List Range) → IsMade a first old x mid → IsMade b first mid y new → IsMade (then_with f a b) first old (f x y) new
made_then f a b first old x mid y new one two =
    let n = first + length old in
    let at : first + length mid ≡ n + length (a n).ranges = next_place first old (a n).ranges mid one.ranges_are in
    record {
      value_is = ap (λ z. f z y) one.value_is ∙ ap (f (a n).value) (two.value_is ∙ ap (λ k. (b k).value) at);
      ranges_are = two.ranges_are
          ∙ ap (λ k. mid ++ (b k).ranges) at
          ∙ ap (λ m. m ++ (b (n + length (a n).ranges)).ranges) one.ranges_are
          ∙ append_assoc old (a n).ranges (b (n + length (a n).ranges)).ranges;
    }

pub made_chosen : (ends : Maker Range) (first : ℕ) (old : List Range) (range : Range) (mid : List Range) (number : ℕ) (new : List Range) → IsMade ends first old range mid → number ≡ first + length mid → new ≡ mid ++ range ∷ [] → IsMade (chosen_of ends) first old (ChosenOf number) new
made_chosen ends first old range mid number new made is e =
    let n = first + length old in
    let at : first + length mid ≡ n + length (ends n).ranges = next_place first old (ends n).ranges mid made.ranges_are in
    record {
      value_is = ap ChosenOf (is ∙ at);
      ranges_are = e
          ∙ ap (λ r. mid ++ r ∷ []) made.value_is
          ∙ ap (λ m. m ++ (ends n).value ∷ []) made.ranges_are
          ∙ append_assoc old (ends n).ranges ((ends n).value ∷ []);
    }

-- makers in order, and one more
in_order_push : {A : Type 0} (makes : List (Maker A)) (make : Maker A) (n : ℕ) → in_order (makes ++ make ∷ []) n ≡ then_with (λ xs x. xs ++ x ∷ []) (in_order makes) make n
unfolding in_order
in_order_push [] make n =
    let at : n ≡ n + 0 = omega arith in
    ap (λ r. record { value = (make n).value ∷ []; ranges = r }) (append-nil (make n).ranges)
    ∙ ap (λ k. record { value = (make k).value ∷ []; ranges = (make k).ranges }) at
in_order_push (m ∷ makes) make n =
    let next = n + length (m n).ranges in
    let before = in_order makes next in
    let at : next + length before.ranges ≡ n + length ((m n).ranges ++ before.ranges) =
    let both : length ((m n).ranges ++ before.ranges) ≡ length (m n).ranges + length before.ranges = length-append (m n).ranges before.ranges in
    omega (arith, both) in
    ap (λ r. record { value = (m n).value ∷ r.value; ranges = (m n).ranges ++ r.ranges }) (in_order_push makes make next)
    ∙ ap (λ k. record { value = (m n).value ∷ before.value ++ (make k).value ∷ []; ranges = (m n).ranges ++ (before.ranges ++ (make k).ranges) }) at
    ∙ ap (λ r. record { value = (m n).value ∷ before.value ++ (make (n + length ((m n).ranges ++ before.ranges))).value ∷ []; ranges = r }) (sym (append_assoc (m n).ranges before.ranges (make (n + length ((m n).ranges ++ before.ranges))).ranges))

made_alike : {T : Type 0} (a b : Maker T) → ((n : ℕ) → a n ≡ b n) → (first : ℕ) (old : List Range) (x : T) (new : List Range) → IsMade a first old x new → IsMade b first old x new
made_alike a b same first old x new made = record {
  value_is = made.value_is ∙ ap (λ r. r.value) (same (first + length old));
  ranges_are = made.ranges_are ∙ ap (λ r. old ++ r.ranges) (same (first + length old));
}

pub made_next : (ts : List TextTerm) (i : ℕ) (t : TextTerm) (first : ℕ) (old : List Range) (made : List Pattern) (mid : List Range) (p : Pattern) (new : List Range) → i < length ts → t ≡ get_or ts i t → IsMade (all_ranged (take i ts)) first old made mid → IsMade (ranged t) first mid p new → IsMade (all_ranged (take (i + 1) ts)) first old (made ++ p ∷ []) new
made_next ts i t first old made mid p new inside is so_far one =
    let up : take (i + 1) ts ≡ take i ts ++ t ∷ [] = take_more ts i t inside ∙ ap (λ y. take i ts ++ y ∷ []) (sym is) in
    let same : (n : ℕ) → then_with (λ xs x. xs ++ x ∷ []) (all_ranged (take i ts)) (ranged t) n ≡ all_ranged (take (i + 1) ts) n = λ n.
    sym (in_order_push (map ranged (take i ts)) (ranged t) n)
    ∙ ap (λ l. in_order l n) (sym (map-append ranged (take i ts) (t ∷ [])))
    ∙ ap (λ l. all_ranged l n) (sym up) in
    made_alike (then_with (λ xs x. xs ++ x ∷ []) (all_ranged (take i ts)) (ranged t)) (all_ranged (take (i + 1) ts)) same first old (made ++ p ∷ []) new
    (made_then (λ xs x. xs ++ x ∷ []) (all_ranged (take i ts)) (ranged t) first old made mid p new so_far one)

pub made_no_terms : (first : ℕ) (old : List Range) → IsMade (all_ranged []) first old [] old
unfolding in_order
made_no_terms first old = record { value_is = refl; ranges_are = sym (append-nil old) }

-- the maker of each term
ranged_number : (n : ℤ) → ranged (text.Number n) ≡ ranged_step (TextTerm-F.Number n)
ranged_number n = ap ranged (sym (variants.rolls-Number n)) ∙ fold-roll-TextTerm (Maker Pattern) ranged_step (TextTerm-F.Number n)

ranged_text : (s : List ℕ) → ranged (text.Text s) ≡ ranged_step (TextTerm-F.Text s)
ranged_text s = ap ranged (sym (variants.rolls-Text s)) ∙ fold-roll-TextTerm (Maker Pattern) ranged_step (TextTerm-F.Text s)

ranged_function : (f : List ℕ) (lists : List (List TextTerm)) → ranged (text.Function f lists) ≡ ranged_step (TextTerm-F.Function f (map (map ranged) lists))
ranged_function f lists = ap ranged (sym (variants.rolls-Function f lists)) ∙ fold-roll-TextTerm (Maker Pattern) ranged_step (TextTerm-F.Function f lists)

ranged_pool : (ts : List TextTerm) → ranged (text.Pool ts) ≡ ranged_step (TextTerm-F.Pool (map ranged ts))
ranged_pool ts = ap ranged (sym (variants.rolls-Pool ts)) ∙ fold-roll-TextTerm (Maker Pattern) ranged_step (TextTerm-F.Pool ts)

ranged_interval : (low high : TextTerm) → ranged (text.Interval low high) ≡ chosen_of (then_with range_of (ranged low) (ranged high))
ranged_interval low high = ap ranged (sym (variants.rolls-Interval low high)) ∙ fold-roll-TextTerm (Maker Pattern) ranged_step (TextTerm-F.Interval low high)

ranged_neg : (t : TextTerm) → ranged (text.Neg t) ≡ mapped Neg (ranged t)
ranged_neg t = ap ranged (sym (variants.rolls-Neg t)) ∙ fold-roll-TextTerm (Maker Pattern) ranged_step (TextTerm-F.Neg t)

ranged_abs : (t : TextTerm) → ranged (text.Abs t) ≡ mapped Abs (ranged t)
ranged_abs t = ap ranged (sym (variants.rolls-Abs t)) ∙ fold-roll-TextTerm (Maker Pattern) ranged_step (TextTerm-F.Abs t)

ranged_binary : (op : Op) (l r : TextTerm) → ranged (text.Binary op l r) ≡ then_with (Binary op) (ranged l) (ranged r)
ranged_binary op l r = ap ranged (sym (variants.rolls-Binary op l r)) ∙ fold-roll-TextTerm (Maker Pattern) ranged_step (TextTerm-F.Binary op l r)

module _ (first : ℕ) (old : List Range) (x : Pattern) (mid : List Range) (y : Pattern) (next : List Range) where
  both_made : {A : Type 0} (f : Pattern → Pattern → A) (l r left right : TextTerm) → left ≡ l → right ≡ r → IsMade (ranged left) first old x mid → IsMade (ranged right) first mid y next → IsMade (then_with f (ranged l) (ranged r)) first old (f x y) next
  both_made f l r left right is_left is_right one two =
      made_then f (ranged l) (ranged r) first old x mid y next
      (subst (λ (s : TextTerm). IsMade (ranged s) first old x mid) is_left one)
      (subst (λ (s : TextTerm). IsMade (ranged s) first mid y next) is_right two)

  pub made_interval : (t l r left right : TextTerm) (number : ℕ) (new : List Range) → t ≡ text.Interval l r → left ≡ l → right ≡ r → IsMade (ranged left) first old x mid → IsMade (ranged right) first mid y next → number ≡ first + length next → new ≡ next ++ range_of x y ∷ [] → IsMade (ranged t) first old (ChosenOf number) new
  made_interval t l r left right number new is is_left is_right one two at pushed =
      subst (λ (m : Maker Pattern). IsMade m first old (ChosenOf number) new) (sym (ap ranged is ∙ ranged_interval l r))
      (made_chosen (then_with range_of (ranged l) (ranged r)) first old (range_of x y) next number new (both_made range_of l r left right is_left is_right one two) at pushed)

  pub made_binary : (t l r left right : TextTerm) (op : Op) (a b : Pattern) → t ≡ text.Binary op l r → left ≡ l → right ≡ r → IsMade (ranged left) first old x mid → IsMade (ranged right) first mid y next → a ≡ x → b ≡ y → IsMade (ranged t) first old (Binary op a b) next
  made_binary t l r left right op a b is is_left is_right one two is_a is_b =
      subst (λ (m : Maker Pattern). IsMade m first old (Binary op a b) next) (sym (ap ranged is ∙ ranged_binary op l r))
      (subst (λ p. IsMade (then_with (Binary op) (ranged l) (ranged r)) first old p next) (sym (ap (λ p. Binary op p b) is_a ∙ ap (Binary op x) is_b))
      (both_made (Binary op) l r left right is_left is_right one two))
