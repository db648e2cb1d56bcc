-- Answers that become sets of atoms, number by number.
use Rattle.std.proofs.Common.{◌≡◌, ◌∙◌, ◌+◌, ◌-◌, ◌<◌, ◌≤◌, ℕ, suc, Bool, true, List, [], ◌∷◌, ◌++◌, Some, drop, get_or, length, refl, sym, ap, inl, inr, arith, append_assoc, append-nil, length-append}
use Rattle.std.specs.Prelude.{slice_get}
use Rattle.std.specs.List.{filter}
use Rattle.std.proofs.lemmas.Bool.{cases_Bool, cond-false, cond-true}
use Rattle.std.proofs.lemmas.Option.{slice_get-get_or}
use Rattle.std.proofs.lemmas.List.{drop-drop, drop_all, drop_more, get_or-drop, length-drop}
use Rattle.ms_join.specs.Sets.{set_of}
use Rattle.ms_complete.proofs.Lists.{some_at}
use Rattle.ms_solver.specs.Numbered.{IsPickedFrom, atoms_of, places}
use Rattle.ms_solver.proofs.Picked.{set_of_has}

-- These are the atoms among the first ones, and what is left of the picked numbers is among the rest.
pub record IsListing (picked numbers set : List ℕ) (a : ℕ) : Type 0 where
  pub listed : set ++ places (set_of picked) a (drop a numbers) ≡ atoms_of numbers picked
  pub rest : drop (length set) picked ≡ filter (set_of picked) (drop a numbers)

pub listing_begins : (picked numbers : List ℕ) → IsPickedFrom numbers picked → IsListing picked numbers [] 0
listing_begins picked numbers is = record { listed = refl; rest = is }

pub listing_ends : (picked numbers set : List ℕ) (a : ℕ) → length numbers ≤ a → IsListing picked numbers set a → set ≡ atoms_of numbers picked
listing_ends picked numbers set a all l =
    sym (append-nil set) ∙ (ap (λ (xs : List ℕ). set ++ places (set_of picked) a xs) (sym (drop_all a numbers all)) ∙ l.listed)

module _ (picked numbers set : List ℕ) (a d n : ℕ) (within : a < length numbers) (is : n ≡ get_or numbers a d) (l : IsListing picked numbers set a) where
  abbrev test : ℕ → Bool
  test = set_of picked

  abbrev later : List ℕ
  later = drop (a + 1) numbers

  next : drop a numbers ≡ n ∷ later
  next = drop_more numbers a d within ∙ ap (λ (m : ℕ). m ∷ later) (sym is)

  rest_next : drop (length set) picked ≡ filter test (n ∷ later)
  rest_next = l.rest ∙ ap (filter test) next

  listed_next : set ++ places test a (n ∷ later) ≡ atoms_of numbers picked
  listed_next = ap (λ (xs : List ℕ). set ++ places test a xs) (sym next) ∙ l.listed

  pub listing_here : slice_get picked (length set) ≡ Some n → IsListing picked numbers (set ++ a ∷ []) (a + 1)
  listing_here at =
      let passes : test n ≡ true = set_of_has picked n (some_at picked (length set) n at) in
      let one : suc a ≡ a + 1 = omega arith in
      let more : length (set ++ a ∷ []) ≡ length set + 1 = length-append set (a ∷ []) in
      record {
        listed = append_assoc set (a ∷ []) (places test (a + 1) later)
            ∙ (ap (λ (k : ℕ). set ++ a ∷ places test k later) (sym one)
            ∙ (ap (λ (xs : List ℕ). set ++ xs) (sym (cond-true (test n) (a ∷ places test (suc a) later) (places test (suc a) later) passes)) ∙ listed_next));
        rest = ap (λ (k : ℕ). drop k picked) more
            ∙ (sym (drop-drop 1 (length set) picked)
            ∙ ap (drop 1) (rest_next ∙ cond-true (test n) (n ∷ filter test later) (filter test later) passes));
      }

  found_there : test n ≡ true → slice_get picked (length set) ≡ Some n
  found_there passes =
      let left : drop (length set) picked ≡ n ∷ filter test later = rest_next ∙ cond-true (test n) (n ∷ filter test later) (filter test later) passes in
      let long : length picked - length set ≡ suc (length (filter test later)) = sym (length-drop (length set) picked) ∙ ap length left in
      let short : length set < length picked = omega (arith, long) in
      let at : get_or picked (length set) n ≡ n = ap (λ (k : ℕ). get_or picked k n) (let z : length set ≡ length set + 0 = omega arith in z) ∙ (sym (get_or-drop (length set) picked 0 n) ∙ ap (λ (xs : List ℕ). get_or xs 0 n) left) in
      slice_get-get_or picked (length set) n short ∙ ap Some at

  pub listing_past : (slice_get picked (length set) ≡ Some n → ⊥) → IsListing picked numbers set (a + 1)
  listing_past differs =
      let one : suc a ≡ a + 1 = omega arith in
      elim (cases_Bool (test n)) [
        | inl passes ↦ absurd (differs (found_there passes))
        | inr fails ↦ record {
          listed = ap (λ (k : ℕ). set ++ places test k later) (sym one)
              ∙ (ap (λ (xs : List ℕ). set ++ xs) (sym (cond-false (test n) (a ∷ places test (suc a) later) (places test (suc a) later) fails)) ∙ listed_next);
          rest = rest_next ∙ cond-false (test n) (n ∷ filter test later) (filter test later) fails;
        }
      ]
