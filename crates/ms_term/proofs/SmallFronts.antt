-- How many terms stand before the first large one, after a term is put in its place and after a cut.
use Rattle.std.proofs.Common.{◌≡◌, ℕ, ◌+◌, ◌<◌, ◌≤◌, inl, inr, List, [], ◌∷◌, length, sym, ap, ◌∙◌, subst, arith, length-append}
use Rattle.std.proofs.lemmas.Bool.{cases_lt}
use Rattle.ms_tree.specs.Tree.{Tree}
use Rattle.ms_tree.specs.Size.{tree_size}
use Rattle.ms_term.specs.Terms.{term_at, held, Names, IsLarge, most_symbols}
use Rattle.ms_term.specs.Tables.{IsSmallFront, IsSmallWith}
use Rattle.ms_term.proofs.NodeTables.{term_at-last}

module _ (old new : List Tree) (t : Tree) (place small : ℕ) (front : IsSmallFront old small) (names : Names old new t place) where
  -- a small term at the place where the front ends is the last one, and new
  ends : place ≡ small → ¬ IsLarge t → small ≡ length old
  ends at low = elim (cases_lt small (length old)) [
    | inl before ↦
        let here : term_at old small ≡ t = sym (names.kept small before) ∙ (ap (λ k. term_at new k) (sym at) ∙ names.names) in
        absurd (low (subst IsLarge here (front.next before)))
    | inr after ↦ let within : small ≤ length old = front.within in omega arith
  ]

  pub longer_front : place ≡ small → ¬ IsLarge t → IsSmallFront new (length new)
  longer_front at low =
      let end : small ≡ length old = ends at low in
      let within : place < length new = names.within in
      elim names.grows [
        | inl same ↦ absurd (omega (arith, ap length same))
        | inr more ↦
            let long : length new ≡ length old + 1 = ap length more ∙ length-append old (t ∷ []) in
            record {
              within = omega arith;
              before = λ i h. elim (cases_lt i (length old)) [
                | inl b ↦ let early : i < small = omega arith in λ large. front.before i early (subst IsLarge (names.kept i b) large)
                | inr a ↦
                    let last : i ≡ length old = omega arith in
                    let here : term_at new i ≡ t = ap (λ k. term_at new k) last ∙ (ap (λ ts. term_at ts (length old)) more ∙ term_at-last old t) in
                    λ large. low (subst IsLarge here large)
              ];
              next = λ h. absurd (omega arith);
            }
      ]

  pub same_front : (place ≡ small → IsLarge t) → IsSmallFront new small
  same_front high =
      let within : small ≤ length old = front.within in
      let longer : length old ≤ length new = names.longer in
      record {
        within = omega arith;
        before = λ i h. let early : i < length old = omega arith in λ large. front.before i h (subst IsLarge (names.kept i early) large);
        next = λ h. elim (cases_lt small (length old)) [
          | inl before ↦ subst IsLarge (sym (names.kept small before)) (front.next before)
          | inr after ↦
              let end : small ≡ length old = omega arith in
              elim names.grows [
                | inl same ↦ absurd (omega (arith, ap length same))
                | inr more ↦
                    let here : term_at new small ≡ t = ap (λ k. term_at new k) end ∙ (ap (λ ts. term_at ts (length old)) more ∙ term_at-last old t) in
                    let at : place ≡ small = names.different place small names.within h (names.names ∙ sym here) in
                    subst IsLarge (sym here) (high at)
              ]
        ];
      }

  pub front_with : (size len next : ℕ) → size ≡ held (tree_size t) → len ≡ length new → IsSmallWith small place len size next → IsSmallFront new next
  front_with size len next is long with_it = elim with_it [
    | inl grown ↦
        let low : size ≤ most_symbols = grown.1 in
        let few : ¬ IsLarge t = λ large. omega arith in
        subst (λ n. IsSmallFront new n) (sym (grown.2 ∙ long)) (longer_front grown.0 few)
    | inr stays ↦
        subst (λ n. IsSmallFront new n) (sym stays.1)
        (same_front (λ at. let high : most_symbols < size = stays.0 at in omega arith))
  ]
