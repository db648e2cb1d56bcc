-- Inputs that come and go one at a time.
use Rattle.std.proofs.Common.{◌≡◌, ℕ, ◌+◌, ◌<◌, ◌≤◌, inl, inr, false, Some, List, [], ◌∷◌, ◌++◌, length, get_or, take, refl, sym, ap, ◌∙◌, subst, arith, Contains}
use Rattle.std.specs.List.{All}
use Rattle.std.specs.List.Sorted.{IsStrictlyIncreasing}
use Rattle.std.proofs.lemmas.List.{take_more, get_or-take, length-take}
use Rattle.std.proofs.lemmas.List.Elements.{All-contains, Contains-append_left, Contains-push, Contains-push_cases}
use Rattle.std.proofs.lemmas.List.Kept.{AllPairs-from_increasing}
use Rattle.ms_join.specs.declared.ground_rule.Input.{Input}
use Rattle.ms_base.specs.declared.truth.Effect.{Effect}
use Rattle.ms_base.specs.declared.truth.Effect.TheVariants.{Done, NoEffect}
use Rattle.ms_join.specs.Modules.{Join, IsInput}
use Rattle.ms_module.specs.Inputs.{Releases, Declares, Withdraws}

-- the atoms of a loop and the next one
pub next_atom : (atoms : List ℕ) (i a : ℕ) → i < length atoms → a ≡ get_or atoms i a → take (i + 1) atoms ≡ take i atoms ++ a ∷ []
next_atom atoms i a within is = take_more atoms i a within ∙ ap (λ b. take i atoms ++ b ∷ []) (sym is)

pub declares_none : (old : Join) (first : ℕ) → Declares old first [] old
declares_none old first = record {
  atoms_stay = refl;
  rules_stay = refl;
  inputs = λ i. (
    λ has. inl has,
    λ either. elim either [
      | inl has ↦ has
      | inr (le, (k, within, is), value) ↦ absurd (omega arith)
    ],
  );
}

-- a new input
pub declares_more : (old mid new : Join) (first a : ℕ) (atoms : List ℕ) → Declares old first atoms mid → first ≤ a
    → new ≡ record mid { inputs = mid.inputs ++ (record { atom = a; value = Some false }) ∷ [] } → Declares old first (atoms ++ a ∷ []) new
declares_more old mid new first a atoms is le adds =
    let D : Join → Type 0 = λ j. Declares old first (atoms ++ a ∷ []) j in
    let x : Input = record { atom = a; value = Some false } in
    subst D (sym adds) (record {
      atoms_stay = is.atoms_stay;
      rules_stay = is.rules_stay;
      inputs = λ i. (
        λ has. elim (Contains-push_cases mid.inputs x i has) [
          | inl before ↦ elim ((is.inputs i).0 before) [
            | inl there ↦ inl there
            | inr fresh ↦ inr (fresh.0, Contains-append_left atoms (a ∷ []) i.atom fresh.1, fresh.2)
          ]
          | inr last ↦
              let atom : a ≡ i.atom = ap (λ (y : Input). y.atom) last in
              inr (subst (λ n. first ≤ n) atom le, subst (Contains (atoms ++ a ∷ [])) atom (Contains-push atoms a), sym (ap (λ (y : Input). y.value) last))
        ],
        λ either. elim either [
          | inl there ↦ Contains-append_left mid.inputs (x ∷ []) i ((is.inputs i).1 (inl there))
          | inr fresh ↦ elim (Contains-push_cases atoms a i.atom fresh.1) [
            | inl before ↦ Contains-append_left mid.inputs (x ∷ []) i ((is.inputs i).1 (inr (fresh.0, before, fresh.2)))
            | inr last ↦
                let value : i.value ≡ Some false = fresh.2 in
                let whole : x ≡ record { atom = i.atom; value = i.value } = cc in
                subst (Contains (mid.inputs ++ x ∷ [])) whole (Contains-push mid.inputs x)
          ]
        ],
      );
    })

-- an atom before the first
pub declares_skip : (old mid : Join) (first a : ℕ) (atoms : List ℕ) → Declares old first atoms mid → a < first → Declares old first (atoms ++ a ∷ []) mid
declares_skip old mid first a atoms is low = record {
  atoms_stay = is.atoms_stay;
  rules_stay = is.rules_stay;
  inputs = λ i. (
    λ has. elim ((is.inputs i).0 has) [
      | inl there ↦ inl there
      | inr fresh ↦ inr (fresh.0, Contains-append_left atoms (a ∷ []) i.atom fresh.1, fresh.2)
    ],
    λ either. elim either [
      | inl there ↦ (is.inputs i).1 (inl there)
      | inr fresh ↦ elim (Contains-push_cases atoms a i.atom fresh.1) [
        | inl before ↦ (is.inputs i).1 (inr (fresh.0, before, fresh.2))
        | inr last ↦ (let le : first ≤ i.atom = fresh.0 in absurd (omega arith))
      ]
    ],
  );
}

-- the next of rising atoms isn't among those before it
rising_next : (atoms : List ℕ) (k a : ℕ) → IsStrictlyIncreasing atoms → k < length atoms → a ≡ get_or atoms k a → ¬ Contains (take k atoms) a
rising_next atoms k a rising within is (i, inside, at) =
    let short : length (take k atoms) ≤ k = omega (arith, length-take k atoms) in
    let before : i < k = omega arith in
    let less : get_or atoms i a < get_or atoms k a = AllPairs-from_increasing atoms rising i k a before within in
    let here : get_or (take k atoms) i a ≡ get_or atoms i a = get_or-take k atoms i a before in
    omega arith

-- and no input yet
pub not_yet : (old mid : Join) (first k a : ℕ) (atoms : List ℕ) → IsStrictlyIncreasing atoms → All (λ i. i.atom < first) old.inputs
    → Declares old first (take k atoms) mid → k < length atoms → a ≡ get_or atoms k a → first ≤ a → ¬ IsInput mid a
not_yet old mid first k a atoms rising low is within at le (n, x, inside, here, atom) =
    elim ((is.inputs x).0 (n, inside, here)) [
      | inl there ↦ (let less : x.atom < first = All-contains (λ (i : Input). i.atom < first) old.inputs x low there in omega arith)
      | inr fresh ↦ rising_next atoms k a rising within at (subst (Contains (take k atoms)) atom fresh.1)
    ]

pub withdraws_none : (old : Join) → Withdraws old [] old
withdraws_none old = record {
  atoms_stay = refl;
  rules_stay = refl;
  inputs = λ i. (λ has. (has, λ (k, within, is). omega arith), λ both. both.0);
}

-- an atom after which it is no input
pub withdraws_more : (old mid new : Join) (a : ℕ) (atoms : List ℕ) (effect : Effect) → Withdraws old atoms mid → Releases mid a new effect
    → Withdraws old (atoms ++ a ∷ []) new
withdraws_more old mid new a atoms Done is releases = record {
  atoms_stay = releases.1.atoms ∙ is.atoms_stay;
  rules_stay = releases.1.rules ∙ is.rules_stay;
  inputs = λ i. (
    λ has.
        let here = (releases.1.inputs i).0 has in
        let before = (is.inputs i).0 here.0 in (
          before.0,
          λ among. elim (Contains-push_cases atoms a i.atom among) [
            | inl first ↦ before.1 first
            | inr last ↦ here.1 (sym last)
          ],
        ),
    λ both. (releases.1.inputs i).1 (
      (is.inputs i).1 (both.0, λ among. both.1 (Contains-append_left atoms (a ∷ []) i.atom among)),
      λ same. both.1 (subst (Contains (atoms ++ a ∷ [])) (sym same) (Contains-push atoms a)),
    ),
  );
}
withdraws_more old mid new a atoms NoEffect is releases =
    let W : Join → Type 0 = λ j. Withdraws old (atoms ++ a ∷ []) j in
    subst W (sym releases.1) (record {
      atoms_stay = is.atoms_stay;
      rules_stay = is.rules_stay;
      inputs = λ i. (
        λ has.
            let before = (is.inputs i).0 has in (
              before.0,
              λ among. elim (Contains-push_cases atoms a i.atom among) [
                | inl first ↦ before.1 first
                | inr last ↦ releases.0 (input_at i has (sym last))
              ],
            ),
        λ both. (is.inputs i).1 (both.0, λ among. both.1 (Contains-append_left atoms (a ∷ []) i.atom among)),
      );
    })
  where
    input_at : (i : Input) → Contains mid.inputs i → i.atom ≡ a → IsInput mid a
    input_at i (k, within, is) atom = (k, i, within, is, atom)
