-- A base after an atom came to it.
use Rattle.std.proofs.Common.{◌≡◌, ℕ, zero, suc, ◌<◌, Bool, true, false, ◌||◌, List, [], ◌∷◌, ◌++◌, Some, slice_get, get_or, length, refl, sym, ap, subst, ◌∙◌, arith, length-append, ◌⊎◌, inl, inr, nat_eq, Contains, if◌then◌else◌}
use Rattle.std.specs.List.{list_any, position}
use Rattle.std.proofs.lemmas.Bool.{false≢true}
use Rattle.std.proofs.lemmas.Bool.Decides.{Decides-eqb}
use Rattle.std.proofs.lemmas.Option.{none-some, slice_get_within, get_or_from_slice_get, slice_get-get_or}
use Rattle.std.proofs.lemmas.List.Quantifiers.{position-Some}
use Rattle.std.proofs.lemmas.Map.Views.{Contains-from_any}
use Rattle.indexmap.specs.IndexSet.{insert_key}
use Rattle.ms_atombase.specs.Bases.{IsBase, IsPlaceOf, Interns}

same : (x y : ℕ) → nat_eq x y ≡ true → x ≡ y
same x y e = (Decides-eqb x y).0 e

slice_get-push : (xs : List ℕ) (t i a : ℕ) → slice_get (xs ++ t ∷ []) i ≡ Some a → (slice_get xs i ≡ Some a) ⊎ ((i ≡ length xs) × (a ≡ t))
slice_get-push [] t zero a e = (let last : a ≡ t = cc in inr (refl, last))
slice_get-push [] t (suc i) a e = absurd (none-some a e)
slice_get-push (x ∷ xs) t zero a e = inl e
slice_get-push (x ∷ xs) t (suc i) a e = elim (slice_get-push xs t i a e) [
  | inl there ↦ inl there
  | inr last ↦ inr (ap suc last.0, last.1)
]

has : (xs : List ℕ) (i a : ℕ) → slice_get xs i ≡ Some a → Contains xs a
has xs i a e = (i, slice_get_within xs i a e, get_or_from_slice_get xs i a a e)

or_parts : (x y : Bool) → (x || y) ≡ false → (x ≡ false) × (y ≡ false)
or_parts true y e = absurd (false≢true (sym e))
or_parts false y e = (refl, e)

not_any_has : (xs : List ℕ) (t i : ℕ) → list_any (nat_eq t) xs ≡ false → slice_get xs i ≡ Some t → ⊥
not_any_has [] t i none e = none-some t e
not_any_has (x ∷ xs) t zero none e =
    let at : x ≡ t = cc in
    false≢true (sym (or_parts (nat_eq t x) (list_any (nat_eq t) xs) none).0 ∙ (Decides-eqb t x).1 (sym at))
not_any_has (x ∷ xs) t (suc i) none e = not_any_has xs t i (or_parts (nat_eq t x) (list_any (nat_eq t) xs) none).1 e

pushed : (old : List ℕ) (t : ℕ) → IsBase old → length old < 4294967295 → ((i : ℕ) → slice_get old i ≡ Some t → ⊥) → IsBase (old ++ t ∷ [])
pushed old t base few fresh = record {
  once = λ i k a ei ek. elim (slice_get-push old t i a ei) [
    | inl there ↦ elim (slice_get-push old t k a ek) [
      | inl also ↦ base.once i k a there also
      | inr last ↦ absurd (fresh i (there ∙ ap Some last.1))
    ]
    | inr last ↦ elim (slice_get-push old t k a ek) [
      | inl also ↦ absurd (fresh k (also ∙ ap Some last.1))
      | inr both ↦ last.0 ∙ sym both.0
    ]
  ];
  few = omega (arith, length-append old (t ∷ []));
}

-- the base and the place of the atom, after an insertion into its set
pub record IsInterned (old new : List ℕ) (t place : ℕ) : Type 0 where
  pub base : IsBase new
  pub interns : Interns old new t place

interned_by : (b : Bool) (old new : List ℕ) (t place k : ℕ) → list_any (nat_eq t) old ≡ b → new ≡ (if b then old else old ++ t ∷ []) → IsBase old → length old < 4294967295 → slice_get new place ≡ Some k → nat_eq t k ≡ true → IsInterned old new t place
interned_by true old new t place k any is base few stored equal = record {
  base = subst IsBase (sym is) base;
  interns = record {
    there = stored ∙ ap Some (sym (same t k equal));
    kept = λ there. is;
    added = λ fresh. absurd (fresh (Contains-from_any same t old any));
  };
}
interned_by false old new t place k any is base few stored equal =
    let fresh : (i : ℕ) → slice_get old i ≡ Some t → ⊥ = λ i. not_any_has old t i any in
    let there : slice_get new place ≡ Some t = stored ∙ ap Some (sym (same t k equal)) in
    record {
      base = subst IsBase (sym is) (pushed old t base few fresh);
      interns = record {
        there = there;
        kept = λ (i, within, at). absurd (fresh i (slice_get-get_or old i t within ∙ ap Some at));
        added = λ none. (
          is,
          elim (slice_get-push old t place t (ap (λ atoms. slice_get atoms place) (sym is) ∙ there)) [
            | inl before ↦ absurd (fresh place before)
            | inr last ↦ last.0
          ],
        );
      };
    }

-- what an insertion of an atom into the set of atoms leaves
pub interned : (old new : List ℕ) (t place k : ℕ) → new ≡ insert_key nat_eq old t → IsBase old → length old < 4294967295 → slice_get new place ≡ Some k → nat_eq t k ≡ true → IsInterned old new t place
interned old new t place k is base few stored equal = interned_by (list_any (nat_eq t) old) old new t place k refl is base few stored equal

-- the first place of an equal atom
pub found_at : (atoms : List ℕ) (t place : ℕ) → IsBase atoms → Some place ≡ position (nat_eq t) atoms → IsPlaceOf atoms t place
found_at atoms t place base is =
    let at = position-Some (nat_eq t) atoms place t (sym is) in
    let there : slice_get atoms place ≡ Some t = slice_get-get_or atoms place t at.0 ∙ ap Some (sym (same t (get_or atoms place t) at.1)) in
    record { there = there; only = λ other e. base.once other place t e there }
