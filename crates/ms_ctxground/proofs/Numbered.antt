-- The numbers of names, as they are collected one name after another.
use Rattle.std.proofs.Common.{◌≡◌, ℕ, List, [], ◌∷◌, ◌++◌, Option, Some, None, refl, sym, ap, ◌∙◌, subst, ⊎_elim}
use Rattle.std.proofs.lemmas.List.Elements.{Contains-append_left, Contains-push, Contains-push_cases}
use Rattle.std.proofs.lemmas.Option.{slice_get_within, get_or_from_slice_get}
use Rattle.std.specs.Prelude.{◌↔◌, IsSomeAnd}
use Rattle.std.specs.List.{Contains, slice_get}
use Rattle.ms_atombase.specs.Bases.{IsPlaceOf}
use Rattle.ms_ctxground.specs.Numbering.{AreNumbersOf, IsSetOf}

module _ {T : Type 0} (P : T → Type 0) where
  pub some_and : (o : Option T) (x : T) → o ≡ Some x → P x → IsSomeAnd o P
  some_and o x e h = subst (λ p. IsSomeAnd p P) (sym e) h

  pub from_some_and : (o : Option T) → IsSomeAnd o P → (x : T) × P x × (o ≡ Some x)
  from_some_and None h = absurd h
  from_some_and (Some x) h = (x, h, refl)

-- a number of one of the names
abbrev pub IsAmongNumbers : List ℕ → List ℕ → ℕ → Type 0
IsAmongNumbers base names a = (name : ℕ) × Contains names name × (slice_get base a ≡ Some name)

-- The numbers of those of the names that are in the base, in any order.
pub record AreFound (base names numbers : List ℕ) : Type 0 where
  pub members : (a : ℕ) → Contains numbers a ↔ IsAmongNumbers base names a

pub Contains-from_slice_get : (base : List ℕ) (a name : ℕ) → slice_get base a ≡ Some name → Contains base name
Contains-from_slice_get base a name there = (a, slice_get_within base a name there, get_or_from_slice_get base a name name there)

module _ {base names : List ℕ} {numbers : List ℕ} (name : ℕ) (found : AreFound base names numbers) where
  pub AreFound-skip : (Contains base name → ⊥) → AreFound base (names ++ name ∷ []) numbers
  AreFound-skip unknown = record {
    members = λ a. (
      λ h. let (of_name, listed, there) = (found.members a).0 h in (of_name, Contains-append_left names (name ∷ []) of_name listed, there),
      λ (of_name, listed, there).
          ⊎_elim
          (λ (earlier : Contains names of_name). (found.members a).1 (of_name, earlier, there))
          (λ (now : name ≡ of_name). absurd (unknown (Contains-from_slice_get base a name (there ∙ ap Some (sym now)))))
          (Contains-push_cases names name of_name listed),
    );
  }

  pub AreFound-more : (a : ℕ) → IsPlaceOf base name a → AreFound base (names ++ name ∷ []) (numbers ++ a ∷ [])
  AreFound-more a place = record {
    members = λ b. (
      λ h.
          ⊎_elim
          (λ (earlier : Contains numbers b).
          let one = (found.members b).0 earlier in (one.0, Contains-append_left names (name ∷ []) one.0 one.1, one.2))
          (λ (now : a ≡ b). (name, Contains-push names name, ap (slice_get base) (sym now) ∙ place.there))
          (Contains-push_cases numbers a b h),
      λ (of_name, listed, there).
          ⊎_elim
          (λ (earlier : Contains names of_name). Contains-append_left numbers (a ∷ []) b ((found.members b).1 (of_name, earlier, there)))
          (λ (now : name ≡ of_name).
          let same = place.only b (there ∙ ap Some (sym now)) in
          subst (Contains (numbers ++ a ∷ [])) (sym same) (Contains-push numbers a))
          (Contains-push_cases names name of_name listed),
    );
  }

pub AreNumbersOf-from_found : (base names numbers ids : List ℕ) → AreFound base names numbers → IsSetOf numbers ids → AreNumbersOf base names ids
AreNumbersOf-from_found base names numbers ids found set = record {
  rising = set.rising;
  members = λ a. (
    λ h. let (name, listed, there) = (found.members a).0 ((set.members a).0 h) in some_and (Contains names) (slice_get base a) name there listed,
    λ h. (set.members a).1 ((found.members a).1 (from_some_and (Contains names) (slice_get base a) h)),
  );
}
