-- Names that a base lacks, as they are collected one after another.
use Rattle.std.proofs.Common.{◌≡◌, ℕ, ◌⊎◌, inl, inr, List, [], ◌∷◌, ◌++◌, Option, Some, None, Bool, true, false, not, length, length-append, get_or, ap, arith, subst, ⊎_elim}
use Rattle.std.proofs.lemmas.List.Elements.{All-contains, Contains-append_left, Contains-get_or, Contains-push, Contains-push_cases}
use Rattle.std.specs.Prelude.{MatchOption, is_some}
use Rattle.std.specs.List.{All, Contains}
use Rattle.ms_tree.specs.Tree.{Tree}
use Rattle.ms_atombase.specs.Bases.{IsPlaceOf}
use Rattle.ms_term.specs.TermOrder.{IsInTermOrder}
use Rattle.ms_ctxground.specs.NewAtoms.{AreAdded, IsNewOf}
use Rattle.ms_ctxground.proofs.Numbered.{Contains-from_slice_get}

pub AreAdded-none : (base old : List ℕ) → AreAdded base [] old old
AreAdded-none base old = record {
  members = λ n. (λ h. inl h, λ either. ⊎_elim (λ (h : Contains old n). h) (λ (h : Contains [] n × (Contains base n → ⊥)). let within = h.0.1 in absurd (omega arith)) either);
  few = omega arith;
}

module _ {base names old new : List ℕ} (name : ℕ) (added : AreAdded base names old new) where
  earlier : (n : ℕ) → Contains old n ⊎ (Contains names n × (Contains base n → ⊥)) → Contains old n ⊎ (Contains (names ++ name ∷ []) n × (Contains base n → ⊥))
  earlier n either = ⊎_elim (λ (h : Contains old n). inl h) (λ (h : Contains names n × (Contains base n → ⊥)). inr (Contains-append_left names (name ∷ []) n h.0, h.1)) either

  pub AreAdded-known : Contains base name → AreAdded base (names ++ name ∷ []) old new
  AreAdded-known known = record {
    members = λ n. (
      λ h. earlier n ((added.members n).0 h),
      λ either. (added.members n).1 (⊎_elim
          (λ (h : Contains old n). inl h)
          (λ (h : Contains (names ++ name ∷ []) n × (Contains base n → ⊥)).
          ⊎_elim (λ (k : Contains names n). inr (k, h.1)) (λ (now : name ≡ n). absurd (h.1 (subst (Contains base) now known))) (Contains-push_cases names name n h.0))
          either),
    );
    few = omega (arith, added.few, length-append names (name ∷ []));
  }

  pub AreAdded-more : (Contains base name → ⊥) → AreAdded base (names ++ name ∷ []) old (new ++ name ∷ [])
  AreAdded-more unknown = record {
    members = λ n. (
      λ h. ⊎_elim
          (λ (k : Contains new n). earlier n ((added.members n).0 k))
          (λ (now : name ≡ n). subst (λ m. Contains old m ⊎ (Contains (names ++ name ∷ []) m × (Contains base m → ⊥))) now (inr (Contains-push names name, unknown)))
          (Contains-push_cases new name n h),
      λ either. ⊎_elim
          (λ (h : Contains old n). Contains-append_left new (name ∷ []) n ((added.members n).1 (inl h)))
          (λ (h : Contains (names ++ name ∷ []) n × (Contains base n → ⊥)).
          ⊎_elim
          (λ (k : Contains names n). Contains-append_left new (name ∷ []) n ((added.members n).1 (inr (k, h.1))))
          (λ (now : name ≡ n). subst (Contains (new ++ name ∷ [])) now (Contains-push new name))
          (Contains-push_cases names name n h.0))
          either,
    );
    few = omega (arith, added.few, length-append names (name ∷ []), length-append new (name ∷ []));
  }

unknown_of : (A : Type 0) (B : ℕ → Type 0) (o : Option ℕ) (r : Bool) → is_some o ≡ not r → r ≡ true → MatchOption o A B → A
unknown_of A B None r e is h = h
unknown_of A B (Some x) true e is h = cc
unknown_of A B (Some x) false e is h = cc

known_of : (A : Type 0) (B : ℕ → Type 0) (o : Option ℕ) (r : Bool) → is_some o ≡ not r → r ≡ false → MatchOption o A B → (x : ℕ) × B x
known_of A B None true e is h = cc
known_of A B None false e is h = cc
known_of A B (Some x) r e is h = (x, h)

pub lacks : (base : List ℕ) (name : ℕ) (o : Option ℕ) (r : Bool) → is_some o ≡ not r → r ≡ true → MatchOption o (Contains base name → ⊥) (IsPlaceOf base name) → Contains base name → ⊥
lacks base name o r e is h = unknown_of (Contains base name → ⊥) (IsPlaceOf base name) o r e is h

pub has : (base : List ℕ) (name : ℕ) (o : Option ℕ) (r : Bool) → is_some o ≡ not r → r ≡ false → MatchOption o (Contains base name → ⊥) (IsPlaceOf base name) → Contains base name
has base name o r e is h = let (a, place) = known_of (Contains base name → ⊥) (IsPlaceOf base name) o r e is h in Contains-from_slice_get base a name place.there

pub All-added : (P : ℕ → Type 0) {base names old new : List ℕ} → AreAdded base names old new → All P old → All P names → All P new
All-added P {base} {names} {old} {new} added old_all all k d within =
    ⊎_elim
    (λ (h : Contains old (get_or new k d)). All-contains P old (get_or new k d) old_all h)
    (λ (h : Contains names (get_or new k d) × (Contains base (get_or new k d) → ⊥)). All-contains P names (get_or new k d) all h.0)
    ((added.members (get_or new k d)).0 (Contains-get_or new k d within))

-- two lists are added to none
pub IsNewOf-from_added : {table : List Tree} {base outputs externals none first both names : List ℕ} → none ≡ [] → AreAdded base outputs none first → AreAdded base externals first both → IsInTermOrder table both names → IsNewOf table base outputs externals names
IsNewOf-from_added {table} {base} {outputs} {externals} {none} {first} {both} {names} empty one two order = record {
  rising = order.rising;
  members = λ n. (
    λ h. ⊎_elim
        (λ (in_first : Contains first n). ⊎_elim
        (λ (in_none : Contains none n). let within = (subst (λ xs. Contains xs n) empty in_none).1 in absurd (omega arith))
        (λ (k : Contains outputs n × (Contains base n → ⊥)). (inl k.0, k.1))
        ((one.members n).0 in_first))
        (λ (k : Contains externals n × (Contains base n → ⊥)). (inr k.0, k.1))
        ((two.members n).0 ((order.members n).0 h)),
    λ h. (order.members n).1 ((two.members n).1 (⊎_elim
        (λ (k : Contains outputs n). inl ((one.members n).1 (inr (k, h.1))))
        (λ (k : Contains externals n). inr (k, h.1))
        h.0)),
  );
  few = omega (arith, order.few, two.few, one.few, ap length empty);
}
