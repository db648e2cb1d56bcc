-- Adding nogoods of the program step by step.
use Rattle.std.proofs.Common.{◌≡◌, ◌∙◌, ◌⊎◌, ℕ, List, [], ◌∷◌, ◌++◌, Some, refl, sym, ap, subst, inl, inr}
use Rattle.std.specs.List.{Contains}
use Rattle.std.proofs.lemmas.Bool.{cases_eq}
use Rattle.std.proofs.lemmas.List.Elements.{Contains-append_left, Contains-push}
use Rattle.ms_lits.specs.Literals.{Nogood}
use Rattle.ms_nogood.specs.Store.{Store, Stored, Adds, slot_at}
use Rattle.ms_complete.proofs.Lists.{none_is_some, same_some}
use Rattle.ms_complete.specs.Bases.{base_of, HasExactly, AddsExactly, KeepsKeys}

-- no nogood has been added
pub adds_none : (store : Store) (Is : Nogood → Type 0) → ((nogood : Nogood) → ¬ Is nogood) → AddsExactly store store Is
adds_none store Is none = record {
  keeps = λ key stored is. is;
  each = λ key stored is. inl is;
  all = λ nogood is. absurd (none nogood is);
  given = λ key stored is. inl is;
  fresh = λ key has. has;
  kept = refl;
}

-- some, and then others
pub adds_then : (a b c : Store) (P Q R : Nogood → Type 0) → AddsExactly a b P → AddsExactly b c Q
    → ((n : Nogood) → R n → P n ⊎ Q n) → ((n : Nogood) → P n → R n) → ((n : Nogood) → Q n → R n) → AddsExactly a c R
adds_then a b c P Q R first second cases left right = record {
  keeps = λ key stored is. second.keeps key stored (first.keeps key stored is);
  each = λ key stored is. elim (second.each key stored is) [
    | inl before ↦ elim (first.each key stored before) [
      | inl old ↦ inl old
      | inr (nogood, same, p) ↦ inr (nogood, same, left nogood p)
    ]
    | inr (nogood, same, q) ↦ inr (nogood, same, right nogood q)
  ];
  all = λ nogood r. elim (cases nogood r) [
    | inl p ↦ let (key, is) = first.all nogood p in (key, second.keeps key (base_of nogood) is)
    | inr q ↦ second.all nogood q
  ];
  given = λ key stored is. elim (second.given key stored is) [
    | inl before ↦ elim (first.given key stored before) [
      | inl old ↦ inl old
      | inr has ↦ inr (second.fresh key has)
    ]
    | inr has ↦ inr has
  ];
  fresh = λ key has. second.fresh key (first.fresh key has);
  kept = second.kept ∙ first.kept;
}

pub adds_same : (a b : Store) (P Q : Nogood → Type 0) → AddsExactly a b P → ((n : Nogood) → P n → Q n) → ((n : Nogood) → Q n → P n) → AddsExactly a b Q
adds_same a b P Q adds forth back = record {
  keeps = adds.keeps;
  each = λ key stored is. elim (adds.each key stored is) [
    | inl old ↦ inl old
    | inr (nogood, same, p) ↦ inr (nogood, same, forth nogood p)
  ];
  all = λ nogood q. adds.all nogood (back nogood q);
  given = adds.given;
  fresh = adds.fresh;
  kept = adds.kept;
}

-- one nogood
pub adds_one : (old new : Store) (nogood : Nogood) (key : ℕ) (Is : Nogood → Type 0) → Adds old new (base_of nogood) key → Is nogood
    → ((n : Nogood) → Is n → n ≡ nogood) → AddsExactly old new Is
adds_one old new nogood key Is adds is only = record {
  keeps = λ k stored at. elim (cases_eq k key) [
    | inl same ↦ absurd (none_is_some stored (sym (ap (slot_at old) same ∙ adds.was_free) ∙ at))
    | inr differ ↦ adds.others k differ ∙ at
  ];
  each = λ k stored at. elim (cases_eq k key) [
    | inl same ↦ inr (nogood, same_some stored (base_of nogood) (sym at ∙ (ap (slot_at new) same ∙ adds.added)), is)
    | inr differ ↦ inl (sym (adds.others k differ) ∙ at)
  ];
  all = λ n of. (key, adds.added ∙ ap (λ (m : Nogood). Some (base_of m)) (sym (only n of)));
  given = λ k stored at. elim (cases_eq k key) [
    | inl same ↦ inr (subst (λ (ks : List ℕ). Contains ks k) (sym adds.fresh) (subst (Contains (old.fresh ++ key ∷ [])) (sym same) (Contains-push old.fresh key)))
    | inr differ ↦ inl (sym (adds.others k differ) ∙ at)
  ];
  fresh = λ k has. subst (λ (ks : List ℕ). Contains ks k) (sym adds.fresh) (Contains-append_left old.fresh (key ∷ []) k has);
  kept = adds.kept;
}

pub keeps_keys : (old new : Store) (Is : Nogood → Type 0) → AddsExactly old new Is → KeepsKeys old new
keeps_keys old new Is adds = record {
  keeps = adds.keeps;
  each = λ key stored is. elim (adds.each key stored is) [
    | inl before ↦ inl before
    | inr (nogood, same, p) ↦ inr (ap (λ (s : Stored). s.kind) same)
  ];
  given = adds.given;
  fresh = adds.fresh;
  kept = adds.kept;
}

-- what a store has then
pub has_after : (old new : Store) (P Q R : Nogood → Type 0) → HasExactly old P → AddsExactly old new Q
    → ((n : Nogood) → R n → P n ⊎ Q n) → ((n : Nogood) → P n → R n) → ((n : Nogood) → Q n → R n) → HasExactly new R
has_after old new P Q R has adds cases left right = λ nogood. (
  λ (key, is). elim (adds.each key (base_of nogood) is) [
    | inl before ↦ left nogood ((has nogood).0 (key, before))
    | inr (other, same, q) ↦ right nogood (subst Q (sym (ap (λ (s : Stored). s.lits) same)) q)
  ],
  λ r. elim (cases nogood r) [
    | inl p ↦ let (key, is) = (has nogood).1 p in (key, adds.keeps key (base_of nogood) is)
    | inr q ↦ adds.all nogood q
  ],
)
