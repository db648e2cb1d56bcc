-- What holds of what is found, where something is found.
use Rattle.std.proofs.Common.{◌≡◌, Bool, true, false, Option, Some, None, refl, if◌then◌else◌}
use Rattle.std.specs.Option.{IfSome, option_map, option_and_then}
use Rattle.ms_grammar.specs.Terms.{both}

module _ {A B C : Type 0} where
  pub both_some : (f : A → B → Option C) (P : A → Type 0) (Q : B → Type 0) (R : C → Type 0) → ((x : A) (y : B) → P x → Q y → IfSome (f x y) R) → (a : Option A) (b : Option B) → IfSome a P → IfSome b Q → IfSome (both f a b) R
  both_some f P Q R h None None p q = tt
  both_some f P Q R h None (Some y) p q = tt
  both_some f P Q R h (Some x) None p q = tt
  both_some f P Q R h (Some x) (Some y) p q = h x y p q

module _ {A B : Type 0} where
  pub then_some : (f : A → Option B) (P : A → Type 0) (R : B → Type 0) → ((x : A) → P x → IfSome (f x) R) → (a : Option A) → IfSome a P → IfSome (option_and_then f a) R
  then_some f P R h None p = tt
  then_some f P R h (Some x) p = h x p

  pub map_some : (f : A → B) (P : A → Type 0) (R : B → Type 0) → ((x : A) → P x → R (f x)) → (a : Option A) → IfSome a P → IfSome (option_map f a) R
  map_some f P R h None p = tt
  map_some f P R h (Some x) p = h x p

module _ {A : Type 0} where
  pub kept : (R : A → Type 0) (b : Bool) (x : A) → ((if b then Some x else None) ≡ Some x → b ≡ true → R x) → IfSome (if b then Some x else None) R
  kept R true x h = h refl refl
  kept R false x h = tt

  pub weaker : (a : Option A) (P R : A → Type 0) → ((x : A) → P x → R x) → IfSome a P → IfSome a R
  weaker None P R h p = tt
  weaker (Some x) P R h p = h x p
