-- The places that are marked for the literals of a nogood.
use Rattle.std.proofs.Common.{ℕ, ◌≡◌, ◌<◌, ◌≤◌, ◌⊎◌, inl, inr, zero, suc, List, [], ◌∷◌, Bool, true, false, cond, refl, sym, subst, arith, All}
use Rattle.std.specs.Prelude.{Contains, nat_le, nat_lt}
use Rattle.std.specs.Ordering.{match_ordering, nat_cmp}
use Rattle.std.specs.BTreeSet.{insert_key}
use Rattle.std.specs.declared.cmp.Ordering.{Ordering}
use Rattle.std.specs.declared.cmp.Ordering.TheVariants.{Less, Equal, Greater}
use Rattle.std.proofs.lemmas.Bool.{and_from, and_parts, both_ways, le-leb, lt-ltb, ltb-true}
use Rattle.std.proofs.lemmas.Map.Lookups.{exact_unsigned}
use Rattle.std.proofs.lemmas.Map.Views.{All-insert_key}
use Rattle.ms_lits.specs.declared.lit.Lit.{Lit}
use Rattle.ms_lits.specs.declared.trail.Entry.{Entry}
use Rattle.ms_lits.specs.Literals.{Nogood}
use Rattle.ms_lits.specs.Assignment.{place_in}
use Rattle.ms_analyze.specs.Cuts.{is_between, marked, marked_one}

pub Contains-first : {X : Type 0} (x : X) (xs : List X) → Contains (x ∷ xs) x
Contains-first x xs = (0, omega arith, refl)

pub Contains-behind : {X : Type 0} (x : X) (xs : List X) (y : X) → Contains xs y → Contains (x ∷ xs) y
Contains-behind x xs y (k, h, e) = (suc k, omega arith, e)

pub Contains-cases : {X : Type 0} (x : X) (xs : List X) (y : X) → Contains (x ∷ xs) y → (x ≡ y) ⊎ Contains xs y
Contains-cases x xs y (zero, h, e) = inl e
Contains-cases x xs y (suc k, h, e) = inr (k, omega arith, e)

-- by how the new key compares to the first one
has_placed : (k x : ℕ) (xs rest : List ℕ) (o : Ordering) → nat_cmp k x ≡ o → Contains rest k → Contains (match_ordering o (k ∷ x ∷ xs) (x ∷ xs) (x ∷ rest)) k
has_placed k x xs rest Less is behind = Contains-first k (x ∷ xs)
has_placed k x xs rest Equal is behind = subst (Contains (x ∷ xs)) (sym (exact_unsigned k x is)) (Contains-first x xs)
has_placed k x xs rest Greater is behind = Contains-behind x rest k behind

pub insert_has : (xs : List ℕ) (k : ℕ) → Contains (insert_key nat_cmp xs k) k
insert_has [] k = Contains-first k []
insert_has (x ∷ xs) k = has_placed k x xs (insert_key nat_cmp xs k) (nat_cmp k x) refl (insert_has xs k)

kept_placed : (k x p : ℕ) (xs rest : List ℕ) (o : Ordering) → (Contains xs p → Contains rest p) → Contains (x ∷ xs) p → Contains (match_ordering o (k ∷ x ∷ xs) (x ∷ xs) (x ∷ rest)) p
kept_placed k x p xs rest Less behind among = Contains-behind k (x ∷ xs) p among
kept_placed k x p xs rest Equal behind among = among
kept_placed k x p xs rest Greater behind among = elim (Contains-cases x xs p among) [
  | inl here ↦ subst (Contains (x ∷ rest)) here (Contains-first x rest)
  | inr there ↦ Contains-behind x rest p (behind there)
]

pub insert_keeps : (xs : List ℕ) (k p : ℕ) → Contains xs p → Contains (insert_key nat_cmp xs k) p
insert_keeps [] k p among = Contains-behind k [] p among
insert_keeps (x ∷ xs) k p among = kept_placed k x p xs (insert_key nat_cmp xs k) (nat_cmp k x) (insert_keeps xs k p) among

-- one literal more
one_keeps : (b : Bool) (places : List ℕ) (k p : ℕ) → Contains places p → Contains (cond b (insert_key nat_cmp places k) places) p
one_keeps true places k p among = insert_keeps places k p among
one_keeps false places k p among = among

one_has : (places : List ℕ) (k fixed below : ℕ) (b : Bool) → is_between fixed below k ≡ b → fixed ≤ k → k < below → Contains (cond b (insert_key nat_cmp places k) places) k
one_has places k fixed below true is from lt = insert_has places k
one_has places k fixed below false is from lt = absurd (both_ways (is_between fixed below k) is (and_from (nat_le fixed k) (nat_lt k below) (le-leb fixed k from) (lt-ltb k below lt)))

one_all : (P : ℕ → Type 0) (places : List ℕ) (k : ℕ) (b : Bool) → All P places → (b ≡ true → P k) → All P (cond b (insert_key nat_cmp places k) places)
one_all P places k true all this = All-insert_key nat_cmp k P places all (this refl)
one_all P places k false all this = all

-- what was marked stays so
pub marked_keeps : (entries : List Entry) (fixed below : ℕ) (places : List ℕ) (lits : Nogood) (p : ℕ) → Contains places p → Contains (marked entries fixed below places lits) p
marked_keeps entries fixed below places [] p among = among
marked_keeps entries fixed below places (lit ∷ lits) p among =
    marked_keeps entries fixed below (marked_one entries fixed below places lit) lits p
    (one_keeps (is_between fixed below (place_in entries lit.var)) places (place_in entries lit.var) p among)

-- each literal below the bound is marked
pub marked_has : (entries : List Entry) (fixed below : ℕ) (places : List ℕ) (lits : Nogood) (lit : Lit) → Contains lits lit → fixed ≤ place_in entries lit.var → place_in entries lit.var < below → Contains (marked entries fixed below places lits) (place_in entries lit.var)
marked_has entries fixed below places [] lit among from under = absurd (let h : among.0 < 0 = among.1 in omega (arith, h))
marked_has entries fixed below places (first ∷ lits) lit among from under = elim (Contains-cases first lits lit among) [
  | inl here ↦ subst (λ (l : Lit). Contains (marked entries fixed below places (first ∷ lits)) (place_in entries l.var)) here
      (marked_keeps entries fixed below (marked_one entries fixed below places first) lits (place_in entries first.var)
      (one_has places (place_in entries first.var) fixed below (is_between fixed below (place_in entries first.var)) refl (subst (λ (l : Lit). fixed ≤ place_in entries l.var) (sym here) from) (subst (λ (l : Lit). place_in entries l.var < below) (sym here) under)))
  | inr there ↦ marked_has entries fixed below (marked_one entries fixed below places first) lits lit there from under
]

-- what holds of the places, and of each below the bound, holds of all that are marked
pub marked_all : (P : ℕ → Type 0) (entries : List Entry) (fixed below : ℕ) (places : List ℕ) (lits : Nogood) → All P places → ((p : ℕ) → p < below → P p) → All P (marked entries fixed below places lits)
marked_all P entries fixed below places [] all under = all
marked_all P entries fixed below places (lit ∷ lits) all under =
    marked_all P entries fixed below (marked_one entries fixed below places lit) lits
    (one_all P places (place_in entries lit.var) (is_between fixed below (place_in entries lit.var)) all (λ is. under (place_in entries lit.var) (ltb-true (place_in entries lit.var) below (and_parts (nat_le fixed (place_in entries lit.var)) (nat_lt (place_in entries lit.var) below) is).1)))
    under
