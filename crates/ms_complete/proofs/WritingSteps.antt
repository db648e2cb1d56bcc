-- A list of literals is written one literal after the other.
use Rattle.std.proofs.Common.{◌≡◌, ◌≢◌, ◌∙◌, ◌+◌, ◌-◌, ◌<◌, ◌≤◌, ℕ, min, List, [], ◌∷◌, ◌++◌, Option, Some, None, take, length, get_or, sym, ap, subst, inl, inr, arith}
use Rattle.std.specs.Prelude.{slice_get}
use Rattle.std.specs.List.{All, AllPairs, Contains}
use Rattle.std.specs.List.Sorted.{IsPermutation}
use Rattle.std.proofs.lemmas.Bool.{cases_eq}
use Rattle.std.proofs.lemmas.List.{get_or-take, get_or_default, length-take}
use Rattle.std.proofs.lemmas.List.Elements.{All-contains, All-nil}
use Rattle.std.proofs.lemmas.List.Sorted.{Contains-permutation, IsPermutation-sym}
use Rattle.std.proofs.lemmas.Option.{get_or_from_slice_get, slice_get-get_or}
use Rattle.ms_lits.specs.declared.lit.Lit.{Lit}
use Rattle.ms_lits.specs.Literals.{Nogood}
use Rattle.ms_complete.specs.declared.written.Next.TheVariants.{Greater, Equal, Opposite}
use Rattle.ms_nogood.specs.Store.{Store, Adds}
use Rattle.ms_complete.specs.Bases.{AddsExactly, base_of}
use Rattle.ms_complete.specs.Next.{IsNext}
use Rattle.ms_complete.specs.Sets.{Writes, IsByVar}
use Rattle.ms_complete.proofs.Lists.{next_one, some_at, none_is_some, all_from}
use Rattle.ms_complete.proofs.Stores.{adds_none, adds_one}
use Rattle.ms_complete.proofs.Writing.{Rises, same_lit, writes_once, writes_same, written_none, written_known, written_new}

-- a member of a front stands before its end
member_take : (xs : List Lit) (i : ℕ) (x : Lit) → Contains (take i xs) x → (k : ℕ) × (k < i) × (k < length xs) × (get_or xs k x ≡ x)
member_take xs i x (k, within, is) =
    let long : length (take i xs) ≡ min i (length xs) = length-take i xs in
    let less : k < i = omega (arith, within, long) in
    (k, less, omega (arith, within, long), sym (get_or-take i xs k x less) ∙ is)

pub front_member : (xs : List Lit) (i : ℕ) (x : Lit) → Contains (take i xs) x → Contains xs x
front_member xs i x has = let (k, less, within, is) = member_take xs i x has in (k, within, is)

-- None is above the last of a rising list.
last_greatest : (nogood : Nogood) (last : Lit) → AllPairs Rises nogood → slice_get nogood (length nogood - 1) ≡ Some last → All (λ (l : Lit). l.var ≤ last.var) nogood
last_greatest nogood last rising at k d within =
    let end_is : get_or nogood (length nogood - 1) d ≡ last = get_or_from_slice_get nogood (length nogood - 1) last d at in
    let var : (get_or nogood (length nogood - 1) d).var ≡ last.var = ap (λ (l : Lit). l.var) end_is in
    elim (cases_eq k (length nogood - 1)) [
      | inl same ↦
          let here : (get_or nogood k d).var ≡ (get_or nogood (length nogood - 1) d).var = ap (λ (i : ℕ). (get_or nogood i d).var) same in
          omega (arith, here, var)
      | inr differ ↦
          let before : k < length nogood - 1 = omega (arith, within, differ) in
          let end_in : length nogood - 1 < length nogood = omega (arith, within) in
          let less : (get_or nogood k d).var < (get_or nogood (length nogood - 1) d).var = rising k (length nogood - 1) d before end_in in
          omega (arith, less, var)
    ]

module _ (lits : List Lit) (i : ℕ) (nogood : Nogood) (lit : Lit) (within : i < length lits) (here : lit ≡ get_or lits i lit) (sorted : IsByVar lits) (w : Writes (take i lits) nogood) where
  -- none of the literals so far is above the next one
  none_above : All (λ (l : Lit). l.var ≤ lit.var) nogood
  none_above = all_from (λ (l : Lit). l.var ≤ lit.var) nogood (λ l has.
      let (k, less, inside, is) = member_take lits i l (All-contains (Contains (take i lits)) nogood l w.each has) in
      let up_to : k ≤ i = omega (arith, less) in
      let order : (get_or lits k l).var ≤ (get_or lits i l).var = sorted k i l up_to within in
      let left : (get_or lits k l).var ≡ l.var = ap (λ (x : Lit). x.var) is in
      let right : lit.var ≡ (get_or lits i l).var = ap (λ (x : Lit). x.var) (here ∙ get_or_default lits i lit l within) in
      omega (arith, order, left, right))

  pub greater : (last : Option Lit) → slice_get nogood (length nogood - 1) ≡ last → IsNext last lit Greater → Writes (take (i + 1) lits) (nogood ++ lit ∷ [])
  greater None at is =
      subst (λ (ls : List Lit). Writes ls (nogood ++ lit ∷ [])) (sym (next_one lits i lit within here))
      (written_new (take i lits) nogood lit w (λ k d inside.
      let end_in : length nogood - 1 < length nogood = omega (arith, inside) in
      absurd (none_is_some (get_or nogood (length nogood - 1) d) (sym at ∙ slice_get-get_or nogood (length nogood - 1) d end_in))))
  greater (Some last) at is =
      subst (λ (ls : List Lit). Writes ls (nogood ++ lit ∷ [])) (sym (next_one lits i lit within here))
      (written_new (take i lits) nogood lit w (λ k d inside.
      let below : (get_or nogood k d).var ≤ last.var = last_greatest nogood last w.rising at k d inside in
      let among = some_at nogood (length nogood - 1) last at in
      let order : last.var ≤ lit.var = All-contains (λ (l : Lit). l.var ≤ lit.var) nogood last none_above among in
      omega (arith, below, order, is)))

  pub equal : (last : Option Lit) → slice_get nogood (length nogood - 1) ≡ last → IsNext last lit Equal → Writes (take (i + 1) lits) nogood
  equal None at is = absurd is
  equal (Some last) at is =
      subst (λ (ls : List Lit). Writes ls nogood) (sym (next_one lits i lit within here))
      (written_known (take i lits) nogood lit w (subst (Contains nogood) (same_lit last lit is.0 is.1) (some_at nogood (length nogood - 1) last at)))

  pub opposite : (last : Option Lit) → slice_get nogood (length nogood - 1) ≡ last → IsNext last lit Opposite → (other : Nogood) → ¬ Writes lits other
  opposite None at is other = absurd is
  opposite (Some last) at is other =
      let among = some_at nogood (length nogood - 1) last at in
      written_none lits last lit (front_member lits i last (All-contains (Contains (take i lits)) nogood last w.each among)) (i, within, sym here) is.0 is.1 other

-- A list and the same in another order are written alike.
pub writes_permuted : (lits others : List Lit) → IsPermutation lits others → (nogood : Nogood) → Writes others nogood → Writes lits nogood
writes_permuted lits others moved nogood w =
    writes_same others lits (λ x has. Contains-permutation others lits x (IsPermutation-sym lits others moved) has) (λ x has. Contains-permutation lits others x moved has) nogood w

pub writes_moved : (lits others : List Lit) → IsPermutation lits others → (nogood : Nogood) → Writes lits nogood → Writes others nogood
writes_moved lits others moved nogood w =
    writes_same lits others (λ x has. Contains-permutation lits others x moved has) (λ x has. Contains-permutation others lits x (IsPermutation-sym lits others moved) has) nogood w

-- A nogood has different variables.
pub different : (lits : List Lit) (nogood slice : Nogood) → slice ≡ nogood → Writes lits nogood → AllPairs (λ l m. l.var ≢ m.var) slice
different lits nogood slice is w =
    subst (λ (n : Nogood). AllPairs (λ l m. l.var ≢ m.var) n) (sym is) (λ i j d less within same. let below : (get_or nogood i d).var < (get_or nogood j d).var = w.rising i j d less within in omega (arith, below, same))

-- what adding the nogood of a sorted set adds
pub set_added : (lits sorted : List Lit) (nogood slice : Nogood) (key : ℕ) (old new : Store) → IsPermutation lits sorted → slice ≡ nogood → Writes sorted nogood → Adds old new (base_of slice) key → AddsExactly old new (Writes lits)
set_added lits sorted nogood slice key old new moved is w adds =
    adds_one old new nogood key (Writes lits) (subst (λ (n : Nogood). Adds old new (base_of n) key) is adds) (writes_permuted lits sorted moved nogood w)
    (λ n writes. writes_once sorted n nogood (writes_moved lits sorted moved n writes) w)

pub none_written : (lits sorted : List Lit) (store : Store) → IsPermutation lits sorted → ((n : Nogood) → ¬ Writes sorted n) → AddsExactly store store (Writes lits)
none_written lits sorted store moved none = adds_none store (Writes lits) (λ n writes. none n (writes_moved lits sorted moved n writes))

pub nothing_written : Writes [] []
nothing_written = record { rising = λ i j d less within. absurd (omega (arith, within)); each = All-nil (Contains []); all = All-nil (Contains []) }

-- the same for the literal in a place
module _ (lits : List Lit) (i : ℕ) (nogood : Nogood) (d : Lit) (within : i < length lits) (sorted : IsByVar lits) (w : Writes (take i lits) nogood) (last : Option Lit) (at : slice_get nogood (length nogood - 1) ≡ last) where
  pub greater_at : IsNext last (get_or lits i d) Greater → Writes (take (i + 1) lits) (nogood ++ get_or lits i d ∷ [])
  greater_at is = greater lits i nogood (get_or lits i d) within (get_or_default lits i d (get_or lits i d) within) sorted w last at is

  pub equal_at : IsNext last (get_or lits i d) Equal → Writes (take (i + 1) lits) nogood
  equal_at is = equal lits i nogood (get_or lits i d) within (get_or_default lits i d (get_or lits i d) within) sorted w last at is

  pub opposite_at : IsNext last (get_or lits i d) Opposite → (other : Nogood) → ¬ Writes lits other
  opposite_at is = opposite lits i nogood (get_or lits i d) within (get_or_default lits i d (get_or lits i d) within) sorted w last at is
