-- Names that were seen, and whether they differ.
use Rattle.std.proofs.Common.{◌≡◌, ◌≢◌, ℕ, ◌+◌, ◌<◌, ◌≤◌, Bool, true, false, not, List, [], ◌∷◌, ◌++◌, length, take, get_or, refl, sym, ap, ◌∙◌, inl, inr, ◌⊎◌, subst, AllPairs, Ordering, arith}
use Rattle.std.specs.List.{Contains}
use Rattle.std.specs.Ordering.{nat_cmp, eq_by_cmp}
use Rattle.std.specs.Cmp.Lexicographic.{slice_cmp}
use Rattle.std.specs.BTreeSet.{BTreeSet, contains, Updates}
use Rattle.std.proofs.lemmas.List.{take_more, take_all, length-take, get_or-take, get_or_default}
use Rattle.std.proofs.lemmas.List.Elements.{Contains-get_or, Contains-append_left, Contains-push, Contains-push_cases}
use Rattle.std.proofs.lemmas.List.Quantifiers.{all_pairs_push}
use Rattle.std.proofs.lemmas.Cmp.{nat_list_cmp_total, eq_by_cmp_equiv}
use Rattle.std.proofs.lemmas.Map.Lookups.{exact_bytes}
use Rattle.std.proofs.lemmas.Map.Views.{tells_apart}

abbrev bytes_cmp : List ℕ → List ℕ → Ordering
bytes_cmp = slice_cmp nat_cmp

abbrev has : BTreeSet (List ℕ) → List ℕ → Bool
has = contains bytes_cmp

abbrev Differ : List (List ℕ) → Type 0
Differ names = AllPairs (λ p q. p ≢ q) names

-- The set has just these names, no two of which are alike.
pub record AreSeen (seen : BTreeSet (List ℕ)) (names : List (List ℕ)) : Type 0 where
  pub among : (q : List ℕ) → has seen q ≡ true → Contains names q
  pub all : (q : List ℕ) → Contains names q → has seen q ≡ true
  pub differ : Differ names

pub none_seen : (seen : BTreeSet (List ℕ)) → seen.keys ≡ [] → AreSeen seen []
none_seen seen e = record {
  among = λ q h. absurd (let t = rw e at h in let f : ⊥ = cc in f);
  all = λ q h. absurd (omega arith);
  differ = λ i j d lt within. absurd (omega arith);
}

module _ (seen after : BTreeSet (List ℕ)) (names : List (List ℕ)) (key : List ℕ) (h : AreSeen seen names) (new : has seen key ≡ false) (updates : Updates bytes_cmp seen after key true) where
  among_more : (q : List ℕ) (b : Bool) → eq_by_cmp bytes_cmp key q ≡ b → has after q ≡ true → Contains (names ++ key ∷ []) q
  among_more q true e t = subst (λ (x : List ℕ). Contains (names ++ key ∷ []) x) (tells_apart exact_bytes key q e) (Contains-push names key)
  among_more q false e t = Contains-append_left names (key ∷ []) q (h.among q (let same : has after q ≡ has seen q = rw (updates.0 q, e) refl in sym same ∙ t))

  all_by_test : (q : List ℕ) (b : Bool) → eq_by_cmp bytes_cmp key q ≡ b → Contains names q → has after q ≡ true
  all_by_test q true e w = rw (updates.0 q, e) refl
  all_by_test q false e w = rw (updates.0 q, e) (h.all q w)

  all_more : (q : List ℕ) → Contains names q ⊎ (key ≡ q) → has after q ≡ true
  all_more q (inl w) = all_by_test q _ refl w
  all_more q (inr e) = rw (updates.0 q, ← e, (eq_by_cmp_equiv nat_list_cmp_total).refl key) refl

  not_among : (k : ℕ) (d : List ℕ) → k < length names → get_or names k d ≡ key → ⊥
  not_among k d within e =
      let there : Contains names key = subst (λ (x : List ℕ). Contains names x) e (Contains-get_or names k d within) in
      let old : has seen key ≡ true = h.all key there in
      let f : ⊥ = cc in f

  seen_more : AreSeen after (names ++ key ∷ [])
  seen_more = record {
    among = λ q t. among_more q _ refl t;
    all = λ q w. all_more q (Contains-push_cases names key q w);
    differ = all_pairs_push (λ p q. p ≢ q) names key h.differ (λ k d within. not_among k d within);
  }

module _ (names : List (List ℕ)) (i : ℕ) (inside : i < length names) (key d : List ℕ) (is : key ≡ get_or names i d) (seen : BTreeSet (List ℕ)) (h : AreSeen seen (take i names)) where
  up_to_more : take (i + 1) names ≡ take i names ++ key ∷ []
  up_to_more = take_more names i d inside ∙ ap (λ k. take i names ++ k ∷ []) (sym is)

  -- the next name is a new one
  pub seen_next : (after : BTreeSet (List ℕ)) → has seen key ≡ false → Updates bytes_cmp seen after key true → AreSeen after (take (i + 1) names)
  seen_next after new updates = rw up_to_more (seen_more seen after (take i names) key h new updates)

  -- the next name was there before
  pub alike_from_seen : has seen key ≡ true → Differ names → ⊥
  alike_from_seen old differ =
      let c = h.among key old in
      let at = length-take i names in
      let before : c.0 < i = omega (arith, c.1) in
      let name_at : get_or names c.0 key ≡ key = sym (get_or-take i names c.0 key before) ∙ c.2 in
      let next_at : get_or names i key ≡ key = get_or_default names i key d inside ∙ sym is in
      differ c.0 i key before inside (name_at ∙ sym next_at)

-- all names have been seen
pub all_apart : (seen : BTreeSet (List ℕ)) (n : ℕ) (names : List (List ℕ)) → length names ≤ n → AreSeen seen (take n names) → Differ names
all_apart seen n names all h = rw (take_all n names all) at h.differ

-- what `insert` tells of the set before
pub was_seen : (new seen : Bool) → new ≡ not seen → new ≡ false → seen ≡ true
was_seen new true e h = refl
was_seen new false e h = cc

pub was_new : (new seen : Bool) → new ≡ not seen → new ≡ true → seen ≡ false
was_new new true e h = cc
was_new new false e h = refl
