-- Atoms of a base by their terms.
use Rattle.std.proofs.Common.{◌≡◌, ℕ, ◌<◌, List, map, length, get_or, All, Contains, Option, Some, None, sym, ap, subst, ◌∙◌, arith}
use Rattle.std.specs.Prelude.{option_map, MatchOption}
use Rattle.std.proofs.lemmas.List.{get_or-map, length-map}
use Rattle.std.proofs.lemmas.Option.{slice_get-map, slice_get_within, get_or_from_slice_get, slice_get-get_or}
use Rattle.ms_tree.specs.Tree.{Tree}
use Rattle.ms_term.specs.Terms.{term_at, HasNo, IsNameOf}
use Rattle.ms_atombase.specs.Bases.{IsPlaceOf}
use Rattle.ms_session.specs.Kept.{IsAtomOf, IsNumberOf}
use Rattle.ms_session.specs.Naming.{IsNamedIn}

-- a base has no term that its table lacks
pub lacking : (table : List Tree) (base : List ℕ) (t : Tree) → All (λ n. n < length table) base → HasNo table t → ¬ Contains (map (term_at table) base) t
lacking table base t named lacks c =
    let within : c.0 < length base = omega (arith, c.1, length-map base (term_at table)) in
    let is : term_at table (get_or base c.0 0) ≡ t = sym (get_or-map (term_at table) base c.0 0 t within) ∙ c.2 in
    lacks (get_or base c.0 0) (named c.0 0 within) is

not_there : (table : List Tree) (base : List ℕ) (t : Tree) (i : ℕ) → IsNameOf table t i → All (λ n. n < length table) base
    → ¬ Contains base i → ¬ Contains (map (term_at table) base) t
not_there table base t i name named missing c =
    let within : c.0 < length base = omega (arith, c.1, length-map base (term_at table)) in
    let is : term_at table (get_or base c.0 i) ≡ t = sym (get_or-map (term_at table) base c.0 i t within) ∙ c.2 in
    missing (c.0, within, name.only (get_or base c.0 i) (named c.0 i within) is)

there_it_is : (table : List Tree) (base : List ℕ) (t : Tree) (i a : ℕ) → IsNameOf table t i → All (λ n. n < length table) base
    → IsPlaceOf base i a → IsAtomOf (map (term_at table) base) t a
there_it_is table base t i a name named place = record {
  there = slice_get-map (term_at table) base a ∙ ap (option_map (term_at table)) place.there ∙ ap Some name.names;
  only = λ b is.
      let in_names : b < length (map (term_at table) base) = slice_get_within (map (term_at table) base) b t is in
      let within : b < length base = omega (arith, in_names, length-map base (term_at table)) in
      let at : term_at table (get_or base b i) ≡ t = sym (get_or-map (term_at table) base b i t within) ∙ get_or_from_slice_get (map (term_at table) base) b t t is in
      let same : get_or base b i ≡ i = name.only (get_or base b i) (named b i within) at in
      place.only b (slice_get-get_or base b i within ∙ ap Some same);
}

pub finds : (table : List Tree) (base : List ℕ) (t : Tree) (i : ℕ) (r : Option ℕ) → IsNameOf table t i → All (λ n. n < length table) base
    → MatchOption r (¬ Contains base i) (IsPlaceOf base i) → IsNumberOf (map (term_at table) base) t r
finds table base t i None name named h = not_there table base t i name named h
finds table base t i (Some a) name named h = there_it_is table base t i a name named h

pub no_name : (table : List Tree) (t : Tree) (name : Option ℕ) → name ≡ None → IsNamedIn table t name → HasNo table t
no_name table t name is h = subst (λ (n : Option ℕ). IsNamedIn table t n) is h

pub some_name : (table : List Tree) (t : Tree) (name : Option ℕ) (i : ℕ) → name ≡ Some i → IsNamedIn table t name → IsNameOf table t i
some_name table t name i is h = subst (λ (n : Option ℕ). IsNamedIn table t n) is h
