-- The least of atoms by their terms.
use Rattle.std.proofs.Common.{◌≡◌, ◌≢◌, ℕ, ◌+◌, ◌<◌, ◌≤◌, inl, inr, Some, List, [], map, length, get_or, take, slice_get, sym, ap, ◌∙◌, subst, arith, Contains, pos}
use Rattle.std.specs.List.{All}
use Rattle.std.specs.declared.cmp.Ordering.{Ordering}
use Rattle.std.specs.declared.cmp.Ordering.TheVariants.{Less}
use Rattle.std.proofs.lemmas.List.{take_all}
use Rattle.std.proofs.lemmas.List.Elements.{Contains-push_cases}
use Rattle.std.specs.Option.{option_map}
use Rattle.std.proofs.lemmas.Option.{slice_get-map, get_or_from_slice_get, slice_get_within}
use Rattle.ms_tree.specs.Tree.{Tree, number}
use Rattle.ms_tree.specs.Order.{compare_trees}
use Rattle.ms_term.specs.Terms.{term_at}
use Rattle.ms_term.proofs.Orders.{compare_trees-same}
use Rattle.ms_join.specs.Composability.{IsLeast, name_of}
use Rattle.ms_module.specs.Names.{names_of, IsLesser}
use Rattle.ms_term.proofs.TotalOrder.{compare_trees_total}
use Rattle.ms_module.proofs.Changes.{next_atom}

-- the term of an atom of the base
pub name-at : (table : List Tree) (base : List ℕ) (a t : ℕ) → slice_get base a ≡ Some t → name_of (names_of table base) a ≡ term_at table t
name-at table base a t is =
    get_or_from_slice_get (map (term_at table) base) a (term_at table t) (number (pos 0))
    (slice_get-map (term_at table) base a ∙ ap (option_map (term_at table)) is)

-- the term of an atom is one of the table
pub named : (bound a t : ℕ) (base : List ℕ) → All (λ t. t < bound) base → slice_get base a ≡ Some t → t < bound
named bound a t base all is =
    subst (λ n. n < bound) (get_or_from_slice_get base a t t is) (all a t (slice_get_within base a t is))

pub lesser_from : (table : List Tree) (base : List ℕ) (a b s t : ℕ) (o : Ordering) → slice_get base a ≡ Some s → slice_get base b ≡ Some t
    → o ≡ compare_trees (term_at table s) (term_at table t) → o ≡ compare_trees (name_of (names_of table base) a) (name_of (names_of table base) b)
lesser_from table base a b s t o at_a at_b is =
    is ∙ (ap (λ x. compare_trees x (term_at table t)) (sym (name-at table base a s at_a))
    ∙ ap (λ x. compare_trees (name_of (names_of table base) a) x) (sym (name-at table base b t at_b)))

-- the least so far: it is one of the atoms, and none of the first ones is less
pub record IsBest (names : List Tree) (atoms : List ℕ) (seen : List ℕ) (best : ℕ) : Type 0 where
  pub there : Contains atoms best
  pub least : (b : ℕ) → Contains seen b → compare_trees (name_of names b) (name_of names best) ≢ Less

pub best_none : (names : List Tree) (atoms : List ℕ) (best : ℕ) → Contains atoms best → IsBest names atoms [] best
best_none names atoms best there = record { there = there; least = λ b (k, within, is). absurd (omega arith) }

pub best_more : (names : List Tree) (atoms : List ℕ) (i a best next : ℕ) → IsBest names atoms (take i atoms) best → i < length atoms → a ≡ get_or atoms i a
    → IsLesser names a best next → IsBest names atoms (take (i + 1) atoms) next
best_more names atoms i a best next is within at lesser =
    subst (λ seen. IsBest names atoms seen next) (sym (next_atom atoms i a within at)) (elim lesser [
      | inl less ↦ record {
        there = (i, within, subst (λ n. get_or atoms i n ≡ n) (sym less.0) (sym at));
        least = λ b seen below.
            let under : compare_trees (name_of names b) (name_of names a) ≡ Less = subst (λ n. compare_trees (name_of names b) (name_of names n) ≡ Less) less.0 below in
            elim (Contains-push_cases (take i atoms) a b seen) [
              | inl before ↦ is.least b before (compare_trees_total.trans (name_of names b) (name_of names a) (name_of names best) under less.1)
              | inr last ↦
                  let same : compare_trees (name_of names a) (name_of names a) ≡ Less = subst (λ n. compare_trees (name_of names n) (name_of names a) ≡ Less) (sym last) under in
                  let equal = compare_trees-same (name_of names a) in
                  cc (same, equal)
            ];
      }
      | inr not_less ↦ record {
        there = subst (Contains atoms) (sym not_less.0) is.there;
        least = λ b seen below.
            let under : compare_trees (name_of names b) (name_of names best) ≡ Less = subst (λ n. compare_trees (name_of names b) (name_of names n) ≡ Less) not_less.0 below in
            elim (Contains-push_cases (take i atoms) a b seen) [
              | inl before ↦ is.least b before under
              | inr last ↦ not_less.1 (subst (λ n. compare_trees (name_of names n) (name_of names best) ≡ Less) (sym last) under)
            ];
      }
    ])

pub best_whole : (names : List Tree) (atoms : List ℕ) (i best : ℕ) → length atoms ≤ i → IsBest names atoms (take i atoms) best → IsLeast names (Contains atoms) best
best_whole names atoms i best le is = record {
  is = is.there;
  least = λ b has. is.least b (subst (λ seen. Contains seen b) (sym (take_all i atoms le)) has);
}

-- a least atom of a list is the least of those of which the list consists
pub least_of : (names : List Tree) (P Q : ℕ → Type 0) (a : ℕ) → ((b : ℕ) → P b → Q b) → ((b : ℕ) → Q b → P b) → IsLeast names P a → IsLeast names Q a
least_of names P Q a to from is = record { is = to a is.is; least = λ b has. is.least b (from b has) }
