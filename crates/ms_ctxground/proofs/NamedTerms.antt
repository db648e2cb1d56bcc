-- What names say in a base of names, their terms say in the base of terms, since equal terms have equal names.
use Rattle.std.proofs.Common.{◌≡◌, ℕ, ◌<◌, List, Option, Some, None, length, map, refl, ap, ◌∙◌, subst, get_or}
use Rattle.std.proofs.lemmas.List.Elements.{All-contains, All-map, Contains-get_or}
use Rattle.std.proofs.lemmas.Option.{slice_get-map}
use Rattle.std.specs.Prelude.{IsSomeAnd, option_map}
use Rattle.std.specs.List.{All, Any, Contains, slice_get}
use Rattle.ms_tree.specs.Tree.{Tree}
use Rattle.ms_term.specs.Terms.{term_at, AllDifferent}
use Rattle.ms_join.specs.declared.ground_rule.GroundRule.{GroundRule}
use Rattle.ms_join.specs.declared.ground_rule.GroundKind.{GroundKind}
use Rattle.ms_copies.specs.Simplifying.{ground_kind, AreNumbers, IsNumbered}
use Rattle.ms_instances.specs.declared.instance.Instance.{Instance}
use Rattle.ms_instances.specs.Instances.{said_by, Leaves, AreLeftBy}
use Rattle.ms_ctxground.specs.Numbering.{AreNumbersOf, IsNumberOfHead}
use Rattle.ms_ctxground.specs.LeftRules.{IsLeftBy, AreLeftInOrder}
use Rattle.ms_instances.specs.Naming.{IsNamed}
use Rattle.ms_ctxground.proofs.Members.{Contains-map, Contains-from_map, Any-map}
use Rattle.ms_ctxground.proofs.Numbered.{some_and, from_some_and, Contains-from_slice_get}

module _ (table : List Tree) (different : AllDifferent table) where
  abbrev tree_of : ℕ → Tree
  tree_of n = term_at table n

  abbrev Below : List ℕ → Type 0
  Below names = All (λ n. n < length table) names

  -- a name whose term is among those of names is one of them
  pub one_of_names : (names : List ℕ) → Below names → (n : ℕ) → n < length table → Contains (map tree_of names) (tree_of n) → Contains names n
  one_of_names names below n within h =
      let (m, listed, alike) = Contains-from_map tree_of names (tree_of n) h in
      let same : m ≡ n = different m n (All-contains (λ k. k < length table) names m below listed) within alike in
      subst (Contains names) same listed

  all_of_names : (names of : List ℕ) → Below names → Below of → All (Contains (map tree_of names)) (map tree_of of) → All (Contains names) of
  all_of_names names of below of_below h k d within =
      let listed = All-contains (Contains (map tree_of names)) (map tree_of of) (tree_of (get_or of k d)) h (Contains-map tree_of of (get_or of k d) (Contains-get_or of k d within)) in
      one_of_names names below (get_or of k d) (of_below k d within) listed

  all_terms : (names of : List ℕ) → All (Contains names) of → All (Contains (map tree_of names)) (map tree_of of)
  all_terms names of h = All-map (Contains (map tree_of names)) tree_of of (λ k d within. Contains-map tree_of names (get_or of k d) (h k d within))

  back : (base names : List ℕ) → Below base → Below names → (a : ℕ) (o : Option ℕ) → slice_get base a ≡ o → IsSomeAnd (option_map tree_of (slice_get base a)) (Contains (map tree_of names)) → IsSomeAnd (slice_get base a) (Contains names)
  back base names base_below below a None e h = absurd (subst (λ o. IsSomeAnd (option_map tree_of o) (Contains (map tree_of names))) e h)
  back base names base_below below a (Some n) e h =
      let within = All-contains (λ k. k < length table) base n base_below (Contains-from_slice_get base a n e) in
      some_and (Contains names) (slice_get base a) n e (one_of_names names below n within (subst (λ o. IsSomeAnd (option_map tree_of o) (Contains (map tree_of names))) e h))

  pub numbers_of_terms : (base names numbers : List ℕ) → Below base → Below names → AreNumbersOf base names numbers → AreNumbers (map tree_of base) (Contains (map tree_of names)) numbers
  numbers_of_terms base names numbers base_below below are = record {
    rising = are.rising;
    members = λ a. (
      λ h.
          let (n, listed, there) = from_some_and (Contains names) (slice_get base a) ((are.members a).0 h) in
          some_and (Contains (map tree_of names)) (slice_get (map tree_of base) a) (tree_of n) (slice_get-map tree_of base a ∙ ap (option_map tree_of) there) (Contains-map tree_of names n listed),
      λ h. (are.members a).1 (back base names base_below below a (slice_get base a) refl (subst (λ o. IsSomeAnd o (Contains (map tree_of names))) (slice_get-map tree_of base a) h)),
    );
  }

  head_of_term : (base : List ℕ) (head number : Option ℕ) → IsNumberOfHead base head number → IsNumbered (map tree_of base) (option_map tree_of head) number
  head_of_term base None number is = is
  head_of_term base (Some n) number is =
      let (a, there, number_is) = from_some_and (λ a. slice_get base a ≡ Some n) number is in
      some_and (λ a. slice_get (map tree_of base) a ≡ Some (tree_of n)) number a number_is (slice_get-map tree_of base a ∙ ap (option_map tree_of) there)

  module _ (base : List ℕ) (base_below : Below base) where
    left_by_terms : (i : Instance) (g : GroundRule) → IsNamed (length table) i → IsLeftBy base i g → Leaves (map tree_of base) (said_by table i) g
    left_by_terms i g named is = record {
      kind = is.kind;
      head = head_of_term base i.head g.head is.head;
      known = all_terms base i.pos is.known;
      pos = numbers_of_terms base i.pos g.pos base_below named.pos is.pos;
      neg = numbers_of_terms base i.neg g.neg base_below named.neg is.neg;
      plain = is.plain;
    }

    pub left_in_terms : (instances : List Instance) (rules : List GroundRule) → All (IsNamed (length table)) instances → AreLeftInOrder base instances rules → AreLeftBy (map tree_of base) (map (said_by table) instances) rules
    left_in_terms instances rules named are = record {
      rising = are.rising;
      each = λ k d within.
          let (j, i, below, at, is) = are.all.each k d within in
          let is_named = All-contains (IsNamed (length table)) instances i named (j, below, at) in
          Any-map (said_by table) (λ s. Leaves (map tree_of base) s (get_or rules k d)) instances i (j, below, at) (left_by_terms i (get_or rules k d) is_named is);
      every = All-map (λ s. (kind : GroundKind) → ground_kind s.kind ≡ Some kind → All (Contains (map tree_of base)) s.pos → Any (Leaves (map tree_of base) s) rules) (said_by table) instances
          (λ k d within kind kind_is known.
          let i : Instance = get_or instances k d in
          let is_named : IsNamed (length table) i = named k d within in
          let (j, g, below, at, is) = are.all.every k d within (kind, kind_is, all_of_names base i.pos base_below is_named.pos known) in
          (j, g, below, at, left_by_terms i g is_named is));
    }
