-- The sizes of known atoms.
use Rattle.std.proofs.Common.{◌≡◌, ◌<◌, ◌≤◌, List, Some, map, sym, ap, subst, ⊎_elim, inl, inr, ◌⊎◌, Bool, true}
use Rattle.std.proofs.lemmas.Bool.{cases_lt}
use Rattle.std.proofs.lemmas.List.Elements.{All-contains}
use Rattle.std.specs.Prelude.{option_map}
use Rattle.std.specs.List.{All, Contains}
use Rattle.ms_tree.specs.Tree.{Tree}
use Rattle.ms_tree.specs.Size.{tree_size}
use Rattle.ms_term.specs.Terms.{term_at}
use Rattle.ms_core.specs.declared.rule.RuleKind.{RuleKind}
use Rattle.ms_copies.specs.Grounding.{gives_head, gives_external}
use Rattle.ms_copies.specs.Limits.{most_symbols}
use Rattle.ms_instances.specs.declared.instance.Instance.{Instance}
use Rattle.ms_instances.specs.Instances.{said_by, IsHeadAmong, IsHeaded, IsKnownBy}
use Rattle.ms_ctxground.specs.Sizes.{HasLargeHead}
use Rattle.ms_ctxground.proofs.GroundModules.{either_kind}
use Rattle.ms_ctxground.proofs.Heads.{mapped_some}
use Rattle.ms_ctxground.proofs.Members.{Any-map, Any-from_map}
use Rattle.ms_ctxground.proofs.Numbered.{some_and, from_some_and}

module _ (table : List Tree) (instances : List Instance) where
  -- the term of a head is no larger than any head is
  head_small : (HasLargeHead table instances → ⊥) → (is_kind : RuleKind → Bool) (t : Tree) → IsHeadAmong is_kind (map (said_by table) instances) t → tree_size t ≤ most_symbols
  head_small none is_kind t h =
      let (i, (k, within, at), both) = Any-from_map (said_by table) (λ s. (is_kind s.kind ≡ true) × (s.head ≡ Some t)) instances h in
      let (n, head_is, alike) = mapped_some (term_at table) i.head t both.1 in
      ⊎_elim
      (λ (large : most_symbols < tree_size t).
      absurd (none (k, i, within, at, some_and (λ m. most_symbols < tree_size (term_at table m)) i.head n head_is (subst (λ u. most_symbols < tree_size u) (sym alike) large))))
      (λ (small : tree_size t ≤ most_symbols). small)
      (cases_lt most_symbols (tree_size t))

  pub small_known : (base : List Tree) → All (λ t. tree_size t ≤ most_symbols) base → (HasLargeHead table instances → ⊥) → (t : Tree) → IsKnownBy base (map (said_by table) instances) t → tree_size t ≤ most_symbols
  small_known base small none t known =
      ⊎_elim
      (λ (old : Contains base t). All-contains (λ u. tree_size u ≤ most_symbols) base t small old)
      (λ (new : IsHeadAmong gives_head (map (said_by table) instances) t ⊎ IsHeadAmong gives_external (map (said_by table) instances) t).
      ⊎_elim
      (λ (out : IsHeadAmong gives_head (map (said_by table) instances) t). head_small none gives_head t out)
      (λ (ext : IsHeadAmong gives_external (map (said_by table) instances) t). head_small none gives_external t ext)
      new)
      known

  pub large_known : (base : List Tree) → All (λ i. IsHeaded i.kind i.head) instances → HasLargeHead table instances → (t : Tree) × IsKnownBy base (map (said_by table) instances) t × (most_symbols < tree_size t)
  large_known base headed (k, i, within, at, is) =
      let (n, large, head_is) = from_some_and (λ m. most_symbols < tree_size (term_at table m)) i.head is in
      let is_headed = All-contains (λ j. IsHeaded j.kind j.head) instances i headed (k, within, at) in
      let named : option_map (term_at table) i.head ≡ Some (term_at table n) = ap (option_map (term_at table)) head_is in (
        term_at table n,
        inr (⊎_elim
            (λ (out : gives_head i.kind ≡ true). inl (Any-map (said_by table) (λ s. (gives_head s.kind ≡ true) × (s.head ≡ Some (term_at table n))) instances i (k, within, at) (out, named)))
            (λ (ext : gives_external i.kind ≡ true). inr (Any-map (said_by table) (λ s. (gives_external s.kind ≡ true) × (s.head ≡ Some (term_at table n))) instances i (k, within, at) (ext, named)))
            (either_kind i.kind i.head n is_headed head_is)),
        large,
      )
