-- A table after a word and then a node were added to it.
use Rattle.std.proofs.Common.{◌≡◌, ℕ, ◌⊎◌, List, [], ◌∷◌, ◌++◌, sym, ap, ◌∙◌, subst}
use Rattle.std.specs.Prelude.{Result, Ok, Err, IfOk, OnErr}
use Rattle.ms_base.specs.declared.memory.OutOfMemory.{OutOfMemory}
use Rattle.ms_tree.specs.Tree.{Tree}
use Rattle.ms_term.specs.declared.node.Node.{Node}
use Rattle.ms_term.specs.declared.table.Table.{Table}
use Rattle.ms_term.specs.Terms.{Names}
use Rattle.ms_term.specs.Tables.{tree_of, trees, Fits, IsKept, IsInserted, IsSameTable}
use Rattle.ms_term.specs.Words.{AreOnce}
use Rattle.ms_term.proofs.NodeTables.{IsKept-word}

module _ (ws new : List (List ℕ)) (bytes : List ℕ) (old next : Table) where
  same_kept : (vs : List (List ℕ)) → IsKept vs old.nodes.keys old.small → IsSameTable old next → IsKept vs next.nodes.keys next.small
  same_kept vs kept same =
      subst (λ small. IsKept vs next.nodes.keys small) (sym same.small) (subst (λ keys. IsKept vs keys old.small) (sym same.nodes) kept)

  pub kept_after : (node : Node) (r : Result ℕ OutOfMemory) → IsKept ws old.nodes.keys old.small → (new ≡ ws) ⊎ (new ≡ ws ++ bytes ∷ []) → AreOnce new
      → ((ts : List Tree) → ts ≡ trees ws old.nodes.keys → Fits new ts node) → IfOk r (IsInserted old next node) → OnErr r (IsSameTable old next) → IsKept new next.nodes.keys next.small
  kept_after node (Ok i) kept grows once fits ok err =
      let wordier = IsKept-word ws new bytes old.nodes.keys old.small kept grows once in
      (ok new wordier.kept (fits _ wordier.same)).0
  kept_after node (Err e) kept grows once fits ok err =
      let wordier = IsKept-word ws new bytes old.nodes.keys old.small kept grows once in
      same_kept new wordier.kept err

  pub named_after : (node : Node) (r : Result ℕ OutOfMemory) → IsKept ws old.nodes.keys old.small → (new ≡ ws) ⊎ (new ≡ ws ++ bytes ∷ []) → AreOnce new
      → ((ts : List Tree) → ts ≡ trees ws old.nodes.keys → Fits new ts node) → IfOk r (IsInserted old next node)
      → IfOk r (Names (trees ws old.nodes.keys) (trees new next.nodes.keys) (tree_of new (trees ws old.nodes.keys) node))
  named_after node (Ok i) kept grows once fits ok =
      let wordier = IsKept-word ws new bytes old.nodes.keys old.small kept grows once in
      subst (λ ts. Names ts (trees new next.nodes.keys) (tree_of new ts node) i) wordier.same (ok new wordier.kept (fits _ wordier.same)).1
  named_after node (Err e) kept grows once fits ok = tt

  pub same_after : (r : Result ℕ OutOfMemory) → IsKept ws old.nodes.keys old.small → (new ≡ ws) ⊎ (new ≡ ws ++ bytes ∷ []) → AreOnce new
      → OnErr r (IsSameTable old next) → OnErr r (trees new next.nodes.keys ≡ trees ws old.nodes.keys)
  same_after (Ok i) kept grows once err = tt
  same_after (Err e) kept grows once err =
      let wordier = IsKept-word ws new bytes old.nodes.keys old.small kept grows once in
      ap (trees new) err.nodes ∙ wordier.same
