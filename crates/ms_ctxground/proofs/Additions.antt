-- What the new names of atoms are, where they are added to a base.
use Rattle.std.proofs.Common.{◌≡◌, ◌≢◌, ℕ, ◌<◌, List, ◌++◌, length, map, get_or, sym, subst, arith, ⊎_elim, inl, inr, true, Less, Equal}
use Rattle.std.proofs.lemmas.Cmp.{tied_itself}
use Rattle.std.proofs.lemmas.List.{get_or-map, length-map}
use Rattle.std.proofs.lemmas.List.Elements.{Contains-append_left, Contains-append_right, Contains-get_or}
use Rattle.std.proofs.lemmas.Map.Keys.{Less-from_sorted}
use Rattle.std.specs.List.{All, AllPairs, Contains}
use Rattle.std.specs.Option.{ForSome}
use Rattle.std.specs.List.Sorted.{IsStrictlySortedBy}
use Rattle.ms_tree.specs.Tree.{Tree}
use Rattle.ms_tree.specs.Order.{compare_trees}
use Rattle.ms_term.specs.Terms.{term_at}
use Rattle.ms_copies.specs.Grounding.{gives_head, gives_external}
use Rattle.ms_instances.specs.declared.instance.Instance.{Instance}
use Rattle.ms_instances.specs.Instances.{IsHeaded}
use Rattle.ms_ctxground.specs.NewAtoms.{IsNewOf}
use Rattle.ms_ctxground.proofs.GroundModules.{either_kind, outputs_of, externals_of}
use Rattle.ms_ctxground.proofs.Heads.{to_heads}
use Rattle.ms_ctxground.proofs.Members.{in_or_not}
use Rattle.ms_term.proofs.TotalOrder.{compare_trees_total}

pub all_new : {table : List Tree} {old outputs externals names : List ℕ} → IsNewOf table old outputs externals names → All (λ n. Contains old n → ⊥) names
all_new {table} {old} {outputs} {externals} {names} are k d within = ((are.members (get_or names k d)).0 (Contains-get_or names k d within)).1

pub all_different : (table : List Tree) (names : List ℕ) → IsStrictlySortedBy compare_trees (map (term_at table) names) → AllPairs (λ m n. m ≢ n) names
all_different table names rising i j d before within same =
    let t : Tree = term_at table d in
    let inside : j < length (map (term_at table) names) = omega (arith, length-map names (term_at table)) in
    let earlier : i < length names = omega arith in
    let rises = Less-from_sorted compare_trees (map (term_at table) names) i j t rising before inside in
    let named : compare_trees (term_at table (get_or names i d)) (term_at table (get_or names j d)) ≡ Less = rw (get_or-map (term_at table) names i d t earlier, get_or-map (term_at table) names j d t within) at rises in
    let tied : compare_trees (term_at table (get_or names i d)) (term_at table (get_or names i d)) ≡ Equal = tied_itself compare_trees_total (term_at table (get_or names i d)) in
    let moved : compare_trees (term_at table (get_or names i d)) (term_at table (get_or names i d)) ≡ Less = subst (λ n. compare_trees (term_at table (get_or names i d)) (term_at table n) ≡ Less) (sym same) named in
    cc

-- each head is an atom of the base or a new one
pub heads_there : (table : List Tree) (instances : List Instance) (old names : List ℕ) → All (λ i. IsHeaded i.kind i.head) instances → IsNewOf table old (outputs_of instances) (externals_of instances) names → All (λ i. ForSome i.head (Contains (old ++ names))) instances
heads_there table instances old names headed are k d within x e =
    let i : Instance = get_or instances k d in
    let listed = Contains-get_or instances k d within in
    ⊎_elim
    (λ (known : Contains old x). Contains-append_left old names x known)
    (λ (unknown : Contains old x → ⊥).
    Contains-append_right old names x ((are.members x).1 (
      ⊎_elim
          (λ (out : gives_head i.kind ≡ true). inl (to_heads gives_head instances i x listed out e))
          (λ (ext : gives_external i.kind ≡ true). inr (to_heads gives_external instances i x listed ext e))
          (either_kind i.kind i.head x (headed k d within) e),
      unknown,
    )))
    (in_or_not old x)
