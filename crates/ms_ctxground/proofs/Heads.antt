-- The heads of instances, by their names and by their terms.
use Rattle.std.proofs.Common.{◌≡◌, ℕ, ◌<◌, ◌≤◌, suc, List, [], ◌∷◌, Option, Some, None, Bool, true, false, length, map, get_or, refl, ap, ◌∙◌, subst, arith, if◌then◌else◌}
use Rattle.std.proofs.lemmas.List.Elements.{All-contains, Contains-get_or}
use Rattle.std.specs.Prelude.{IfSome, option_map}
use Rattle.std.specs.List.{All, Contains, cons_option, filter_map}
use Rattle.ms_tree.specs.Tree.{Tree}
use Rattle.ms_term.specs.Terms.{term_at}
use Rattle.ms_core.specs.declared.rule.RuleKind.{RuleKind}
use Rattle.ms_instances.specs.declared.instance.Instance.{Instance}
use Rattle.ms_instances.specs.Instances.{said_by, IsHeadAmong}
use Rattle.ms_ctxground.specs.NewAtoms.{head_of}
use Rattle.ms_instances.specs.Naming.{IsNamed}
use Rattle.ms_ctxground.proofs.Members.{Any-from_filter_map, Contains-filter_map, Contains-map, Contains-from_map, Any-map, Any-from_map}

if_some : (b : Bool) (o : Option ℕ) (n : ℕ) → (if b then o else None) ≡ Some n → (b ≡ true) × (o ≡ Some n)
if_some true o n e = (refl, e)
if_some false o n e = cc

some_if : (b : Bool) (o : Option ℕ) (n : ℕ) → b ≡ true → o ≡ Some n → (if b then o else None) ≡ Some n
some_if true o n is e = e
some_if false o n is e = cc

pub mapped_some : (f : ℕ → Tree) (o : Option ℕ) (t : Tree) → option_map f o ≡ Some t → (n : ℕ) × (o ≡ Some n) × (f n ≡ t)
mapped_some f None t e = cc
mapped_some f (Some n) t e = (n, refl, cc)

module _ (is_kind : RuleKind → Bool) where
  pub from_heads : (instances : List Instance) (n : ℕ) → Contains (filter_map (head_of is_kind) instances) n → (i : Instance) × Contains instances i × (is_kind i.kind ≡ true) × (i.head ≡ Some n)
  from_heads instances n h =
      let (k, i, within, at, e) = Any-from_filter_map (head_of is_kind) instances n h in
      let parts = if_some (is_kind i.kind) i.head n e in
      (i, (k, within, at), parts.0, parts.1)

  pub to_heads : (instances : List Instance) (i : Instance) (n : ℕ) → Contains instances i → is_kind i.kind ≡ true → i.head ≡ Some n → Contains (filter_map (head_of is_kind) instances) n
  to_heads instances i n (k, within, at) is e = Contains-filter_map (head_of is_kind) instances n (k, i, within, at, some_if (is_kind i.kind) i.head n is e)

  pub heads_below : (size : ℕ) (instances : List Instance) → All (IsNamed size) instances → All (λ n. n < size) (filter_map (head_of is_kind) instances)
  heads_below size instances named k d within =
      let n : ℕ = get_or (filter_map (head_of is_kind) instances) k d in
      let (i, listed, is, e) = from_heads instances n (Contains-get_or (filter_map (head_of is_kind) instances) k d within) in
      subst (λ o. IfSome o (λ h. h < size)) e (All-contains (IsNamed size) instances i named listed).head

  pub among_from_heads : (table : List Tree) (instances : List Instance) (t : Tree) → Contains (map (term_at table) (filter_map (head_of is_kind) instances)) t → IsHeadAmong is_kind (map (said_by table) instances) t
  among_from_heads table instances t h =
      let (n, listed, alike) = Contains-from_map (term_at table) (filter_map (head_of is_kind) instances) t h in
      let (i, there, is, e) = from_heads instances n listed in
      Any-map (said_by table) (λ s. (is_kind s.kind ≡ true) × (s.head ≡ Some t)) instances i there (is, ap (option_map (term_at table)) e ∙ ap Some alike)

  pub heads_from_among : (table : List Tree) (instances : List Instance) (t : Tree) → IsHeadAmong is_kind (map (said_by table) instances) t → Contains (map (term_at table) (filter_map (head_of is_kind) instances)) t
  heads_from_among table instances t h =
      let (i, there, both) = Any-from_map (said_by table) (λ s. (is_kind s.kind ≡ true) × (s.head ≡ Some t)) instances h in
      let (n, head_is, alike) = mapped_some (term_at table) i.head t both.1 in
      subst (Contains (map (term_at table) (filter_map (head_of is_kind) instances))) alike (Contains-map (term_at table) (filter_map (head_of is_kind) instances) n (to_heads instances i n there both.0 head_is))

length-cons_option : (o : Option ℕ) (xs : List ℕ) → length (cons_option o xs) ≤ suc (length xs)
length-cons_option None xs = omega arith
length-cons_option (Some x) xs = omega arith

pub length-filter_map : (f : Instance → Option ℕ) (xs : List Instance) → length (filter_map f xs) ≤ length xs
length-filter_map f [] = omega arith
length-filter_map f (x ∷ xs) = let rest = length-filter_map f xs in let one = length-cons_option (f x) (filter_map f xs) in omega arith
