-- Tables that keep their names.
use Rattle.std.proofs.Common.{◌≡◌, ℕ, ◌<◌, ◌≤◌, List, [], ◌∷◌, ◌++◌, length, Option, Some, None, refl, ap, ◌∙◌, subst, arith}
use Rattle.std.specs.Prelude.{option_map}
use Rattle.ms_tree.specs.Tree.{Tree, Trees, no_tree, tree}
use Rattle.ms_term.specs.Terms.{term_at, terms_at, AllBelow, Names}
use Rattle.ms_value.specs.Naming.{Keeps, Gives}

pub keeps_same : (ts : List Tree) → Keeps ts ts
keeps_same ts = record { longer = omega arith; kept = λ i h. refl }

pub keeps_then : (old mid new : List Tree) → Keeps old mid → Keeps mid new → Keeps old new
keeps_then old mid new a b = record {
  longer = let one : length old ≤ length mid = a.longer in let two : length mid ≤ length new = b.longer in omega arith;
  kept = λ i h. let one : length old ≤ length mid = a.longer in b.kept i (omega arith) ∙ a.kept i h;
}

pub keeps_named : (old new : List Tree) (t : Tree) (i : ℕ) → Names old new t i → Keeps old new
keeps_named old new t i n = record { longer = n.longer; kept = n.kept }

pub below_longer : (m n : ℕ) (is : List ℕ) → m ≤ n → AllBelow m is → AllBelow n is
below_longer m n [] le h = tt
below_longer m n (i ∷ is) le h = (let below : i < m = h.0 in omega arith, below_longer m n is le h.1)

pub below_push : (n : ℕ) (is : List ℕ) (i : ℕ) → AllBelow n is → i < n → AllBelow n (is ++ i ∷ [])
below_push n [] i h inside = (inside, tt)
below_push n (j ∷ is) i h inside = (h.0, below_push n is i h.1 inside)

-- what arguments give together, the first of which are named
abbrev pub after : List Tree → List ℕ → Option Trees → Option Trees
after ts [] rest = rest
after ts (i ∷ is) rest = option_map (tree (term_at ts i)) (after ts is rest)

pub after_none : (ts : List Tree) (is : List ℕ) → after ts is None ≡ None
after_none ts [] = refl
after_none ts (i ∷ is) = ap (option_map (tree (term_at ts i))) (after_none ts is)

pub after_all : (ts : List Tree) (is : List ℕ) → after ts is (Some no_tree) ≡ Some (terms_at ts is)
after_all ts [] = refl
after_all ts (i ∷ is) = ap (option_map (tree (term_at ts i))) (after_all ts is)

pub after_kept : (old new : List Tree) (is : List ℕ) (rest : Option Trees) → Keeps old new → AllBelow (length old) is → after new is rest ≡ after old is rest
after_kept old new [] rest k h = refl
after_kept old new (i ∷ is) rest k h =
    ap (λ t. option_map (tree t) (after new is rest)) (k.kept i h.0)
    ∙ ap (option_map (tree (term_at old i))) (after_kept old new is rest k h.1)

pub after_push : (ts : List Tree) (is : List ℕ) (i : ℕ) (rest : Option Trees) → after ts (is ++ i ∷ []) rest ≡ after ts is (option_map (tree (term_at ts i)) rest)
after_push ts [] i rest = refl
after_push ts (j ∷ is) i rest = ap (option_map (tree (term_at ts j))) (after_push ts is i rest)

pub gives_none : (old new : List Tree) (v : Option Tree) (o : Option ℕ) → Gives old new v o → o ≡ None → v ≡ None
gives_none old new v None g e = g.named
gives_none old new v (Some i) g e = cc

pub gives_some : (old new : List Tree) (v : Option Tree) (o : Option ℕ) (i : ℕ) → Gives old new v o → o ≡ Some i → (i < length new) × (v ≡ Some (term_at new i))
gives_some old new v None i g e = cc
gives_some old new v (Some j) i g e =
    let same : j ≡ i = cc in
    let At : ℕ → Type 0 = λ k. (k < length new) × (v ≡ Some (term_at new k)) in
    subst At same g.named
