-- Ground terms as ghost values, no two as the same one: what a model asks for whose value has terms.
use Rattle.std.specs.Prelude.{◌≡◌, ℕ, List}
use base.Stored.{Gv, gnil, gnum, gcons, num, Coded, coded_ℕ, coded_ℤ, coded_list}
use mathlib.Core.Path.{ap}
use native.Mathlib.Omega.{arith}
use Rattle.ms_tree.specs.Tree.{Tree, number, text, function, Trees, no_tree, tree}

abbrev bytes_code : Coded (List ℕ)
bytes_code = coded_list coded_ℕ

abbrev mutual
  tree_value : Tree → Gv
  tree_value (number n) = gcons (gnum 0) (coded_ℤ.code n)
  tree_value (text s) = gcons (gnum 1) (bytes_code.code s)
  tree_value (function f ts) = gcons (gnum 2) (gcons (bytes_code.code f) (trees_value ts))

  trees_value : Trees → Gv
  trees_value no_tree = gnil
  trees_value (tree t ts) = gcons (tree_value t) (trees_value ts)

abbrev first : Gv → Gv
first gnil = gnil
first (gnum n) = gnil
first (gcons a b) = a

abbrev rest : Gv → Gv
rest gnil = gnil
rest (gnum n) = gnil
rest (gcons a b) = b

apart : (m n : ℕ) → ¬ (m ≡ n) → m ≡ n → ⊥
apart m n h e = h e

mutual
  pub tree_once : (t u : Tree) → tree_value t ≡ tree_value u → t ≡ u
  tree_once (number m) (number n) e = ap number (coded_ℤ.inj m n (ap rest e))
  tree_once (number m) (text t) e = absurd (apart 0 1 (omega arith) (ap (λ v. num (first v)) e))
  tree_once (number m) (function g us) e = absurd (apart 0 2 (omega arith) (ap (λ v. num (first v)) e))
  tree_once (text s) (number n) e = absurd (apart 1 0 (omega arith) (ap (λ v. num (first v)) e))
  tree_once (text s) (text t) e = ap text (bytes_code.inj s t (ap rest e))
  tree_once (text s) (function g us) e = absurd (apart 1 2 (omega arith) (ap (λ v. num (first v)) e))
  tree_once (function f ts) (number n) e = absurd (apart 2 0 (omega arith) (ap (λ v. num (first v)) e))
  tree_once (function f ts) (text t) e = absurd (apart 2 1 (omega arith) (ap (λ v. num (first v)) e))
  tree_once (function f ts) (function g us) e =
      let name : f ≡ g = bytes_code.inj f g (ap (λ v. first (rest v)) e) in
      let all : ts ≡ us = trees_once ts us (ap (λ v. rest (rest v)) e) in
      cc

  pub trees_once : (ts us : Trees) → trees_value ts ≡ trees_value us → ts ≡ us
  trees_once no_tree no_tree e = cc
  trees_once no_tree (tree u us) e = cc
  trees_once (tree t ts) no_tree e = cc
  trees_once (tree t ts) (tree u us) e =
      let one : t ≡ u = tree_once t u (ap first e) in
      let others : ts ≡ us = trees_once ts us (ap rest e) in
      cc

abbrev pub tree_code : Coded Tree
tree_code = record { code = tree_value; inj = tree_once }

abbrev pub trees_code : Coded (List Tree)
trees_code = coded_list tree_code
