-- A table that goes back to an earlier moment.
use Rattle.std.proofs.Common.{◌≡◌, ℕ, ◌+◌, ◌<◌, ◌≤◌, min, take, drop, List, [], ◌∷◌, ◌++◌, length, refl, sym, ap, ◌∙◌, subst, arith, length-append}
use Rattle.std.proofs.lemmas.List.{take-append-drop, length-take-le, get_or-take}
use Rattle.std.proofs.Math.Seq.{take-append_seam}
use Rattle.ms_tree.specs.Tree.{Tree}
use Rattle.ms_tree.specs.Size.{tree_size}
use Rattle.ms_term.specs.declared.node.Node.{Node}
use Rattle.ms_term.specs.Terms.{term_at, held, IsLarge, AllDifferent}
use Rattle.ms_term.specs.Tables.{tree_of, trees_from, trees, Describes, IsSmallFront, IsKept}
use Rattle.ms_term.proofs.NodeTables.{term_at-more, tree_of-more, ArgumentsBelow-le}

trees_from-append : (ws : List (List ℕ)) (ts : List Tree) (ms ns : List Node) → trees_from ws ts (ms ++ ns) ≡ trees_from ws (trees_from ws ts ms) ns
trees_from-append ws ts [] ns = refl
trees_from-append ws ts (m ∷ ms) ns = trees_from-append ws (ts ++ tree_of ws ts m ∷ []) ms ns

push-append : (ts us : List Tree) (t : Tree) → (ts ++ t ∷ []) ++ us ≡ ts ++ t ∷ us
push-append [] us t = refl
push-append (u ∷ ts) us t = ap (λ vs. u ∷ vs) (push-append ts us t)

append-none : (ts : List Tree) → ts ≡ ts ++ []
append-none [] = refl
append-none (t ∷ ts) = ap (λ us. t ∷ us) (append-none ts)

-- the terms begin with those that were there
starts : (ws : List (List ℕ)) (ts : List Tree) (ns : List Node) → (us : List Tree) × (trees_from ws ts ns ≡ ts ++ us)
starts ws ts [] = ([], append-none ts)
starts ws ts (n ∷ ns) =
    let rest = starts ws (ts ++ tree_of ws ts n ∷ []) ns in
    (tree_of ws ts n ∷ rest.0, rest.1 ∙ push-append ts rest.0 (tree_of ws ts n))

length-trees_from : (ws : List (List ℕ)) (ts : List Tree) (ns : List Node) → length (trees_from ws ts ns) ≡ length ts + length ns
length-trees_from ws ts [] = omega arith
length-trees_from ws ts (n ∷ ns) = omega (arith, length-trees_from ws (ts ++ tree_of ws ts n ∷ []) ns, length-append ts (tree_of ws ts n ∷ []))

Describes-less : (ws : List (List ℕ)) (ts us : List Tree) (i : ℕ) (n : Node) → i < length ts → Describes ws (ts ++ us) i n → Describes ws ts i n
Describes-less ws ts us i n h d = let same : tree_of ws (ts ++ us) n ≡ tree_of ws ts n = tree_of-more ws ts us n (ArgumentsBelow-le i (length ts) n (omega arith) d.below) in record {
  is = sym (term_at-more ts us i h) ∙ (d.is ∙ same);
  word = d.word;
  below = d.below;
  size = d.size ∙ ap (λ t. held (tree_size t)) same;
}

AllDifferent-less : (ts us : List Tree) → AllDifferent (ts ++ us) → AllDifferent ts
AllDifferent-less ts us d i j hi hj e =
    d i j (omega (arith, length-append ts us)) (omega (arith, length-append ts us)) (term_at-more ts us i hi ∙ (e ∙ sym (term_at-more ts us j hj)))

IsSmallFront-less : (ts us : List Tree) (small : ℕ) → IsSmallFront (ts ++ us) small → IsSmallFront ts (min small (length ts))
IsSmallFront-less ts us small front = record {
  within = omega arith;
  before = λ i h. let early : i < small = omega arith in let within : i < length ts = omega arith in
      λ large. front.before i early (subst IsLarge (sym (term_at-more ts us i within)) large);
  next = λ h.
      let within : small < length ts = omega arith in
      let is : min small (length ts) ≡ small = omega arith in
      let further : small < length (ts ++ us) = omega (arith, length-append ts us) in
      subst (λ k. IsLarge (term_at ts k)) (sym is) (subst IsLarge (term_at-more ts us small within) (front.next further));
}

-- the first nodes of a table are one, of its first terms
pub record IsCut (ws : List (List ℕ)) (nodes : List Node) (small m : ℕ) : Type 0 where
  pub kept : IsKept ws (take m nodes) (min small m)
  pub same : trees ws (take m nodes) ≡ take m (trees ws nodes)

pub IsCut-from : (ws : List (List ℕ)) (nodes : List Node) (small m : ℕ) → IsKept ws nodes small → m ≤ length (trees ws nodes) → IsCut ws nodes small m
IsCut-from ws nodes small m kept le =
    let table = kept.table in
    let first = trees ws (take m nodes) in
    let rest = starts ws first (drop m nodes) in
    let us = rest.0 in
    let within : m ≤ length nodes = omega (arith, table.count) in
    let few : length (take m nodes) ≡ m = length-take-le m nodes within in
    let all : trees ws nodes ≡ first ++ us = ap (trees ws) (sym (take-append-drop m nodes)) ∙ (trees_from-append ws [] (take m nodes) (drop m nodes) ∙ rest.1) in
    let long : length first ≡ m = length-trees_from ws [] (take m nodes) ∙ omega arith in
    let front : IsSmallFront first (min small (length first)) = IsSmallFront-less first us small (subst (λ ts. IsSmallFront ts small) all kept.front) in
    record {
      kept = record {
        table = record {
          count = long ∙ sym few;
          stands = λ i n h e.
              let early : i < m = omega arith in
              let before : i < length nodes = omega arith in
              Describes-less ws first us i n (omega arith)
              (subst (λ ts. Describes ws ts i n) all (table.stands i n before (e ∙ get_or-take m nodes i n early)));
          different = AllDifferent-less first us (subst AllDifferent all table.different);
          once = table.once;
        };
        front = subst (λ k. IsSmallFront first (min small k)) long front;
      };
      same = sym (take-append_seam first us) ∙ (ap (λ k. take k (first ++ us)) long ∙ ap (take m) (sym all));
    }
