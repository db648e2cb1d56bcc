-- Nodes are equal exactly where their terms are.
use Rattle.std.proofs.Common.{◌≡◌, ℕ, Bool, true, false, ◌&&◌, List, [], ◌∷◌, length, refl, ap, nat_eq}
use Rattle.std.specs.Cmp.Lexicographic.{pointwise}
use Rattle.std.proofs.lemmas.Slice.Eq.{bytes_eq-Decides}
use Rattle.std.proofs.lemmas.Bool.{and_parts}
use Rattle.std.proofs.lemmas.Bool.Decides.{Decides-int_eq, Decides-eqb}
use Rattle.ms_tree.specs.Tree.{Tree, number, text}
use Rattle.ms_term.specs.declared.node.Node.{Node}
use Rattle.ms_term.specs.declared.node.Node.TheVariants.{Number, Text, Function}
use Rattle.ms_term.specs.contracts.node.NodePartialEq.TheImpl.{eq-value}
use Rattle.ms_term.specs.Terms.{term_at, terms_at, AllBelow, AllDifferent}
use Rattle.ms_term.specs.Tables.{tree_of, ArgumentsBelow, WordBelow, node_size}
use Rattle.ms_term.specs.Words.{word_at, AreOnce}

abbrev pub node_eq : Node → Node → Bool
node_eq a b = (eq-value).it a b

pub both_true : (x y : Bool) → x ≡ true → y ≡ true → (x && y) ≡ true
both_true true true p q = refl
both_true true false p q = q
both_true false y p q = p

pub terms-same : (ts : List Tree) → AllDifferent ts → (is js : List ℕ) → AllBelow (length ts) is → AllBelow (length ts) js
    → terms_at ts is ≡ terms_at ts js → is ≡ js
terms-same ts d [] [] hi hj e = refl
terms-same ts d [] (j ∷ js) hi hj e = cc
terms-same ts d (i ∷ is) [] hi hj e = cc
terms-same ts d (i ∷ is) (j ∷ js) hi hj e =
    let first : term_at ts i ≡ term_at ts j = cc in
    let others : terms_at ts is ≡ terms_at ts js = cc in
    let one : i ≡ j = d i j hi.0 hj.0 first in
    let all : is ≡ js = terms-same ts d is js hi.1 hj.1 others in
    cc

-- equal nodes have the same term
pub same-from_eq : (ws : List (List ℕ)) (ts : List Tree) (a b : Node) → node_eq a b ≡ true → tree_of ws ts a ≡ tree_of ws ts b
same-from_eq ws ts (Number m) (Number n) e = ap (λ x. number x) ((Decides-int_eq m n).0 e)
same-from_eq ws ts (Number m) (Text s) e = cc
same-from_eq ws ts (Number m) (Function f xs k) e = cc
same-from_eq ws ts (Text s) (Number n) e = cc
same-from_eq ws ts (Text s) (Text t) e = ap (λ x. text (word_at ws x)) ((Decides-eqb s t).0 e)
same-from_eq ws ts (Text s) (Function f xs k) e = cc
same-from_eq ws ts (Function f xs k) (Number n) e = cc
same-from_eq ws ts (Function f xs k) (Text t) e = cc
same-from_eq ws ts (Function f xs k) (Function g ys l) e =
    let parts = and_parts (nat_eq f g) (pointwise nat_eq xs.items ys.items && nat_eq k l) e in
    let rest = and_parts (pointwise nat_eq xs.items ys.items) (nat_eq k l) parts.1 in
    let names : f ≡ g = (Decides-eqb f g).0 parts.0 in
    let arguments : xs.items ≡ ys.items = (bytes_eq-Decides xs.items ys.items).0 rest.0 in
    cc

-- nodes of one term are equal
pub eq-from_same : (ws : List (List ℕ)) (ts : List Tree) → AreOnce ws → AllDifferent ts → (a b : Node) → WordBelow (length ws) a → WordBelow (length ws) b
    → ArgumentsBelow (length ts) a → ArgumentsBelow (length ts) b
    → node_size a ≡ node_size b → tree_of ws ts a ≡ tree_of ws ts b → node_eq a b ≡ true
eq-from_same ws ts o d (Number m) (Number n) wa wb ha hb s e = let same : m ≡ n = cc in (Decides-int_eq m n).1 same
eq-from_same ws ts o d (Number m) (Text t) wa wb ha hb s e = cc
eq-from_same ws ts o d (Number m) (Function f xs k) wa wb ha hb s e = cc
eq-from_same ws ts o d (Text u) (Number n) wa wb ha hb s e = cc
eq-from_same ws ts o d (Text u) (Text t) wa wb ha hb s e = let same : word_at ws u ≡ word_at ws t = cc in (Decides-eqb u t).1 (o u t wa wb same)
eq-from_same ws ts o d (Text u) (Function f xs k) wa wb ha hb s e = cc
eq-from_same ws ts o d (Function f xs k) (Number n) wa wb ha hb s e = cc
eq-from_same ws ts o d (Function f xs k) (Text t) wa wb ha hb s e = cc
eq-from_same ws ts o d (Function f xs k) (Function g ys l) wa wb ha hb s e =
    let names : word_at ws f ≡ word_at ws g = cc in
    let terms : terms_at ts xs.items ≡ terms_at ts ys.items = cc in
    let arguments : xs.items ≡ ys.items = terms-same ts d xs.items ys.items ha hb terms in
    both_true (nat_eq f g) (pointwise nat_eq xs.items ys.items && nat_eq k l)
    ((Decides-eqb f g).1 (o f g wa wb names))
    (both_true (pointwise nat_eq xs.items ys.items) (nat_eq k l)
    ((bytes_eq-Decides xs.items ys.items).1 arguments) ((Decides-eqb k l).1 s))
