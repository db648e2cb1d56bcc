-- A look-up finds the name of its term.
use Rattle.std.proofs.Common.{◌≡◌, ℕ, ◌<◌, Bool, true, false, ◌&&◌, ◌||◌, Option, None, Some, is_some, MatchOption, List, [], ◌∷◌, zero, suc, length, get_or, position, refl, sym, ap, ◌∙◌, arith, nat_eq}
use Rattle.std.specs.Bool.{⊤}
use Rattle.std.specs.Cmp.Lexicographic.{pointwise}
use Rattle.std.specs.List.{list_any}
use Rattle.std.proofs.lemmas.Slice.Eq.{bytes_eq-Decides}
use Rattle.std.proofs.lemmas.Bool.{and_parts}
use Rattle.std.proofs.lemmas.Bool.Decides.{Decides-int_eq, Decides-eqb}
use Rattle.std.proofs.lemmas.List.{get_or_default}
use Rattle.std.proofs.lemmas.List.Quantifiers.{position-Some}
use Rattle.ms_tree.specs.Tree.{Tree, number, text, function, Trees}
use Rattle.ms_tree.specs.Size.{tree_size}
use Rattle.ms_term.specs.declared.node.Node.{Node}
use Rattle.ms_term.specs.declared.node.Node.TheVariants as node
use Rattle.ms_term.specs.declared.wanted.Wanted.{Wanted}
use Rattle.ms_term.specs.declared.wanted.Wanted.TheVariants.{Number, Text, Function}
use Rattle.ms_term.specs.Wanted.{matches}
use Rattle.ms_term.specs.Terms.{term_at, terms_at, held, AllBelow, AllDifferent, HasNo, IsNameOf}
use Rattle.ms_term.specs.Tables.{tree_of, trees, ArgumentsBelow, WordBelow, node_size, Describes, IsTable}
use Rattle.ms_term.specs.Words.{word_at, AreOnce, HasNoWord}
use Rattle.ms_term.proofs.Equal.{terms-same, both_true}
use Rattle.ms_term.proofs.NodeTables.{ArgumentsBelow-le}

-- the term that is looked up
abbrev pub wanted_tree : List (List ℕ) → List Tree → Wanted → Tree
wanted_tree ws ts (Number n) = number n
wanted_tree ws ts (Text word) = text (word_at ws word)
wanted_tree ws ts (Function name arguments size) = function (word_at ws name) (terms_at ts arguments.now)

abbrev wanted_word : ℕ → Wanted → Type 0
wanted_word n (Number k) = ⊤
wanted_word n (Text word) = word < n
wanted_word n (Function name arguments size) = name < n

abbrev wanted_below : ℕ → Wanted → Type 0
wanted_below n (Number k) = ⊤
wanted_below n (Text word) = ⊤
wanted_below n (Function name arguments size) = AllBelow n arguments.now

abbrev wanted_size : Wanted → ℕ
wanted_size (Number k) = 1
wanted_size (Text word) = 1
wanted_size (Function name arguments size) = size

pub record IsRight (ws : List (List ℕ)) (ts : List Tree) (q : Wanted) : Type 0 where
  pub word : wanted_word (length ws) q
  pub below : wanted_below (length ts) q
  pub size : wanted_size q ≡ held (tree_size (wanted_tree ws ts q))

same-from_matches : (ws : List (List ℕ)) (ts : List Tree) (q : Wanted) (n : Node) → matches q n ≡ true → tree_of ws ts n ≡ wanted_tree ws ts q
same-from_matches ws ts (Number m) (node.Number n) e = sym (ap (λ x. number x) ((Decides-int_eq m n).0 e))
same-from_matches ws ts (Number m) (node.Text s) e = cc
same-from_matches ws ts (Number m) (node.Function f xs k) e = cc
same-from_matches ws ts (Text s) (node.Number n) e = cc
same-from_matches ws ts (Text s) (node.Text t) e = sym (ap (λ x. text (word_at ws x)) ((Decides-eqb s t).0 e))
same-from_matches ws ts (Text s) (node.Function f xs k) e = cc
same-from_matches ws ts (Function f xs k) (node.Number n) e = cc
same-from_matches ws ts (Function f xs k) (node.Text t) e = cc
same-from_matches ws ts (Function f xs k) (node.Function g ys l) e =
    let parts = and_parts (nat_eq f g) (pointwise nat_eq xs.now ys.items && nat_eq k l) e in
    let rest = and_parts (pointwise nat_eq xs.now ys.items) (nat_eq k l) parts.1 in
    let names : f ≡ g = (Decides-eqb f g).0 parts.0 in
    let arguments : xs.now ≡ ys.items = (bytes_eq-Decides xs.now ys.items).0 rest.0 in
    cc

matches-from_same : (ws : List (List ℕ)) (ts : List Tree) → AreOnce ws → AllDifferent ts → (q : Wanted) (n : Node) → wanted_word (length ws) q → WordBelow (length ws) n
    → wanted_below (length ts) q → ArgumentsBelow (length ts) n → wanted_size q ≡ node_size n → wanted_tree ws ts q ≡ tree_of ws ts n → matches q n ≡ true
matches-from_same ws ts o d (Number m) (node.Number n) wa wb ha hb s e = let same : m ≡ n = cc in (Decides-int_eq m n).1 same
matches-from_same ws ts o d (Number m) (node.Text t) wa wb ha hb s e = cc
matches-from_same ws ts o d (Number m) (node.Function f xs k) wa wb ha hb s e = cc
matches-from_same ws ts o d (Text u) (node.Number n) wa wb ha hb s e = cc
matches-from_same ws ts o d (Text u) (node.Text t) wa wb ha hb s e = let same : word_at ws u ≡ word_at ws t = cc in (Decides-eqb u t).1 (o u t wa wb same)
matches-from_same ws ts o d (Text u) (node.Function f xs k) wa wb ha hb s e = cc
matches-from_same ws ts o d (Function f xs k) (node.Number n) wa wb ha hb s e = cc
matches-from_same ws ts o d (Function f xs k) (node.Text t) wa wb ha hb s e = cc
matches-from_same ws ts o d (Function f xs k) (node.Function g ys l) wa wb ha hb s e =
    let names : word_at ws f ≡ word_at ws g = cc in
    let terms : terms_at ts xs.now ≡ terms_at ts ys.items = cc in
    let arguments : xs.now ≡ ys.items = terms-same ts d xs.now ys.items ha hb terms in
    both_true (nat_eq f g) (pointwise nat_eq xs.now ys.items && nat_eq k l)
    ((Decides-eqb f g).1 (o f g wa wb names))
    (both_true (pointwise nat_eq xs.now ys.items) (nat_eq k l)
    ((bytes_eq-Decides xs.now ys.items).1 arguments) ((Decides-eqb k l).1 s))

or_parts : (x y : Bool) → (x || y) ≡ false → (x ≡ false) × (y ≡ false)
or_parts true y e = cc
or_parts false y e = (refl, e)

not_any : (p : Node → Bool) (ns : List Node) (i : ℕ) (d : Node) → list_any p ns ≡ false → i < length ns → p (get_or ns i d) ≡ false
not_any p [] i d e h = absurd (omega arith)
not_any p (n ∷ ns) zero d e h = (or_parts (p n) (list_any p ns) e).0
not_any p (n ∷ ns) (suc i) d e h = not_any p ns i d (or_parts (p n) (list_any p ns) e).1 (omega arith)

module _ (ws : List (List ℕ)) (nodes : List Node) (table : IsTable ws nodes (trees ws nodes)) where
  -- each term is that of a node
  pub node_at : (i : ℕ) → i < length (trees ws nodes) → (n : Node) × (n ≡ get_or nodes i n) × Describes ws (trees ws nodes) i n
  node_at i h = from nodes refl
    where
      within : i < length nodes
      within = omega (arith, table.count)

      from : (ns : List Node) → ns ≡ nodes → (n : Node) × (n ≡ get_or nodes i n) × Describes ws (trees ws nodes) i n
      from [] e = let none : length nodes ≡ 0 = ap length (sym e) in let some : i < length nodes = within in absurd (omega arith)
      from (m ∷ ns) e =
          let other = get_or nodes i m in
          let is = get_or_default nodes i m other within in
          (other, is, table.stands i other within is)

  absent : (q : Wanted) → IsRight ws (trees ws nodes) q → list_any (matches q) nodes ≡ false → HasNo (trees ws nodes) (wanted_tree ws (trees ws nodes) q)
  absent q right none i h e =
      let found = node_at i h in
      let other = found.0 in
      let is = found.1 in
      let d = found.2 in
      let same : wanted_tree ws (trees ws nodes) q ≡ tree_of ws (trees ws nodes) other = sym e ∙ d.is in
      let size : wanted_size q ≡ node_size other = right.size ∙ (ap (λ t. held (tree_size t)) same ∙ sym d.size) in
      let below = ArgumentsBelow-le i (length (trees ws nodes)) other (omega arith) d.below in
      let equal : matches q other ≡ true = matches-from_same ws (trees ws nodes) table.once table.different q other right.word d.word right.below below size same in
      let apart : matches q (get_or nodes i other) ≡ false = not_any (matches q) nodes i other none (omega (arith, table.count)) in
      let here : matches q other ≡ matches q (get_or nodes i other) = ap (matches q) is in
      cc

  there : (q : Wanted) (i : ℕ) (d : Node) → position (matches q) nodes ≡ Some i → IsNameOf (trees ws nodes) (wanted_tree ws (trees ws nodes) q) i
  there q i d e =
      let at = position-Some (matches q) nodes i d e in
      let within : i < length (trees ws nodes) = omega (arith, at.0, table.count) in
      let found = node_at i within in
      let other = found.0 in
      let is = found.1 in
      let about = found.2 in
      let same : matches q other ≡ true = ap (matches q) (is ∙ sym (get_or_default nodes i d other at.0)) ∙ at.1 in
      let names : term_at (trees ws nodes) i ≡ wanted_tree ws (trees ws nodes) q = about.is ∙ same-from_matches ws (trees ws nodes) q other same in
      record {
        within = within;
        names = names;
        only = λ j h f. table.different j i h within (f ∙ sym names);
      }

  pub looked_up : (q : Wanted) → IsRight ws (trees ws nodes) q → (r : Option ℕ) → r ≡ position (matches q) nodes → is_some r ≡ list_any (matches q) nodes
      → MatchOption r (HasNo (trees ws nodes) (wanted_tree ws (trees ws nodes) q)) (IsNameOf (trees ws nodes) (wanted_tree ws (trees ws nodes) q))
  looked_up q right None e f = absent q right (sym f)
  looked_up q right (Some i) e f = from nodes refl
    where
      from : (ns : List Node) → ns ≡ nodes → IsNameOf (trees ws nodes) (wanted_tree ws (trees ws nodes) q) i
      from [] same = let none : Some i ≡ position (matches q) [] = e ∙ ap (position (matches q)) (sym same) in cc
      from (m ∷ ns) same = there q i m (sym e)

  -- a string that isn't there is in no term
  pub no_text : (bytes : List ℕ) → HasNoWord ws bytes → HasNo (trees ws nodes) (text bytes)
  no_text bytes none i h e = let found = node_at i h in by found.0 (sym e ∙ found.2.is) found.2.word
    where
      by : (n : Node) → text bytes ≡ tree_of ws (trees ws nodes) n → WordBelow (length ws) n → ⊥
      by (node.Number k) same below = cc
      by (node.Text word) same below = let is : word_at ws word ≡ bytes = cc in none word below is
      by (node.Function name arguments size) same below = cc

  pub no_function : (bytes : List ℕ) (us : Trees) → HasNoWord ws bytes → HasNo (trees ws nodes) (function bytes us)
  no_function bytes us none i h e = let found = node_at i h in by found.0 (sym e ∙ found.2.is) found.2.word
    where
      by : (n : Node) → function bytes us ≡ tree_of ws (trees ws nodes) n → WordBelow (length ws) n → ⊥
      by (node.Number k) same below = cc
      by (node.Text word) same below = cc
      by (node.Function name arguments size) same below = let is : word_at ws name ≡ bytes = cc in none name below is
