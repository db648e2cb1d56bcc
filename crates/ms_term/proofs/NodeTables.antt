-- A table stays one when a node is added to it, when a word is, and when it is cut.
use Rattle.ms_term.proofs.Equal.{node_eq, same-from_eq, eq-from_same}
use Rattle.std.proofs.Common.{slice_get, Some}
use Rattle.std.proofs.Common.{◌≡◌, ℕ, ◌+◌, ◌<◌, ◌≤◌, Bool, true, false, ◌||◌, ◌⊎◌, inl, inr, List, [], ◌∷◌, ◌++◌, length, refl, sym, ap, ◌∙◌, subst, arith, length-append, pos, get_or, zero, suc, if◌then◌else◌}
use Rattle.std.proofs.lemmas.List.{get_or_append_left, get_or_default}
use Rattle.std.proofs.lemmas.Bool.{cases_lt}
use Rattle.std.proofs.lemmas.Option.{get_or_from_slice_get}
use Rattle.std.specs.List.{list_any}
use Rattle.indexmap.specs.IndexSet.{insert_key}
use Rattle.ms_tree.specs.Tree.{Tree, number, text, function, tree}
use Rattle.ms_tree.specs.Size.{tree_size}
use Rattle.ms_term.specs.declared.node.Node.{Node}
use Rattle.ms_term.specs.declared.node.Node.TheVariants.{Number, Text, Function}
use Rattle.ms_term.specs.Terms.{term_at, terms_at, held, AllBelow, AllDifferent, Names}
use Rattle.ms_term.specs.Tables.{tree_of, trees_from, trees, ArgumentsBelow, WordBelow, node_size, Fits, Describes, IsTable, IsSmallFront, IsKept}
use Rattle.ms_term.specs.Words.{word_at, AreOnce}

-- a node at the end adds its term
pub trees_from-push : (ws : List (List ℕ)) (ts : List Tree) (ns : List Node) (n : Node) → trees_from ws ts (ns ++ n ∷ []) ≡ trees_from ws ts ns ++ tree_of ws (trees_from ws ts ns) n ∷ []
trees_from-push ws ts [] n = refl
trees_from-push ws ts (m ∷ ns) n = trees_from-push ws (ts ++ tree_of ws ts m ∷ []) ns n

-- terms at the end change no term before
pub term_at-more : (ts us : List Tree) (i : ℕ) → i < length ts → term_at (ts ++ us) i ≡ term_at ts i
term_at-more ts us i h = get_or_append_left ts us (number (pos 0)) i h

pub term_at-last : (ts : List Tree) (t : Tree) → term_at (ts ++ t ∷ []) (length ts) ≡ t
term_at-last [] t = refl
term_at-last (u ∷ ts) t = term_at-last ts t

pub terms_at-more : (ts us : List Tree) (is : List ℕ) → AllBelow (length ts) is → terms_at (ts ++ us) is ≡ terms_at ts is
terms_at-more ts us [] h = refl
terms_at-more ts us (i ∷ is) h =
    ap (λ t. tree t (terms_at (ts ++ us) is)) (term_at-more ts us i h.0) ∙ ap (λ rest. tree (term_at ts i) rest) (terms_at-more ts us is h.1)

pub tree_of-more : (ws : List (List ℕ)) (ts us : List Tree) (n : Node) → ArgumentsBelow (length ts) n → tree_of ws (ts ++ us) n ≡ tree_of ws ts n
tree_of-more ws ts us (Number k) h = refl
tree_of-more ws ts us (Text word) h = refl
tree_of-more ws ts us (Function name arguments size) h =
    ap (λ args. function (word_at ws name) args) (terms_at-more ts us arguments.items h)

pub AllBelow-le : (m n : ℕ) (is : List ℕ) → m ≤ n → AllBelow m is → AllBelow n is
AllBelow-le m n [] le h = tt
AllBelow-le m n (i ∷ is) le h = (let below : i < m = h.0 in omega arith, AllBelow-le m n is le h.1)

pub ArgumentsBelow-le : (m n : ℕ) (node : Node) → m ≤ n → ArgumentsBelow m node → ArgumentsBelow n node
ArgumentsBelow-le m n (Number k) le h = tt
ArgumentsBelow-le m n (Text word) le h = tt
ArgumentsBelow-le m n (Function name arguments size) le h = AllBelow-le m n arguments.items le h

pub Describes-more : (ws : List (List ℕ)) (ts us : List Tree) (i : ℕ) (n : Node) → i < length ts → Describes ws ts i n → Describes ws (ts ++ us) i n
Describes-more ws ts us i n h d = let same : tree_of ws (ts ++ us) n ≡ tree_of ws ts n = tree_of-more ws ts us n (ArgumentsBelow-le i (length ts) n (omega arith) d.below) in record {
  is = term_at-more ts us i h ∙ (d.is ∙ sym same);
  word = d.word;
  below = d.below;
  size = d.size ∙ ap (λ t. held (tree_size t)) (sym same);
}

-- the node that is added stands at the end
pub Describes-last : (ws : List (List ℕ)) (ts : List Tree) (n : Node) → Fits ws ts n → Describes ws (ts ++ tree_of ws ts n ∷ []) (length ts) n
Describes-last ws ts n f = let same : tree_of ws (ts ++ tree_of ws ts n ∷ []) n ≡ tree_of ws ts n = tree_of-more ws ts (tree_of ws ts n ∷ []) n f.below in record {
  is = term_at-last ts (tree_of ws ts n) ∙ sym same;
  word = f.word;
  below = f.below;
  size = f.size ∙ ap (λ t. held (tree_size t)) (sym same);
}

pub get_or-last : (ns : List Node) (n d : Node) → get_or (ns ++ n ∷ []) (length ns) d ≡ n
get_or-last [] n d = refl
get_or-last (m ∷ ns) n d = get_or-last ns n d

stands-push : (ws : List (List ℕ)) (nodes : List Node) (ts : List Tree) (node : Node) → IsTable ws nodes ts → Fits ws ts node
    → (i : ℕ) (n : Node) → i < length (nodes ++ node ∷ []) → n ≡ get_or (nodes ++ node ∷ []) i n
    → Describes ws (ts ++ tree_of ws ts node ∷ []) i n
stands-push ws nodes ts node table fits i n h is =
    elim (cases_lt i (length nodes)) [
      | inl before ↦
          let long : i < length ts = omega (arith, table.count) in
          Describes-more ws ts (tree_of ws ts node ∷ []) i n long (table.stands i n before (is ∙ get_or_append_left nodes (node ∷ []) n i before))
      | inr after ↦
          let at_end : i ≡ length nodes = omega (arith, length-append nodes (node ∷ [])) in
          let here : n ≡ node = is ∙ (ap (λ k. get_or (nodes ++ node ∷ []) k n) at_end ∙ get_or-last nodes node n) in
          let D : ℕ → Type 0 = λ k. Describes ws (ts ++ tree_of ws ts node ∷ []) k n in
          let E : Node → Type 0 = λ m. Describes ws (ts ++ tree_of ws ts node ∷ []) (length ts) m in
          subst D (table.count ∙ sym at_end) (subst E (sym here) (Describes-last ws ts node fits))
    ]

different-push : (ts : List Tree) (t : Tree) → AllDifferent ts → ((i : ℕ) → i < length ts → term_at ts i ≡ t → ⊥)
    → AllDifferent (ts ++ t ∷ [])
different-push ts t old fresh i j hi hj e =
    let li : i < length ts + 1 = omega (arith, length-append ts (t ∷ [])) in
    let lj : j < length ts + 1 = omega (arith, length-append ts (t ∷ [])) in
    elim (cases_lt i (length ts)) [
      | inl bi ↦ elim (cases_lt j (length ts)) [
        | inl bj ↦ old i j bi bj (sym (term_at-more ts (t ∷ []) i bi) ∙ (e ∙ term_at-more ts (t ∷ []) j bj))
        | inr aj ↦
            let ej : j ≡ length ts = omega arith in
            absurd (fresh i bi (sym (term_at-more ts (t ∷ []) i bi) ∙ (e ∙ (ap (λ k. term_at (ts ++ t ∷ []) k) ej ∙ term_at-last ts t))))
      ]
      | inr ai ↦ elim (cases_lt j (length ts)) [
        | inl bj ↦
            let ei : i ≡ length ts = omega arith in
            absurd (fresh j bj (sym (term_at-more ts (t ∷ []) j bj) ∙ (sym e ∙ (ap (λ k. term_at (ts ++ t ∷ []) k) ei ∙ term_at-last ts t))))
        | inr aj ↦ omega arith
      ]
    ]

-- the table with a node whose term it had not
pub IsTable-push : (ws : List (List ℕ)) (nodes : List Node) (ts : List Tree) (node : Node) → IsTable ws nodes ts → Fits ws ts node
    → ((i : ℕ) → i < length ts → term_at ts i ≡ tree_of ws ts node → ⊥)
    → IsTable ws (nodes ++ node ∷ []) (ts ++ tree_of ws ts node ∷ [])
IsTable-push ws nodes ts node table fits fresh = record {
  count = omega (arith, table.count, length-append nodes (node ∷ []), length-append ts (tree_of ws ts node ∷ []));
  stands = stands-push ws nodes ts node table fits;
  different = different-push ts (tree_of ws ts node) table.different fresh;
  once = table.once;
}

or_parts : (x y : Bool) → (x || y) ≡ false → (x ≡ false) × (y ≡ false)
or_parts true y e = cc
or_parts false y e = (refl, e)

read-from_get : (ns : List Node) (i : ℕ) (k : Node) → slice_get ns i ≡ Some k → k ≡ get_or ns i k
read-from_get ns i k e = sym (get_or_from_slice_get ns i k k e)

not_any : (p : Node → Bool) (ns : List Node) (i : ℕ) (d : Node) → list_any p ns ≡ false → i < length ns → p (get_or ns i d) ≡ false
not_any p [] i d e h = absurd (omega arith)
not_any p (n ∷ ns) zero d e h = (or_parts (p n) (list_any p ns) e).0
not_any p (n ∷ ns) (suc i) d e h = not_any p ns i d (or_parts (p n) (list_any p ns) e).1 (omega arith)

-- a node that equals none of the table has a term that isn't among the table's
fresh-from_none : (ws : List (List ℕ)) (nodes : List Node) (ts : List Tree) (node : Node) → IsTable ws nodes ts → Fits ws ts node
    → list_any (node_eq node) nodes ≡ false → (i : ℕ) → i < length ts → term_at ts i ≡ tree_of ws ts node → ⊥
fresh-from_none ws nodes ts node table fits none i h e =
    let within : i < length nodes = omega (arith, table.count) in
    let other = get_or nodes i node in
    let d = table.stands i other within (get_or_default nodes i node other within) in
    let same : tree_of ws ts node ≡ tree_of ws ts other = sym e ∙ d.is in
    let size : node_size node ≡ node_size other = fits.size ∙ (ap (λ t. held (tree_size t)) same ∙ sym d.size) in
    let equal = eq-from_same ws ts table.once table.different node other fits.word d.word fits.below
    (ArgumentsBelow-le i (length ts) other (omega arith) d.below) size same in
    let apart = not_any (node_eq node) nodes i node none within in
    cc (equal, apart)

-- what a table is after a node was inserted
pub record IsAdded (ws : List (List ℕ)) (old new : List Node) (node : Node) : Type 0 where
  pub table : IsTable ws new (trees ws new)
  pub grows : (trees ws new ≡ trees ws old) ⊎ (trees ws new ≡ trees ws old ++ tree_of ws (trees ws old) node ∷ [])
  pub same : tree_of ws (trees ws new) node ≡ tree_of ws (trees ws old) node

IsAdded-there : (ws : List (List ℕ)) (old : List Node) (node : Node) → IsTable ws old (trees ws old) → IsAdded ws old old node
IsAdded-there ws old node table = record { table = table; grows = inl refl; same = refl }

IsAdded-push : (ws : List (List ℕ)) (old : List Node) (node : Node) → IsTable ws old (trees ws old) → Fits ws (trees ws old) node
    → list_any (node_eq node) old ≡ false → IsAdded ws old (old ++ node ∷ []) node
IsAdded-push ws old node table fits none =
    let ts = trees ws old in
    let pushed : trees ws (old ++ node ∷ []) ≡ trees ws old ++ tree_of ws (trees ws old) node ∷ [] = trees_from-push ws [] old node in
    let P : List Tree → Type 0 = λ us. IsTable ws (old ++ node ∷ []) us in
    let S : List Tree → Type 0 = λ us. tree_of ws us node ≡ tree_of ws (trees ws old) node in
    record {
      table = subst P (sym pushed) (IsTable-push ws old (trees ws old) node table fits (fresh-from_none ws old (trees ws old) node table fits none));
      grows = inr pushed;
      same = subst S (sym pushed) (tree_of-more ws (trees ws old) (tree_of ws (trees ws old) node ∷ []) node fits.below);
    }

by_test : (ws : List (List ℕ)) (b : Bool) (old : List Node) (node : Node) → list_any (node_eq node) old ≡ b
    → IsTable ws old (trees ws old) → Fits ws (trees ws old) node → IsAdded ws old (if b then old else (old ++ node ∷ [])) node
by_test ws true old node e table fits = IsAdded-there ws old node table
by_test ws false old node e table fits = IsAdded-push ws old node table fits e

pub IsAdded-from : (ws : List (List ℕ)) (old new : List Node) (node : Node) → new ≡ insert_key node_eq old node
    → IsTable ws old (trees ws old) → Fits ws (trees ws old) node → IsAdded ws old new node
IsAdded-from ws old new node e table fits =
    let P : List Node → Type 0 = λ ns. IsAdded ws old ns node in
    subst P (sym e) (by_test ws (list_any (node_eq node) old) old node refl table fits)

longer-from : (old new : List Tree) (t : Tree) → (new ≡ old) ⊎ (new ≡ old ++ t ∷ []) → length old ≤ length new
longer-from old new t grows = elim grows [
  | inl same ↦ omega (arith, ap length same)
  | inr more ↦ omega (arith, ap length more, length-append old (t ∷ []))
]

kept-from : (old new : List Tree) (t : Tree) → (new ≡ old) ⊎ (new ≡ old ++ t ∷ []) → (i : ℕ) → i < length old → term_at new i ≡ term_at old i
kept-from old new t grows i h = elim grows [
  | inl same ↦ ap (λ ts. term_at ts i) same
  | inr more ↦ ap (λ ts. term_at ts i) more ∙ term_at-more old (t ∷ []) i h
]

-- the place of a node that equals the inserted one names its term
pub Names-from : (ws : List (List ℕ)) (old new : List Node) (node k : Node) (i : ℕ) → IsAdded ws old new node → i < length new
    → slice_get new i ≡ Some k → node_eq node k ≡ true → Names (trees ws old) (trees ws new) (tree_of ws (trees ws old) node) i
Names-from ws old new node k i added within stored equal =
    let d = added.table.stands i k within (read-from_get new i k stored) in
    record {
      within = omega (arith, added.table.count);
      names = d.is ∙ (sym (same-from_eq ws (trees ws new) node k equal) ∙ added.same);
      grows = added.grows;
      longer = longer-from (trees ws old) (trees ws new) (tree_of ws (trees ws old) node) added.grows;
      kept = kept-from (trees ws old) (trees ws new) (tree_of ws (trees ws old) node) added.grows;
      different = added.table.different;
    }

-- a word more changes no term
abbrev WordsBelow : ℕ → List Node → Type 0
WordsBelow k [] = Unit {0}
WordsBelow k (n ∷ ns) = WordBelow k n × WordsBelow k ns

words_below : (k : ℕ) (ns : List Node) → ((i : ℕ) (n : Node) → i < length ns → n ≡ get_or ns i n → WordBelow k n) → WordsBelow k ns
words_below k [] all = tt
words_below k (n ∷ ns) all = (all 0 n (omega arith) refl, words_below k ns (λ i m h e. all (suc i) m (omega arith) e))

tree_of-word : (ws vs : List (List ℕ)) (ts : List Tree) (n : Node) → WordBelow (length ws) n → tree_of (ws ++ vs) ts n ≡ tree_of ws ts n
tree_of-word ws vs ts (Number k) h = refl
tree_of-word ws vs ts (Text word) h = ap text (get_or_append_left ws vs [] word h)
tree_of-word ws vs ts (Function name arguments size) h = ap (λ f. function f (terms_at ts arguments.items)) (get_or_append_left ws vs [] name h)

trees_from-word : (ws vs : List (List ℕ)) (ts : List Tree) (ns : List Node) → WordsBelow (length ws) ns → trees_from (ws ++ vs) ts ns ≡ trees_from ws ts ns
trees_from-word ws vs ts [] h = refl
trees_from-word ws vs ts (n ∷ ns) h =
    ap (λ t. trees_from (ws ++ vs) (ts ++ t ∷ []) ns) (tree_of-word ws vs ts n h.0) ∙ trees_from-word ws vs (ts ++ tree_of ws ts n ∷ []) ns h.1

WordBelow-le : (m n : ℕ) (node : Node) → m ≤ n → WordBelow m node → WordBelow n node
WordBelow-le m n (Number k) le h = tt
WordBelow-le m n (Text word) le h = omega arith
WordBelow-le m n (Function name arguments size) le h = omega arith

Describes-word : (ws vs : List (List ℕ)) (ts : List Tree) (i : ℕ) (n : Node) → Describes ws ts i n → Describes (ws ++ vs) ts i n
Describes-word ws vs ts i n d = let same : tree_of (ws ++ vs) ts n ≡ tree_of ws ts n = tree_of-word ws vs ts n d.word in record {
  is = d.is ∙ sym same;
  word = WordBelow-le (length ws) (length (ws ++ vs)) n (omega (arith, length-append ws vs)) d.word;
  below = d.below;
  size = d.size ∙ ap (λ t. held (tree_size t)) (sym same);
}

-- the table and its terms with more words
pub record IsWordier (ws new : List (List ℕ)) (nodes : List Node) (small : ℕ) : Type 0 where
  pub kept : IsKept new nodes small
  pub same : trees new nodes ≡ trees ws nodes

pub IsKept-word : (ws new : List (List ℕ)) (bytes : List ℕ) (nodes : List Node) (small : ℕ) → IsKept ws nodes small
    → (new ≡ ws) ⊎ (new ≡ ws ++ bytes ∷ []) → AreOnce new → IsWordier ws new nodes small
IsKept-word ws new bytes nodes small kept grows once = elim grows [
  | inl is ↦ subst (λ vs. IsWordier ws vs nodes small) (sym is) (record { kept = kept; same = refl })
  | inr is ↦
      let table = kept.table in
      let below = words_below (length ws) nodes (λ i n h e. (table.stands i n h e).word) in
      let same : trees (ws ++ bytes ∷ []) nodes ≡ trees ws nodes = trees_from-word ws (bytes ∷ []) [] nodes below in
      subst (λ vs. IsWordier ws vs nodes small) (sym is) (record {
        kept = record {
          table = subst (λ ts. IsTable (ws ++ bytes ∷ []) nodes ts) (sym same) (record {
            count = table.count;
            stands = λ i n h e. Describes-word ws (bytes ∷ []) (trees ws nodes) i n (table.stands i n h e);
            different = table.different;
            once = subst AreOnce is once;
          });
          front = subst (λ ts. IsSmallFront ts small) (sym same) kept.front;
        };
        same = same;
      })
]
