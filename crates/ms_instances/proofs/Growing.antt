-- Instances by the names of a table that grows.
use Rattle.std.proofs.Common.{◌≡◌, ℕ, ◌<◌, ◌≤◌, List, [], ◌∷◌, length, map, All, Option, Some, None, refl, ap, ◌∙◌, arith}
use Rattle.std.specs.Prelude.{IfSome, option_map}
use Rattle.std.proofs.lemmas.List.Elements.{All-nil, All-cons, All-head, All-tail, All-weaker}
use Rattle.ms_tree.specs.Tree.{Tree, Trees, no_tree, tree}
use Rattle.ms_term.specs.Terms.{term_at, terms_at, AllBelow}
use Rattle.ms_grammar.specs.Terms.{both}
use Rattle.ms_core.specs.declared.pattern.Pattern.{Pattern}
use Rattle.ms_copies.specs.Evaluating.{Chosen, value, all_values}
use Rattle.ms_value.specs.Naming.{Keeps}
use Rattle.ms_instances.specs.declared.instance.Instance.{Instance}
use Rattle.ms_instances.specs.Instances.{Said, said_by}
use Rattle.ms_instances.specs.Listing.{values}
use Rattle.ms_instances.specs.Naming.{IsNamed}

pub all_below : (n : ℕ) (is : List ℕ) → AllBelow n is → All (λ t. t < n) is
all_below n [] h = All-nil (λ t. t < n)
all_below n (i ∷ is) h = All-cons (λ t. t < n) i is h.0 (all_below n is h.1)

pub head_kept : (old new : List Tree) (h : Option ℕ) → Keeps old new → IfSome h (λ i. i < length old) → option_map (term_at new) h ≡ option_map (term_at old) h
head_kept old new None k h = refl
head_kept old new (Some i) k h = ap Some (k.kept i h)

pub names_kept : (old new : List Tree) (is : List ℕ) → Keeps old new → All (λ t. t < length old) is → map (term_at new) is ≡ map (term_at old) is
names_kept old new [] k h = refl
names_kept old new (i ∷ is) k h =
    ap (λ t. t ∷ map (term_at new) is) (k.kept i (All-head (λ t. t < length old) i is h))
    ∙ ap (λ ts. term_at old i ∷ ts) (names_kept old new is k (All-tail (λ t. t < length old) i is h))

pub head_below : (m n : ℕ) (h : Option ℕ) → m ≤ n → IfSome h (λ i. i < m) → IfSome h (λ i. i < n)
head_below m n None le h = tt
head_below m n (Some i) le h = omega arith

pub names_below : (m n : ℕ) (is : List ℕ) → m ≤ n → All (λ t. t < m) is → All (λ t. t < n) is
names_below m n is le h = All-weaker (λ t. t < m) (λ t. t < n) (λ t below. omega arith) is h

pub named_more : (m n : ℕ) (i : Instance) → m ≤ n → IsNamed m i → IsNamed n i
named_more m n i le h = record {
  head = head_below m n i.head le h.head;
  pos = names_below m n i.pos le h.pos;
  neg = names_below m n i.neg le h.neg;
}

pub all_named_more : (m n : ℕ) (list : List Instance) → m ≤ n → All (IsNamed m) list → All (IsNamed n) list
all_named_more m n list le h = All-weaker (IsNamed m) (IsNamed n) (λ i. named_more m n i le) list h

pub said_kept : (old new : List Tree) (i : Instance) → Keeps old new → IsNamed (length old) i → said_by new i ≡ said_by old i
said_kept old new i k h =
    let made : Option Tree → List Tree → List Tree → Said = λ head pos neg. record { kind = i.kind; head = head; pos = pos; neg = neg } in
    ap (λ head. made head (map (term_at new) i.pos) (map (term_at new) i.neg)) (head_kept old new i.head k h.head)
    ∙ ap (λ pos. made (option_map (term_at old) i.head) pos (map (term_at new) i.neg)) (names_kept old new i.pos k h.pos)
    ∙ ap (λ neg. made (option_map (term_at old) i.head) (map (term_at old) i.pos) neg) (names_kept old new i.neg k h.neg)

pub all_said_kept : (old new : List Tree) (list : List Instance) → Keeps old new → All (IsNamed (length old)) list → map (said_by new) list ≡ map (said_by old) list
all_said_kept old new [] k h = refl
all_said_kept old new (i ∷ list) k h =
    ap (λ s. s ∷ map (said_by new) list) (said_kept old new i k (All-head (IsNamed (length old)) i list h))
    ∙ ap (λ ss. said_by old i ∷ ss) (all_said_kept old new list k (All-tail (IsNamed (length old)) i list h))

abbrev listed : Trees → List Tree
listed no_tree = []
listed (tree t ts) = t ∷ listed ts

listed_names : (ts : List Tree) (is : List ℕ) → listed (terms_at ts is) ≡ map (term_at ts) is
listed_names ts [] = refl
listed_names ts (i ∷ is) = ap (λ us. term_at ts i ∷ us) (listed_names ts is)

one_more : (v : Option Tree) (w : Option Trees) → both (λ t ts. Some (t ∷ ts)) v (option_map listed w) ≡ option_map listed (both (λ t ts. Some (tree t ts)) v w)
one_more None w = refl
one_more (Some t) None = refl
one_more (Some t) (Some ts) = refl

values_listed : (chosen : Chosen) (ps : List Pattern) → values chosen ps ≡ option_map listed (all_values (map (value chosen) ps))
unfolding all_values
values_listed chosen [] = refl
values_listed chosen (p ∷ ps) =
    ap (both (λ t ts. Some (t ∷ ts)) (value chosen p)) (values_listed chosen ps) ∙ one_more (value chosen p) (all_values (map (value chosen) ps))

pub values_named : (chosen : Chosen) (ps : List Pattern) (ts : List Tree) (is : List ℕ) → all_values (map (value chosen) ps) ≡ Some (terms_at ts is) → values chosen ps ≡ Some (map (term_at ts) is)
values_named chosen ps ts is e = values_listed chosen ps ∙ ap (option_map listed) e ∙ ap Some (listed_names ts is)

pub values_none : (chosen : Chosen) (ps : List Pattern) → all_values (map (value chosen) ps) ≡ None → values chosen ps ≡ None
values_none chosen ps e = values_listed chosen ps ∙ ap (option_map listed) e
