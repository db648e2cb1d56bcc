-- Instances that are added to others.
use Rattle.std.proofs.Common.{◌≡◌, ℕ, ◌+◌, ◌<◌, ◌≤◌, Bool, true, false, List, [], ◌∷◌, ◌++◌, length, map, drop, get_or, All, Option, Some, None, refl, sym, ap, ◌∙◌, subst, arith, append-nil, length-append, suc, drop-cons}
use Rattle.std.specs.Prelude.{Contains, option_to_list, option_map, Result, Ok, Err, IfErr, IsErrAnd}
use Rattle.std.specs.List.{filter_map, cons_option}
use Rattle.std.proofs.lemmas.List.{length-map, map-append}
use Rattle.std.proofs.lemmas.List.Elements.{All-push, All-head, All-tail, All-nil, All-cons, All-contains, All-weaker}
use Rattle.std.proofs.Math.ListN.{drop_of_length-le}
use Rattle.ms_tree.specs.Tree.{Tree}
use Rattle.ms_term.specs.Terms.{term_at}
use Rattle.ms_core.specs.declared.pattern.Pattern.{Pattern}
use Rattle.ms_core.specs.declared.rule.RuleKind.{RuleKind}
use Rattle.ms_core.specs.declared.rule.RuleKind.TheVariants.{Normal, Choice, Constraint, External}
use Rattle.ms_core.specs.declared.rule.CoreRule.{CoreRule}
use Rattle.ms_copies.specs.Evaluating.{Chosen, value}
use Rattle.ms_copies.specs.Limits.{most_copies}
use Rattle.ms_value.specs.Naming.{Keeps}
use Rattle.ms_value.specs.Walking.{Walked, IsNext}
use Rattle.ms_value.proofs.Tables.{keeps_then}
use Rattle.ms_instances.specs.declared.fault.InstanceFault.{InstanceFault}
use Rattle.ms_instances.specs.declared.fault.InstanceFault.TheVariants.{TooMany, OutOfMemory}
use Rattle.ms_instances.specs.declared.instance.Instance.{Instance}
use Rattle.ms_instances.specs.Instances.{Said, said_by, IsHeaded}
use Rattle.ms_instances.specs.Listing.{head_value, said_by_rule, all_said}
use Rattle.ms_instances.specs.Naming.{IsNamed, GivesInstance, Adds, Refuses, IsHeadedRule}
use Rattle.ms_instances.proofs.Growing.{all_named_more, all_said_kept}
use Rattle.ms_instances.proofs.Members.{source_of, said_parts, all_from}

pub adds_none : (old new : List Tree) (list : List Instance) (o : Option Said) → All (IsNamed (length old)) list → length list ≤ most_copies → Keeps old new → o ≡ None
    → Adds old list new list (option_to_list o)
adds_none old new list o named few keeps e = record {
  keeps = keeps;
  named = all_named_more (length old) (length new) list keeps.longer named;
  few = few;
  say = all_said_kept old new list keeps named ∙ sym (append-nil (map (said_by old) list)) ∙ ap (λ p. map (said_by old) list ++ option_to_list p) (sym e);
}

pub instance_given : (old new : List Tree) (said : Option Said) (o : Option Instance) (i : Instance) → GivesInstance old new said o → o ≡ Some i
    → IsNamed (length new) i × (said ≡ Some (said_by new i))
instance_given old new said None i g e = cc
instance_given old new said (Some j) i g e =
    let same : j ≡ i = cc in
    subst (λ (k : Instance). IsNamed (length new) k × (said ≡ Some (said_by new k))) same g.named

pub none_given : (old new : List Tree) (said : Option Said) (o : Option Instance) → GivesInstance old new said o → o ≡ None → said ≡ None
none_given old new said None g e = g.named
none_given old new said (Some j) g e = cc

pub adds_one : (old new : List Tree) (list after : List Instance) (o : Option Said) (i : Instance) → All (IsNamed (length old)) list → length list < most_copies → Keeps old new
    → IsNamed (length new) i → o ≡ Some (said_by new i) → after ≡ list ++ i ∷ [] → Adds old list new after (option_to_list o)
adds_one old new list after o i named few keeps here e is = record {
  keeps = keeps;
  named = subst (All (IsNamed (length new))) (sym is) (All-push (IsNamed (length new)) list i (all_named_more (length old) (length new) list keeps.longer named) here);
  few = omega (arith, ap length is, length-append list (i ∷ []));
  say = ap (map (said_by new)) is ∙ map-append (said_by new) list (i ∷ [])
      ∙ ap (λ ss. ss ++ said_by new i ∷ []) (all_said_kept old new list keeps named)
      ∙ ap (λ p. map (said_by old) list ++ option_to_list p) (sym e);
}

pub refuses_more : (old mid new : List Tree) (m n : ℕ) (fault : InstanceFault) → Keeps old mid → m ≤ n → Refuses mid new m fault → Refuses old new n fault
refuses_more old mid new m n TooMany keeps le h = (keeps_then old mid new keeps h.0, let many : most_copies < m = h.1 in omega arith)
refuses_more old mid new m n OutOfMemory keeps le h = tt

length_option : {Y : Type 0} (o : Option Y) (ys : List Y) → length (cons_option o ys) ≡ length (option_to_list o) + length ys
length_option None ys = omega arith
length_option (Some y) ys = omega arith

-- what one copy says is counted among what all say
pub count_copy : (old mid : List Tree) (before list : List Instance) (f : Chosen → Option Said) (c : Chosen) (left rest : List Chosen) (said : List Said)
    → left ≡ c ∷ rest → map (said_by mid) list ++ filter_map f left ≡ map (said_by old) before ++ said
    → length list + length (option_to_list (f c)) ≤ length before + length said
count_copy old mid before list f c left rest said is e =
    let counts : length (map (said_by mid) list ++ filter_map f left) ≡ length (map (said_by old) before ++ said) = ap length e in
    let one : length (filter_map f left) ≡ length (option_to_list (f c)) + length (filter_map f rest) = ap (λ cs. length (filter_map f cs)) is ∙ length_option (f c) (filter_map f rest) in
    omega (arith, length-append (map (said_by mid) list) (filter_map f left), length-append (map (said_by old) before) said, length-map list (said_by mid), length-map before (said_by old))

cut : {X : Type 0} (xs : List X) (i : ℕ) (x : X) → i < length xs → x ≡ get_or xs i x → drop i xs ≡ x ∷ drop (i + 1) xs
cut {X} xs i x h e =
    let one_more : suc i ≡ i + 1 = omega arith in
    drop-cons xs i x h ∙ ap (λ k. get_or xs i x ∷ drop k xs) one_more ∙ ap (λ (y : X). y ∷ drop (i + 1) xs) (sym e)

pub count_rule : (table : List Tree) (list : List Instance) (rules : List CoreRule) (i : ℕ) (rule : CoreRule) → i < length rules → rule ≡ get_or rules i rule
    → map (said_by table) list ++ all_said (drop i rules) ≡ all_said rules → length list + length (said_by_rule rule) ≤ length (all_said rules)
count_rule table list rules i rule h is e =
    let counts : length (map (said_by table) list ++ all_said (drop i rules)) ≡ length (all_said rules) = ap length e in
    let rest = all_said (drop (i + 1) rules) in
    let one : length (all_said (drop i rules)) ≡ length (said_by_rule rule ++ rest) = ap (λ rs. length (all_said rs)) (cut rules i rule h is) in
    omega (arith, length-append (map (said_by table) list) (all_said (drop i rules)), length-append (said_by_rule rule) rest, length-map list (said_by table))

pub all_are_said : (table : List Tree) (list : List Instance) (rules : List CoreRule) (i : ℕ) → length rules ≤ i
    → map (said_by table) list ++ all_said (drop i rules) ≡ all_said rules → map (said_by table) list ≡ all_said rules
all_are_said table list rules i h e =
    sym (append-nil (map (said_by table) list)) ∙ ap (λ rs. map (said_by table) list ++ all_said rs) (sym (drop_of_length-le rules h)) ∙ e

-- what is said has a head exactly where it is no constraint
abbrev HasHead : RuleKind → Option Tree → Type 0
HasHead Constraint head = head ≡ None
HasHead Normal head = (h : Tree) × (head ≡ Some h)
HasHead Choice head = (h : Tree) × (head ≡ Some h)
HasHead External head = (h : Tree) × (head ≡ Some h)

no_head : (chosen : Chosen) (p : Option Pattern) (h : Option Tree) → p ≡ None → head_value chosen p ≡ Some h → h ≡ None
no_head chosen p h e is = let none : Some None ≡ Some h = sym (ap (head_value chosen) e) ∙ is in cc

mapped_head : (v : Option Tree) (h : Option Tree) → option_map Some v ≡ Some h → (t : Tree) × (h ≡ Some t)
mapped_head None h e = cc
mapped_head (Some t) h e = (t, cc)

a_head : (chosen : Chosen) (p : Option Pattern) (q : Pattern) (h : Option Tree) → p ≡ Some q → head_value chosen p ≡ Some h → (t : Tree) × (h ≡ Some t)
a_head chosen p q h e is = mapped_head (value chosen q) h (sym (ap (head_value chosen) e) ∙ is)

head_said : (kind : RuleKind) (chosen : Chosen) (p : Option Pattern) (h : Option Tree) → IsHeadedRule kind p → head_value chosen p ≡ Some h → HasHead kind h
head_said Constraint chosen p h e is = no_head chosen p h e is
head_said Normal chosen p h e is = a_head chosen p e.0 h e.1 is
head_said Choice chosen p h e is = a_head chosen p e.0 h e.1 is
head_said External chosen p h e is = a_head chosen p e.0 h e.1 is

said_headed : (rules : List CoreRule) → All (λ r. IsHeadedRule r.kind r.head) rules → (s : Said) → Contains (all_said rules) s → HasHead s.kind s.head
said_headed rules headed s among =
    let from = source_of rules s among in
    let parts = said_parts from.rule.kind _ _ _ _ s from.says in
    subst (λ (kind : RuleKind). HasHead kind s.head) (sym parts.kind_is)
    (head_said from.rule.kind from.chosen from.rule.head s.head (All-contains (λ r. IsHeadedRule r.kind r.head) rules from.rule headed from.among) parts.head_is)

no_name : (table : List Tree) (h : Option ℕ) → option_map (term_at table) h ≡ None → h ≡ None
no_name table None e = refl
no_name table (Some i) e = cc

a_name : (table : List Tree) (h : Option ℕ) (t : Tree) → option_map (term_at table) h ≡ Some t → (i : ℕ) × (h ≡ Some i)
a_name table None t e = cc
a_name table (Some i) t e = (i, refl)

named_head : (table : List Tree) (kind : RuleKind) (h : Option ℕ) → HasHead kind (option_map (term_at table) h) → IsHeaded kind h
named_head table Constraint h e = no_name table h e
named_head table Normal h e = a_name table h e.0 e.1
named_head table Choice h e = a_name table h e.0 e.1
named_head table External h e = a_name table h e.0 e.1

all_of_map : {X Y : Type 0} (P : Y → Type 0) (f : X → Y) (xs : List X) → All P (map f xs) → All (λ x. P (f x)) xs
all_of_map P f [] h = All-nil (λ x. P (f x))
all_of_map P f (x ∷ xs) h = All-cons (λ x. P (f x)) x xs (All-head P (f x) (map f xs) h) (all_of_map P f xs (All-tail P (f x) (map f xs) h))

pub all_headed : (table : List Tree) (list : List Instance) (rules : List CoreRule) → map (said_by table) list ≡ all_said rules
    → All (λ r. IsHeadedRule r.kind r.head) rules → All (λ i. IsHeaded i.kind i.head) list
all_headed table list rules e headed =
    let said : All (λ (s : Said). HasHead s.kind s.head) (map (said_by table) list) =
    subst (All (λ (s : Said). HasHead s.kind s.head)) (sym e) (all_from (λ (s : Said). HasHead s.kind s.head) (all_said rules) (said_headed rules headed)) in
    All-weaker (λ (i : Instance). HasHead i.kind (option_map (term_at table) i.head)) (λ (i : Instance). IsHeaded i.kind i.head) (λ i h. named_head table i.kind i.head h) list
    (all_of_map (λ (s : Said). HasHead s.kind s.head) (said_by table) list said)

pub next_choice : (old new : Walked) (more : Bool) → IsNext old new more → more ≡ true → old.left ≡ new.chosen ∷ new.left
next_choice old new true h e = h
next_choice old new false h e = cc

-- an error that is handed on
pub refused : {A : Type 0} (r : Result A InstanceFault) (fault : InstanceFault) (P : InstanceFault → Type 0) → IsErrAnd r (λ f. f ≡ fault) → P fault → IfErr r P
refused (Ok a) fault P same h = tt
refused (Err f) fault P same h = subst P (sym same) h
