-- What copies say has the same ground module, and the same known atoms, as the rules.
use Rattle.std.proofs.Common.{◌≡◌, ℕ, Bool, true, inl, inr, ◌↔◌, List, [], ◌++◌, All, Any, Option, Some, None, sym, ap, ◌∙◌, subst}
use Rattle.std.specs.Prelude.{Contains, IsSomeAnd, slice_get}
use Rattle.std.proofs.lemmas.List.Elements.{All-contains, All-weaker}
use Rattle.ms_tree.specs.Tree.{Tree}
use Rattle.ms_core.specs.declared.pattern.Pattern.{Pattern}
use Rattle.ms_core.specs.declared.rule.RuleKind.{RuleKind}
use Rattle.ms_core.specs.declared.rule.CoreRule.{CoreRule}
use Rattle.ms_join.specs.declared.ground_rule.GroundRule.{GroundRule}
use Rattle.ms_join.specs.declared.ground_rule.GroundKind.{GroundKind}
use Rattle.ms_join.specs.declared.ground_module.GroundModule.{GroundModule}
use Rattle.ms_copies.specs.Evaluating.{Chosen, value}
use Rattle.ms_copies.specs.Choosing.{IsCopy}
use Rattle.ms_copies.specs.Grounding.{gives_head, gives_external, head_under, IsHeadOf, IsHead, IsExternal, IsKnown}
use Rattle.ms_copies.specs.Simplifying.{ArePlain, ground_kind, IsAmong, IsValueOf, IsNumbered, AreNumbers, IsLeft, AreLeft, AreNew, IsModule}
use Rattle.ms_copies.proofs.Listed.{choices_from, choices_to}
use Rattle.ms_instances.specs.Instances.{Said, IsHeadAmong, IsKnownBy, Leaves, AreLeftBy, AreNewBy, IsModuleBy}
use Rattle.ms_instances.specs.Listing.{values, all_said}
use Rattle.ms_instances.proofs.Members.{source_of, from_source, all_from, any_parts, any_made}
use Rattle.ms_instances.proofs.Copies.{IsSaid, says, says_copy, copy_says, among_values, value_among, known_to, known_from}

-- the copy that what is said comes from
pub record Comes (rules : List CoreRule) (s : Said) : Type 0 where
  pub rule : CoreRule
  pub chosen : Chosen
  pub among : Contains rules rule
  pub copy : IsCopy rule chosen
  pub said : IsSaid rule chosen s

pub comes_from : (rules : List CoreRule) → ArePlain rules → (s : Said) → Contains (all_said rules) s → Comes rules s
comes_from rules plain s c =
    let source = source_of rules s c in
    record {
      rule = source.rule;
      chosen = source.chosen;
      among = source.among;
      copy = says_copy source.rule source.chosen s (All-contains (λ (rule : CoreRule). rule.aggs ≡ []) rules source.rule plain source.among)
          (choices_from source.rule.conds.ranges [] source.chosen source.choice) source.says;
      said = says source.rule source.chosen s source.says;
    }

-- what a copy says
pub record Gives (rules : List CoreRule) (rule : CoreRule) (chosen : Chosen) : Type 0 where
  pub s : Said
  pub among : Contains (all_said rules) s
  pub said : IsSaid rule chosen s

pub gives : (rules : List CoreRule) (rule : CoreRule) (chosen : Chosen) → Contains rules rule → IsCopy rule chosen → Gives rules rule chosen
gives rules rule chosen c copy =
    let found = copy_says rule chosen copy in
    record {
      s = found.0;
      among = from_source rules found.0 (record { rule = rule; chosen = chosen; among = c; choice = choices_to rule.conds.ranges [] chosen copy.within; says = found.1 });
      said = says rule chosen found.0 found.1;
    }

abbrev Gave : (RuleKind → Bool) → Tree → Said → Type 0
Gave is_kind t s = (is_kind s.kind ≡ true) × (s.head ≡ Some t)

abbrev Heads : (RuleKind → Bool) → Tree → CoreRule → Type 0
Heads is_kind t rule = (is_kind rule.kind ≡ true) × ((chosen : Chosen) × IsCopy rule chosen × (head_under chosen rule ≡ Some t))

pub head_to : (is_kind : RuleKind → Bool) (rules : List CoreRule) → ArePlain rules → (t : Tree) → IsHeadAmong is_kind (all_said rules) t → IsHeadOf is_kind rules t
head_to is_kind rules plain t h =
    let found = any_parts (Gave is_kind t) (all_said rules) h in
    let from = comes_from rules plain found.0 found.1 in
    any_made (Heads is_kind t) rules from.rule from.among (ap is_kind (sym from.said.kind) ∙ found.2.0, (from.chosen, from.copy, from.said.head ∙ found.2.1))

pub head_from : (is_kind : RuleKind → Bool) (rules : List CoreRule) (t : Tree) → IsHeadOf is_kind rules t → IsHeadAmong is_kind (all_said rules) t
head_from is_kind rules t h =
    let found = any_parts (Heads is_kind t) rules h in
    let copy = found.2.1 in
    let g = gives rules found.0 copy.0 found.1 copy.1 in
    any_made (Gave is_kind t) (all_said rules) g.s g.among (ap is_kind g.said.kind ∙ found.2.0, sym g.said.head ∙ copy.2)

pub known_by : (base : List Tree) (rules : List CoreRule) → ArePlain rules → (t : Tree) → IsKnownBy base (all_said rules) t ↔ IsKnown base rules t
known_by base rules plain t = (
  λ (h : IsKnownBy base (all_said rules) t). elim h [
    | inl old ↦ inl old
    | inr given ↦ elim given [
      | inl head ↦ inr (inl (head_to gives_head rules plain t head))
      | inr external ↦ inr (inr (head_to gives_external rules plain t external))
    ]
  ],
  λ (h : IsKnown base rules t). elim h [
    | inl old ↦ inl old
    | inr given ↦ elim given [
      | inl head ↦ inr (inl (head_from gives_head rules t head))
      | inr external ↦ inr (inr (head_from gives_external rules t external))
    ]
  ],
)

some_and_more : {X : Type 0} (o : Option X) (P Q : X → Type 0) → ((x : X) → P x → Q x) → IsSomeAnd o P → IsSomeAnd o Q
some_and_more None P Q f h = h
some_and_more (Some x) P Q f h = f x h

pub numbers_same : (atoms : List Tree) (Is Js : Tree → Type 0) (numbers : List ℕ) → ((t : Tree) → Is t → Js t) → ((t : Tree) → Js t → Is t) → AreNumbers atoms Is numbers → AreNumbers atoms Js numbers
numbers_same atoms Is Js numbers to from n = record {
  rising = n.rising;
  members = λ a. (
    λ (c : Contains numbers a). some_and_more (slice_get atoms a) Is Js to ((n.members a).0 c),
    λ (h : IsSomeAnd (slice_get atoms a) Js). (n.members a).1 (some_and_more (slice_get atoms a) Js Is from h),
  );
}

value_of_among : (chosen : Chosen) (ps : List Pattern) (ts : List Tree) → values chosen ps ≡ Some ts → (t : Tree) → IsValueOf chosen ps t → Contains ts t
value_of_among chosen ps ts e t h =
    let found = any_parts (λ (p : Pattern). value chosen p ≡ Some t) ps h in
    value_among chosen ps ts found.0 t e found.1 found.2

pub leaves_left : (atoms : List Tree) (rule : CoreRule) (chosen : Chosen) (s : Said) (g : GroundRule) → IsSaid rule chosen s → Leaves atoms s g → IsLeft atoms rule chosen g
leaves_left atoms rule chosen s g said leaves = record {
  kind = ap ground_kind (sym said.kind) ∙ leaves.kind;
  head = subst (λ (h : Option Tree). IsNumbered atoms h g.head) (sym said.head) leaves.head;
  known = known_to atoms chosen rule.conds.pos s.pos said.pos leaves.known;
  pos = numbers_same atoms (Contains s.pos) (IsValueOf chosen rule.conds.pos) g.pos (λ t. among_values chosen rule.conds.pos s.pos t said.pos) (value_of_among chosen rule.conds.pos s.pos said.pos) leaves.pos;
  neg = numbers_same atoms (Contains s.neg) (IsValueOf chosen rule.conds.neg) g.neg (λ t. among_values chosen rule.conds.neg s.neg t said.neg) (value_of_among chosen rule.conds.neg s.neg said.neg) leaves.neg;
  plain = leaves.plain;
}

abbrev IsLeftOf : List Tree → GroundRule → CoreRule → Type 0
IsLeftOf atoms g rule = (chosen : Chosen) × IsCopy rule chosen × IsLeft atoms rule chosen g

left_of : (atoms : List Tree) (rules : List CoreRule) → ArePlain rules → (g : GroundRule) → Any (λ s. Leaves atoms s g) (all_said rules) → Any (IsLeftOf atoms g) rules
left_of atoms rules plain g h =
    let found = any_parts (λ (s : Said). Leaves atoms s g) (all_said rules) h in
    let from = comes_from rules plain found.0 found.1 in
    any_made (IsLeftOf atoms g) rules from.rule from.among (from.chosen, from.copy, leaves_left atoms from.rule from.chosen found.0 g from.said found.2)

abbrev IsKept : List Tree → List GroundRule → Said → Type 0
IsKept atoms left s = (kind : GroundKind) → ground_kind s.kind ≡ Some kind → All (Contains atoms) s.pos → Any (Leaves atoms s) left

kept_of : (atoms : List Tree) (rules : List CoreRule) (left : List GroundRule) → All (IsKept atoms left) (all_said rules) → (rule : CoreRule) → Contains rules rule
    → (chosen : Chosen) → IsCopy rule chosen → (kind : GroundKind) → ground_kind rule.kind ≡ Some kind → All (IsAmong atoms chosen) rule.conds.pos → Any (IsLeft atoms rule chosen) left
kept_of atoms rules left every rule c chosen copy kind is known =
    let g = gives rules rule chosen c copy in
    let found = any_parts (Leaves atoms g.s) left (All-contains (IsKept atoms left) (all_said rules) g.s every g.among kind (ap ground_kind g.said.kind ∙ is)
    (known_from atoms chosen rule.conds.pos g.s.pos g.said.pos known)) in
    any_made (IsLeft atoms rule chosen) left found.0 found.1 (leaves_left atoms rule chosen g.s found.0 g.said found.2)

left_by : (atoms : List Tree) (rules : List CoreRule) → ArePlain rules → (left : List GroundRule) → AreLeftBy atoms (all_said rules) left → AreLeft atoms rules left
left_by atoms rules plain left h = record {
  rising = h.rising;
  each = All-weaker (λ (g : GroundRule). Any (λ s. Leaves atoms s g) (all_said rules)) (λ (g : GroundRule). Any (IsLeftOf atoms g) rules) (left_of atoms rules plain) left h.each;
  every = all_from (λ (rule : CoreRule). (chosen : Chosen) → IsCopy rule chosen → (kind : GroundKind) → ground_kind rule.kind ≡ Some kind → All (IsAmong atoms chosen) rule.conds.pos → Any (IsLeft atoms rule chosen) left)
      rules (kept_of atoms rules left h.every);
}

new_by : (base : List Tree) (rules : List CoreRule) → ArePlain rules → (names : List Tree) → AreNewBy base (all_said rules) names → AreNew base rules names
new_by base rules plain names h = record {
  rising = h.rising;
  members = λ t. (
    λ (c : Contains names t). let known = (h.members t).0 c in ((known_by base rules plain t).0 known.0, known.1),
    λ (k : IsKnown base rules t × (¬ Contains base t)). (h.members t).1 ((known_by base rules plain t).1 k.0, k.1),
  );
}

-- The ground module of what the copies of rules say is that of the rules.
pub module_by : (base : List Tree) (rules : List CoreRule) → ArePlain rules → (names : List Tree) (m : GroundModule) → IsModuleBy base (all_said rules) names m → IsModule base rules names m
module_by base rules plain names m h = record {
  plain = plain;
  first = h.first;
  fresh = h.fresh;
  new = new_by base rules plain names h.new;
  left = left_by (base ++ names) rules plain m.rules h.left;
  heads = numbers_same (base ++ names) (IsHeadAmong gives_head (all_said rules)) (IsHead rules) m.heads (head_to gives_head rules plain) (head_from gives_head rules) h.heads;
  externals = numbers_same (base ++ names) (IsHeadAmong gives_external (all_said rules)) (IsExternal rules) m.externals (head_to gives_external rules plain) (head_from gives_external rules) h.externals;
}
