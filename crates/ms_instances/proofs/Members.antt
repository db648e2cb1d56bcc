-- What is said, and the rule and the choice that it comes from.
use Rattle.std.proofs.Common.{◌≡◌, Bool, true, false, inl, inr, ◌⊎◌, List, [], ◌∷◌, All, Any, Option, Some, None, refl, sym, ap, ◌∙◌, subst, arith}
use Rattle.std.specs.Prelude.{Contains}
use Rattle.std.specs.List.{filter_map, cons_option}
use Rattle.std.proofs.lemmas.List.Elements.{Contains-append_cases, Contains-append_right, All-weaker, All-contains_itself}
use Rattle.ms_base.proofs.Lists.{Contains-behind, Contains-cases, Contains-first}
use Rattle.ms_tree.specs.Tree.{Tree}
use Rattle.ms_core.specs.declared.rule.RuleKind.{RuleKind}
use Rattle.ms_core.specs.declared.rule.CoreRule.{CoreRule}
use Rattle.ms_copies.specs.Evaluating.{Chosen}
use Rattle.ms_copies.specs.InOrder.{choices}
use Rattle.ms_copies.proofs.Listed.{flat_parts, flat_among}
use Rattle.ms_instances.specs.Instances.{Said}
use Rattle.ms_instances.specs.Listing.{said_if, said_of, said_by_rule, all_said}

-- the parts of what is said
pub record HasParts (kind : RuleKind) (b : Bool) (head : Option (Option Tree)) (pos neg : Option (List Tree)) (s : Said) : Type 0 where
  pub holds : b ≡ true
  pub kind_is : s.kind ≡ kind
  pub head_is : head ≡ Some s.head
  pub pos_is : pos ≡ Some s.pos
  pub neg_is : neg ≡ Some s.neg

pub said_parts : (kind : RuleKind) (b : Bool) (head : Option (Option Tree)) (pos neg : Option (List Tree)) (s : Said) → said_if kind b head pos neg ≡ Some s → HasParts kind b head pos neg s
said_parts kind false head pos neg s e = cc
said_parts kind true None pos neg s e = cc
said_parts kind true (Some h) None neg s e = cc
said_parts kind true (Some h) (Some p) None s e = cc
said_parts kind true (Some h) (Some p) (Some n) s e =
    let made : Said = record { kind = kind; head = h; pos = p; neg = n } in
    let same : made ≡ s = cc in
    record {
      holds = refl;
      kind_is = sym (ap (λ (x : Said). x.kind) same);
      head_is = ap (λ (x : Said). Some x.head) same;
      pos_is = ap (λ (x : Said). Some x.pos) same;
      neg_is = ap (λ (x : Said). Some x.neg) same;
    }

pub said_made : (kind : RuleKind) (b : Bool) (head : Option (Option Tree)) (pos neg : Option (List Tree)) (h : Option Tree) (p n : List Tree)
    → b ≡ true → head ≡ Some h → pos ≡ Some p → neg ≡ Some n → said_if kind b head pos neg ≡ Some (record { kind = kind; head = h; pos = p; neg = n })
said_made kind b head pos neg h p n eb eh ep en =
    ap (λ x. said_if kind x head pos neg) eb
    ∙ ap (λ x. said_if kind true x pos neg) eh
    ∙ ap (λ x. said_if kind true (Some h) x neg) ep
    ∙ ap (λ x. said_if kind true (Some h) (Some p) x) en

pub said_no_head : (kind : RuleKind) (b : Bool) (head : Option (Option Tree)) (pos neg : Option (List Tree)) → head ≡ None → said_if kind b head pos neg ≡ None
said_no_head kind false head pos neg e = refl
said_no_head kind true head pos neg e = ap (λ x. said_if kind true x pos neg) e

pub said_no_pos : (kind : RuleKind) (b : Bool) (head : Option (Option Tree)) (pos neg : Option (List Tree)) → pos ≡ None → said_if kind b head pos neg ≡ None
said_no_pos kind false head pos neg e = refl
said_no_pos kind true None pos neg e = refl
said_no_pos kind true (Some h) pos neg e = ap (λ x. said_if kind true (Some h) x neg) e

pub said_no_neg : (kind : RuleKind) (b : Bool) (head : Option (Option Tree)) (pos neg : Option (List Tree)) → neg ≡ None → said_if kind b head pos neg ≡ None
said_no_neg kind false head pos neg e = refl
said_no_neg kind true None pos neg e = refl
said_no_neg kind true (Some h) None neg e = refl
said_no_neg kind true (Some h) (Some p) neg e = ap (λ x. said_if kind true (Some h) (Some p) x) e

option_parts : {Y : Type 0} (o : Option Y) (ys : List Y) (y : Y) → Contains (cons_option o ys) y → (o ≡ Some y) ⊎ Contains ys y
option_parts None ys y h = inr h
option_parts (Some z) ys y h = elim (Contains-cases z ys y h) [
  | inl same ↦ inl (ap Some same)
  | inr there ↦ inr there
]

option_here : {Y : Type 0} (o : Option Y) (ys : List Y) (y : Y) → o ≡ Some y → Contains (cons_option o ys) y
option_here {Y} o ys y e = subst (λ (p : Option Y). Contains (cons_option p ys) y) (sym e) (Contains-first y ys)

option_there : {Y : Type 0} (o : Option Y) (ys : List Y) (y : Y) → Contains ys y → Contains (cons_option o ys) y
option_there None ys y h = h
option_there (Some z) ys y h = Contains-behind z ys y h

-- the element of which a list of what is given has it
pub given_parts : {X Y : Type 0} (f : X → Option Y) (xs : List X) (y : Y) → Contains (filter_map f xs) y → (x : X) × Contains xs x × (f x ≡ Some y)
given_parts f [] y (k, inside, is) = absurd (omega arith)
given_parts f (x ∷ xs) y h = elim (option_parts (f x) (filter_map f xs) y h) [
  | inl here ↦ (x, Contains-first x xs, here)
  | inr there ↦ let p = given_parts f xs y there in (p.0, Contains-behind x xs p.0 p.1, p.2)
]

pub given_among : {X Y : Type 0} (f : X → Option Y) (xs : List X) (x : X) (y : Y) → Contains xs x → f x ≡ Some y → Contains (filter_map f xs) y
given_among f [] x y (k, inside, is) e = absurd (omega arith)
given_among {X} {Y} f (z ∷ xs) x y h e = elim (Contains-cases z xs x h) [
  | inl same ↦ option_here (f z) (filter_map f xs) y (ap f same ∙ e)
  | inr there ↦ option_there (f z) (filter_map f xs) y (given_among f xs x y there e)
]

-- the rule and the choice that what is said comes from
pub record Source (rules : List CoreRule) (s : Said) : Type 0 where
  pub rule : CoreRule
  pub chosen : Chosen
  pub among : Contains rules rule
  pub choice : Contains (choices rule.conds.ranges []) chosen
  pub says : said_of rule chosen ≡ Some s

pub source_of : (rules : List CoreRule) (s : Said) → Contains (all_said rules) s → Source rules s
source_of rules s h =
    let p = flat_parts said_by_rule rules s h in
    let q = given_parts (said_of p.0) (choices p.0.conds.ranges []) s p.2 in
    record { rule = p.0; chosen = q.0; among = p.1; choice = q.1; says = q.2 }

pub from_source : (rules : List CoreRule) (s : Said) → Source rules s → Contains (all_said rules) s
from_source rules s h = flat_among said_by_rule rules h.rule s h.among (given_among (said_of h.rule) (choices h.rule.conds.ranges []) h.chosen s h.choice h.says)

pub all_from : {X : Type 0} (P : X → Type 0) (xs : List X) → ((x : X) → Contains xs x → P x) → All P xs
all_from P xs f = All-weaker (Contains xs) P f xs (All-contains_itself xs)

pub any_parts : {X : Type 0} (P : X → Type 0) (xs : List X) → Any P xs → (x : X) × Contains xs x × P x
any_parts P xs h = (h.1, (h.0, h.2, h.3), h.4)

pub any_made : {X : Type 0} (P : X → Type 0) (xs : List X) (x : X) → Contains xs x → P x → Any P xs
any_made P xs x c p = (c.0, x, c.1, c.2, p)
