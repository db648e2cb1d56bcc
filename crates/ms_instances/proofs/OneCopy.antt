-- The instance of one copy, whose names come one after the other.
use Rattle.std.proofs.Common.{◌≡◌, ℕ, ◌<◌, true, List, length, map, All, Option, Some, None, sym, ap, ◌∙◌, subst, Vec}
use Rattle.std.specs.Prelude.{IfSome, option_map}
use Rattle.std.specs.Global.{Global}
use Rattle.std.specs.List.{list_all}
use Rattle.ms_tree.specs.Tree.{Tree}
use Rattle.ms_term.specs.Terms.{term_at}
use Rattle.ms_core.specs.declared.pattern.Pattern.{Pattern}
use Rattle.ms_core.specs.declared.rule.CoreRule.{CoreRule}
use Rattle.ms_copies.specs.Evaluating.{Chosen, value, all_values}
use Rattle.ms_value.specs.Naming.{Keeps, GivesAll}
use Rattle.ms_value.proofs.Tables.{keeps_then}
use Rattle.ms_instances.specs.Listing.{holds, head_value, values, said_of}
use Rattle.ms_instances.specs.Naming.{GivesHead, GivesInstance}
use Rattle.ms_instances.proofs.Growing.{all_below, head_kept, names_kept, head_below, names_below, values_named, values_none}
use Rattle.ms_instances.proofs.Members.{said_made, said_no_pos, said_no_neg}

-- the names of the values of terms
pub record AreNames (table : List Tree) (chosen : Chosen) (ps : List Pattern) (names : List ℕ) : Type 0 where
  pub below : All (λ t. t < length table) names
  pub are : values chosen ps ≡ Some (map (term_at table) names)

-- the name of a head's value
pub record IsHeadName (table : List Tree) (chosen : Chosen) (p : Option Pattern) (head : Option ℕ) : Type 0 where
  pub below : IfSome head (λ h. h < length table)
  pub is : head_value chosen p ≡ Some (option_map (term_at table) head)

pub names_given : (old new : List Tree) (chosen : Chosen) (qs ps : List Pattern) (o : Option (Vec ℕ Global)) (v : Vec ℕ Global)
    → GivesAll old new (all_values (map (value chosen) qs)) o → qs ≡ ps → o ≡ Some v → AreNames new chosen ps v.items
names_given old new chosen qs ps None v g same e = cc
names_given old new chosen qs ps (Some w) v g same e =
    let same_vec : w ≡ v = cc in
    let is : w.items ≡ v.items = ap (λ (x : Vec ℕ Global). x.items) same_vec in
    subst (AreNames new chosen ps) is (record {
      below = all_below (length new) w.items g.named.0;
      are = ap (values chosen) (sym same) ∙ values_named chosen qs new w.items g.named.1;
    })

pub no_values : (old new : List Tree) (chosen : Chosen) (qs ps : List Pattern) (o : Option (Vec ℕ Global))
    → GivesAll old new (all_values (map (value chosen) qs)) o → qs ≡ ps → o ≡ None → values chosen ps ≡ None
no_values old new chosen qs ps None g same e = ap (values chosen) (sym same) ∙ values_none chosen qs g.named
no_values old new chosen qs ps (Some w) g same e = cc

pub names_later : (old new : List Tree) (chosen : Chosen) (ps : List Pattern) (names : List ℕ) → Keeps old new → AreNames old chosen ps names → AreNames new chosen ps names
names_later old new chosen ps names k h = record {
  below = names_below (length old) (length new) names k.longer h.below;
  are = h.are ∙ ap Some (sym (names_kept old new names k h.below));
}

pub head_given : (old new : List Tree) (chosen : Chosen) (p : Option Pattern) (o : Option (Option ℕ)) (head : Option ℕ)
    → GivesHead old new (head_value chosen p) o → o ≡ Some head → IsHeadName new chosen p head
head_given old new chosen p None head g e = cc
head_given old new chosen p (Some h) head g e =
    let same : h ≡ head = cc in
    subst (IsHeadName new chosen p) same (record { below = g.named.0; is = g.named.1 })

pub head_later : (old new : List Tree) (chosen : Chosen) (p : Option Pattern) (head : Option ℕ) → Keeps old new → IsHeadName old chosen p head → IsHeadName new chosen p head
head_later old new chosen p head k h = record {
  below = head_below (length old) (length new) head k.longer h.below;
  is = h.is ∙ ap Some (sym (head_kept old new head k h.below));
}

-- the tables that grow while the parts of a copy are named
pub record Grow (first second third fourth fifth : List Tree) : Type 0 where
  pub tests : Keeps first second
  pub head : Keeps second third
  pub pos : Keeps third fourth
  pub neg : Keeps fourth fifth

pub grown : (a b c d e : List Tree) → Grow a b c d e → Keeps a e
grown a b c d e g = keeps_then a d e (keeps_then a c d (keeps_then a b c g.tests g.head) g.pos) g.neg

pub no_pos : (a b c d : List Tree) (rule : CoreRule) (chosen : Chosen) → Keeps a b → Keeps b c → Keeps c d → values chosen rule.conds.pos ≡ None → GivesInstance a d (said_of rule chosen) None
no_pos a b c d rule chosen tests head pos e = record {
  keeps = keeps_then a c d (keeps_then a b c tests head) pos;
  named = said_no_pos rule.kind (list_all (holds chosen) rule.conds.tests) (head_value chosen rule.head) (values chosen rule.conds.pos) (values chosen rule.conds.neg) e;
}

pub no_neg : (a b c d e : List Tree) (rule : CoreRule) (chosen : Chosen) → Grow a b c d e → values chosen rule.conds.neg ≡ None → GivesInstance a e (said_of rule chosen) None
no_neg a b c d e rule chosen g is = record {
  keeps = grown a b c d e g;
  named = said_no_neg rule.kind (list_all (holds chosen) rule.conds.tests) (head_value chosen rule.head) (values chosen rule.conds.pos) (values chosen rule.conds.neg) is;
}

pub whole_instance : (a b c d e : List Tree) (rule : CoreRule) (chosen : Chosen) (head : Option ℕ) (pos neg : List ℕ) → Grow a b c d e
    → list_all (holds chosen) rule.conds.tests ≡ true → IsHeadName c chosen rule.head head → AreNames d chosen rule.conds.pos pos → AreNames e chosen rule.conds.neg neg
    → GivesInstance a e (said_of rule chosen) (Some (record { kind = rule.kind; head = head; pos = pos; neg = neg }))
whole_instance a b c d e rule chosen head pos neg g hold h p n =
    let h_end = head_later c e chosen rule.head head (keeps_then c d e g.pos g.neg) h in
    let p_end = names_later d e chosen rule.conds.pos pos g.neg p in
    record {
      keeps = grown a b c d e g;
      named = (
        record { head = h_end.below; pos = p_end.below; neg = n.below },
        said_made rule.kind (list_all (holds chosen) rule.conds.tests) (head_value chosen rule.head) (values chosen rule.conds.pos) (values chosen rule.conds.neg)
            (option_map (term_at e) head) (map (term_at e) pos) (map (term_at e) neg) hold h_end.is p_end.are n.are,
      );
    }
