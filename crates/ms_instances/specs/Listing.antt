-- What the copies of core rules say, one after the other. Aggregates aren't looked at.
use Rattle.std.specs.Prelude.{Bool, true, false, List, [], ◌∷◌, Option, Some, None, option_map, unwrap_or, flat_map}
use Rattle.std.specs.List.{filter_map, list_all}
use Rattle.ms_tree.specs.Tree.{Tree}
use Rattle.ms_grammar.specs.Terms.{both}
use Rattle.ms_core.specs.declared.pattern.Pattern.{Pattern}
use Rattle.ms_core.specs.declared.rule.RuleKind.{RuleKind}
use Rattle.ms_core.specs.declared.rule.Test.{Test}
use Rattle.ms_core.specs.declared.rule.CoreRule.{CoreRule}
use Rattle.ms_copies.specs.Evaluating.{Chosen, value, compares}
use Rattle.ms_copies.specs.InOrder.{choices}
use Rattle.ms_instances.specs.Instances.{Said}

-- both sides of the comparison have a value, and it holds of them
abbrev pub holds : Chosen → Test → Bool
holds chosen test = unwrap_or (both (λ l r. Some (compares test.cmp l r)) (value chosen test.left) (value chosen test.right)) false

-- the values of all, where each has one
abbrev pub values : Chosen → List Pattern → Option (List Tree)
values chosen [] = Some []
values chosen (p ∷ ps) = both (λ t ts. Some (t ∷ ts)) (value chosen p) (values chosen ps)

-- the value of a head, where it has one or there is no head
abbrev pub head_value : Chosen → Option Pattern → Option (Option Tree)
head_value chosen None = Some None
head_value chosen (Some p) = option_map Some (value chosen p)

abbrev pub said_if : RuleKind → Bool → Option (Option Tree) → Option (List Tree) → Option (List Tree) → Option Said
said_if kind false head pos neg = None
said_if kind true None pos neg = None
said_if kind true (Some head) None neg = None
said_if kind true (Some head) (Some pos) None = None
said_if kind true (Some head) (Some pos) (Some neg) = Some (record { kind = kind; head = head; pos = pos; neg = neg })

-- What the rule says under a choice, where each comparison holds and each term has a value.
abbrev pub said_of : CoreRule → Chosen → Option Said
said_of rule chosen =
    said_if rule.kind (list_all (holds chosen) rule.conds.tests) (head_value chosen rule.head) (values chosen rule.conds.pos) (values chosen rule.conds.neg)

abbrev pub said_by_rule : CoreRule → List Said
said_by_rule rule = filter_map (said_of rule) (choices rule.conds.ranges [])

-- What the copies of all rules say.
abbrev pub all_said : List CoreRule → List Said
all_said rules = flat_map said_by_rule rules
