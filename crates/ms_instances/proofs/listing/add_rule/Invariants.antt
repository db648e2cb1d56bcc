use Rattle.std.proofs.Common.{◌≡◌, ◌≤◌, ◌++◌, All, map, length}
use Rattle.std.specs.List.{filter_map}
use Rattle.ms_copies.specs.Limits.{most_copies}
use Rattle.ms_value.specs.Naming.{Keeps}
use Rattle.ms_instances.specs.Instances.{said_by}
use Rattle.ms_instances.specs.Listing.{said_of, said_by_rule}
use Rattle.ms_instances.specs.Naming.{IsNamed}
use Rattle.ms_instances.proofs.listing.add_rule.Given as goal

abbrev pub invariant-loop-walk : goal.invariant-loop-walk
invariant-loop-walk l = record {
  keeps : Keeps l.fn.terms l.terms;
  named : All (IsNamed (length l.terms)) l.list.items;
  few : length l.list.items ≤ most_copies;
  say : map (said_by l.terms) l.list.items ++ filter_map (said_of l.rule) l.walk.left ≡ map (said_by l.fn.terms) l.fn.list.items ++ said_by_rule l.rule;
}

abbrev pub decreases-loop-walk : goal.decreases-loop-walk
decreases-loop-walk l = length l.walk.left
