use Rattle.std.proofs.Common.{◌≡◌, ◌≤◌, ◌++◌, All, map, length, drop}
use Rattle.ms_copies.specs.Limits.{most_copies}
use Rattle.ms_value.specs.Naming.{Keeps}
use Rattle.ms_instances.specs.Instances.{said_by}
use Rattle.ms_instances.specs.Listing.{all_said}
use Rattle.ms_instances.specs.Naming.{IsNamed}
use Rattle.ms_instances.proofs.listing.instances.Given as goal

abbrev pub invariant-loop-rule : goal.invariant-loop-rule
invariant-loop-rule l = record {
  keeps : Keeps l.fn.terms l.terms;
  named : All (IsNamed (length l.terms)) l.list.items;
  few : length l.list.items ≤ most_copies;
  say : map (said_by l.terms) l.list.items ++ all_said (drop l.rule-index l.rules) ≡ all_said l.rules;
}
