use Rattle.std.proofs.Common.{◌≡◌, drop}
use Rattle.std.specs.List.{list_all}
use Rattle.ms_value.specs.Naming.{Keeps}
use Rattle.ms_instances.specs.Listing.{holds}
use Rattle.ms_instances.proofs.making.all_hold.Given as goal

abbrev pub invariant-loop-test : goal.invariant-loop-test
invariant-loop-test l = record {
  keeps : Keeps l.fn.terms l.terms;
  same : list_all (holds l.chosen) (drop l.test-index l.tests) ≡ list_all (holds l.chosen) l.tests;
}
