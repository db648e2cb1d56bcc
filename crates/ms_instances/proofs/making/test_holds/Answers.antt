use Rattle.ms_value.proofs.Tables.{keeps_same}
use Rattle.ms_instances.proofs.Comparing.{integers_compared}
use Rattle.ms_instances.proofs.making.test_holds.Goals as goal

pub returns-in-Some : goal.returns-in-Some
returns-in-Some c = record {
  keeps = keeps_same c.args.terms.now;
  is = integers_compared c.args.test.now c.args.chosen.now c.integers_hold.result c.in-Some.it c.integers_hold.ensures c.in-Some.is;
}
