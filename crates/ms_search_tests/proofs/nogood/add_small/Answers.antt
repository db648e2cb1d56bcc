use Rattle.std.specs.Prelude.{Some}
use Rattle.ms_nogood.specs.declared.kind.Kind.TheVariants.{Base}
use Rattle.ms_nogood.proofs.Propagation.{within_more}
use Rattle.ms_search_tests.proofs.nogood.add_small.Goals as goal

pub returns : goal.returns
returns c =
    within_more c.args.store.now c.add.new.self (record { lits = c.args.lits.now; kind = Some Base }) c.in_ok-key.key 3 c.in_ok-key.ensures.added c.requires.within c.requires.small
