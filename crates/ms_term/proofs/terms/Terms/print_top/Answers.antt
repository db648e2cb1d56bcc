use Rattle.std.proofs.Common.{◌<◌, length, arith}
use Rattle.ms_term.proofs.NodeTables.{AllBelow-le}
use Rattle.ms_term.proofs.terms.Terms.print_top.Goals as goal

pub print_name-requires-clause-within : goal.print_name-requires-clause-within
print_name-requires-clause-within c =
    let within : c.args.t < length c.args.self.now = c.requires.within in
    AllBelow-le c.args.t (length c.args.self.now) _ (omega arith) c.in-Function.ensures.below
