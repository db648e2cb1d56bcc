use Rattle.ms_texts.proofs.Second.{IsDefining}
use Rattle.ms_texts.proofs.constants.Constants.define_each.Given as goal

abbrev pub invariant-loop-statement : goal.invariant-loop-statement
invariant-loop-statement l = IsDefining l.fn.self l.fn.list l.self l.statement-index
