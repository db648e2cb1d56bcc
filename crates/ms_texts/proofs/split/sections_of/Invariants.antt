use Rattle.ms_texts.proofs.SectionLaws.{IsOnTheWay}
use Rattle.ms_texts.proofs.split.sections_of.Given as goal

abbrev pub invariant-loop-statement : goal.invariant-loop-statement
invariant-loop-statement l = IsOnTheWay l.fn.list l.made.items l.here l.statement-iterator.rest.items
