use Rattle.std.proofs.Common.{◌≡◌, ◌++◌, drop}
use Rattle.ms_texts.specs.Additions.{shows_in}
use Rattle.ms_texts.proofs.shows.shows_in.Given as goal

abbrev pub invariant-loop-statement : goal.invariant-loop-statement
invariant-loop-statement l = l.shows.items ++ shows_in (drop l.statement-index l.list) ≡ shows_in l.list
