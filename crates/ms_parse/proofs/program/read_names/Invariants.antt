use Rattle.std.proofs.Common.{length}
use Rattle.ms_text.specs.Tokens.{LieWithin}
use Rattle.ms_parse.proofs.NameSteps.{AreNamesTo}
use Rattle.ms_parse.proofs.program.read_names.Given as goal

abbrev pub invariant-loop-first : goal.invariant-loop-first
invariant-loop-first l = AreNamesTo l.text l.tokens l.names l.rest × LieWithin (length l.text) l.rest

abbrev pub decreases-loop-first : goal.decreases-loop-first
decreases-loop-first l = length l.rest
