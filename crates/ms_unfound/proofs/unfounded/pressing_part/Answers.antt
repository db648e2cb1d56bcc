use Rattle.std.proofs.Common.{◌∙◌, sym}
use Rattle.ms_unfound.proofs.unfounded.pressing_part.Goals as goal

pub returns-then-is_settled-clause-found : goal.returns-then-is_settled-clause-found
returns-then-is_settled-clause-found c = c.requires.settled (sym c.is_settled.ensures ∙ c.if-is_settled.true)
