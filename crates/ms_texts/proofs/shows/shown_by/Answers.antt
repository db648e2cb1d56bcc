use Rattle.std.proofs.Common.{sym, ◌∙◌}
use Rattle.ms_texts.proofs.TextLaws.{shown_some}
use Rattle.ms_texts.proofs.shows.shown_by.Goals as goal

pub returns-else-is_empty : goal.returns-else-is_empty
returns-else-is_empty c = c.any_shown.ensures ∙ shown_some c.args.name.now c.args.arity c.args.shows.now (sym c.is_empty.ensures ∙ c.if-is_empty.false)
