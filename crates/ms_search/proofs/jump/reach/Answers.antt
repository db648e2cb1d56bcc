use Rattle.std.proofs.Common.{sym, ◌∙◌}
use Rattle.ms_lits.specs.Assignment.{entry_of}
use Rattle.ms_lits.proofs.Seen.{unassigned_entry}
use Rattle.ms_search.proofs.Jumps.{free_below, lost_level}
use Rattle.ms_search.proofs.jump.reach.Goals as goal

pub returns-in-Some : goal.returns-in-Some
returns-in-Some c = record { free = λ lower lt. lost_level c.args.trail.now c.requires.assignment c.args.lit.var c.level_of.result lower c.level_of.ensures lt }

pub returns-in-None : goal.returns-in-None
returns-in-None c = record { free = λ lower lt. free_below c.args.trail.now.entries c.args.lit.var lower (unassigned_entry (entry_of c.args.trail.now.entries c.args.lit.var) (sym c.value.ensures ∙ c.in-None.is)) }
