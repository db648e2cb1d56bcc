use Rattle.std.proofs.Common.{Some, ap}
use Rattle.ms_lines.proofs.LineSteps.{said_as}
use Rattle.ms_lines.proofs.read_outside.Goals as goal

pub returns-in-Passed-clause-said : goal.returns-in-Passed-clause-said
returns-in-Passed-clause-said c = said_as c.args.line.now _ _ c.in_ok-line_kind.ensures c.in-Passed.is _ c.requires

pub returns-in-OpensText-clause-said : goal.returns-in-OpensText-clause-said
returns-in-OpensText-clause-said c = said_as c.args.line.now _ _ c.in_ok-line_kind.ensures c.in-OpensText.is _ (ap Some c.new.ensures)

pub returns-in-Command-clause-said : goal.returns-in-Command-clause-said
returns-in-Command-clause-said c = said_as c.args.line.now _ _ c.in_ok-line_kind.ensures c.in-Command.is _ c.requires
