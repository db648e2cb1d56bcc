use Rattle.ms_lines.proofs.CommandLemmas.{assign_none, assign_read}
use Rattle.ms_lines.proofs.commands.read_assign.Goals as goal

pub returns-in_default : goal.returns-in_default
returns-in_default c = assign_none c.args.text.now c.args.tokens.now _ c.in_ok-atom.ensures.found c.in_default.is

pub returns : goal.returns
returns c = assign_read c.args.text.now c.args.tokens.now _ c.in_ok-atom.ensures.found _ c.in-Some.is _ c.tokens_after-after.ensures _ c.read_truth.ensures _ c.assign.ensures
