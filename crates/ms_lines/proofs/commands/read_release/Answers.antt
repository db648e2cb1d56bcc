use Rattle.ms_lines.proofs.CommandLemmas.{release_read}
use Rattle.ms_lines.proofs.commands.read_release.Goals as goal

pub returns : goal.returns
returns c = release_read c.args.text.now c.args.tokens.now _ c.in_ok-found.ensures.found _ c.release.ensures
