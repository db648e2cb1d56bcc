use Rattle.std.proofs.Common.{ap, ◌∙◌, drop}
use Rattle.ms_read_part.proofs.Inputs.{words_after}
use Rattle.ms_read_part.proofs.input.Input.after.Goals as goal

pub returns : goal.returns
returns c = words_after c.self.inside.text.now c.self.inside.tokens.now c.args.len ∙ ap (drop c.args.len) c.self.view_is
