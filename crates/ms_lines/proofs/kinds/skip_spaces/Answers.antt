use Rattle.std.proofs.Common.{drop, ap, ◌∙◌}
use Rattle.std.proofs.lemmas.List.{take_rest}
use Rattle.ms_lines.proofs.kinds.skip_spaces.Goals as goal

pub returns : goal.returns
returns c = take_rest c.args.line.now c.spaces_len.result ∙ ap (λ n. drop n c.args.line.now) c.spaces_len.ensures.value
