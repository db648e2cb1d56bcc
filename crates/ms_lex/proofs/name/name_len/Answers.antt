use Rattle.std.proofs.Common.{None, Some, ◌∙◌}
use Rattle.ms_lex.proofs.NameLens.{name_len-at}
use Rattle.ms_lex.proofs.name.name_len.Goals as goal

pub returns-in_err-bare-clause-value : goal.returns-in_err-bare-clause-value
returns-in_err-bare-clause-value c =
    c.from_residual.ensures ∙ name_len-at c.args.text.now c.underscores_len-underscores.result None c.underscores_len-underscores.ensures.value c.in_err-bare.ensures.value

pub returns-clause-value : goal.returns-clause-value
returns-clause-value c =
    name_len-at c.args.text.now c.underscores_len-underscores.result (Some c.in_ok-bare.bare) c.underscores_len-underscores.ensures.value c.in_ok-bare.ensures.value
