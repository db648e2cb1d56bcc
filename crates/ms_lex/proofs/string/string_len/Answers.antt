use Rattle.std.proofs.Common.{sym, ◌∙◌}
use Rattle.std.proofs.lemmas.List.{take_rest}
use Rattle.ms_lex.proofs.Strings.{HasReadString-character, HasReadString-bad, HasReadString-closed}
use Rattle.ms_lex.proofs.string.string_len.Goals as goal

pub returns-in_err-len-clause-value : goal.returns-in_err-len-clause-value
returns-in_err-len-clause-value c =
    c.from_residual.ensures ∙ HasReadString-bad _ _ c.loop-len.invariant _ (take_rest c.args.text.now c.loop-len.len) (sym c.starts_with.ensures.value ∙ c.loop-len-test.true) c.in_err-len.ensures.value

pub loop-len-preserved : goal.loop-len-preserved
loop-len-preserved c =
    HasReadString-character _ _ c.loop-len.invariant _ (take_rest c.args.text.now c.loop-len.len) (sym c.starts_with.ensures.value ∙ c.loop-len-test.true) _ c.in_ok-len.ensures.within.1 c.in_ok-len.ensures.value

pub returns-clause-value : goal.returns-clause-value
returns-clause-value c =
    HasReadString-closed _ _ c.loop-len.invariant _ (take_rest c.args.text.now c.loop-len.len) (sym c.starts_with.ensures.value ∙ c.loop-len-test.false)
