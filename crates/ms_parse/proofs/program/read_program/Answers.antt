use Rattle.std.proofs.Common.{sym, ◌∙◌}
use Rattle.ms_parse.proofs.Lines.{program_without_parameters, program_found, program_not_apart}
use Rattle.ms_parse.proofs.program.read_program.Goals as goal

pub returns-in_default-3 : goal.returns-in_default-3
returns-in_default-3 c = rw c.in-Some.ensures.cases.0 (program_without_parameters _ _ (sym c.in_ok-params.ensures ∙ c.in_default-3.is))

pub returns-then-not-branch : goal.returns-then-not-branch
returns-then-not-branch c =
    rw c.in-Some.ensures.cases.0
    (program_not_apart _ _ _ _ (sym c.in_ok-name.ensures ∙ c.in-Some-2.is) (sym c.in_ok-params.ensures ∙ c.in-Some-3.is) (λ differ. let f : ⊥ = cc (c.in_ok-all_differ.ensures.1 differ, c.if-not-branch.true) in f))

pub returns : goal.returns
returns c =
    rw c.in-Some.ensures.cases.0
    (program_found _ _ _ _ (sym c.in_ok-name.ensures ∙ c.in-Some-2.is) (sym c.in_ok-params.ensures ∙ c.in-Some-3.is) (c.in_ok-all_differ.ensures.0 c.if-not-branch.false))
