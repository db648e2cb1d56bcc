use Rattle.std.proofs.Common.{List, subst, sym}
use Rattle.ms_lits.specs.declared.lit.Lit.{Lit}
use Rattle.ms_complete.specs.Sets.{Match}
use Rattle.ms_complete.proofs.LineLaws.{match_same}
use Rattle.ms_solver.specs.Numbered.{IsLitOf}
use Rattle.ms_solver.proofs.Asking.{match_zip}
use Rattle.ms_solver.proofs.question.literals.Goals as goal

pub returns-clause-says : goal.returns-clause-says
returns-clause-says c =
    let says = IsLitOf c.args.numbers.now in
    let each : Match says c.args.assume.now c.in_ok-lits.lits.items = match_zip says c.args.assume.now c.in_ok-lits.lits.items c.in_ok-lits.ensures in
    subst (λ (lits : List Lit). Match says c.args.assume.now lits) (sym c.from_vec.ensures)
    (match_same says c.args.assume.now c.in_ok-lits.lits.items c.set_in_line.new.lits.items c.set_in_line.ensures.same each)
