use Rattle.std.proofs.lemmas.Result.{err_from_is_err_and}
use Rattle.ms_texts.proofs.Second.{defining_fails, defining_goes_on, defining_ends}
use Rattle.ms_texts.proofs.constants.Constants.define_each.Goals as goal

pub returns-in_err-define : goal.returns-in_err-define
returns-in_err-define c =
    let p = err_from_is_err_and c.from_residual.result c.from_residual.ensures.1 in
    rw (p.1, p.2) (defining_fails (Unit {0}) (Unit {0}) c.args.self.now c.args.list.now c.loop-statement.self c.define.new.self c.loop-statement.statement-index c.loop-statement.invariant c.statement-item.result c.loop-statement-test.true c.statement-item.is c.in_err-define.field-0.0 c.in_err-define.ensures)

pub loop-statement-preserved : goal.loop-statement-preserved
loop-statement-preserved c = defining_goes_on c.args.self.now c.args.list.now c.loop-statement.self c.loop-statement.statement-index c.loop-statement.invariant c.statement-item.result c.loop-statement-test.true c.statement-item.is c.define.new.self c.in_ok-define.ensures.0 c.in_ok-define.ensures.1

pub returns : goal.returns
returns c = defining_ends c.args.self.now c.args.list.now c.loop-statement.self c.loop-statement.statement-index c.loop-statement.invariant c.loop-statement-test.false
