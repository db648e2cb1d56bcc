use Rattle.ms_ast.proofs.ReadBack.{reads_back}
use Rattle.ms_ast.proofs.print.Goals as goal

pub returns-in_err-print_statement-clause-read_back : goal.returns-in_err-print_statement-clause-read_back
returns-in_err-print_statement-clause-read_back c = reads_back c.args.statement.now.form c.requires

pub returns-in_err-extend_from_slice-clause-read_back : goal.returns-in_err-extend_from_slice-clause-read_back
returns-in_err-extend_from_slice-clause-read_back c = reads_back c.args.statement.now.form c.requires

pub returns-clause-read_back : goal.returns-clause-read_back
returns-clause-read_back c = reads_back c.args.statement.now.form c.requires
