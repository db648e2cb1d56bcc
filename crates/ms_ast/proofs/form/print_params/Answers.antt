use Rattle.ms_ast.proofs.TermTexts.{three_appended}
use Rattle.ms_ast.proofs.FormTexts.{params_text}
use Rattle.ms_ast.proofs.form.print_params.Goals as goal

pub returns : goal.returns
returns c = three_appended _ _ _ _ _ _ _ _ c.in_ok-push.ensures.items c.in_ok-print_names.ensures c.in_ok-push-2.ensures.items (params_text c.args.params.now c.is_empty.result c.is_empty.ensures c.if-is_empty.false)
