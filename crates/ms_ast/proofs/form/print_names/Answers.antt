use Rattle.std.proofs.Common.{◌++◌, ap}
use Rattle.ms_ast.proofs.FormTexts.{names_text}
use Rattle.ms_ast.proofs.form.print_names.Goals as goal

pub loop-name-init : goal.loop-name-init
loop-name-init c = rw c.as_slice-between.ensures (ap (λ s. c.args.into.now.items ++ s) (names_text c.args.names.now))
