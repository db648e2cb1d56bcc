use Rattle.std.proofs.Common.{◌++◌, sym, ap}
use Rattle.ms_ast.specs.Ink.{comma_blank}
use Rattle.ms_ast.specs.Statements.{part_ink}
use Rattle.ms_ast.proofs.Inks.{side_text}
use Rattle.ms_ast.proofs.rule.print_body.Goals as goal

pub loop-part-init : goal.loop-part-init
loop-part-init c = rw c.as_slice-between.ensures (ap (λ s. c.args.into.now.items ++ s) (sym (side_text comma_blank part_ink c.args.body.now)))
