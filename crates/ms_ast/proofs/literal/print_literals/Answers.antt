use Rattle.std.proofs.Common.{◌++◌, sym, ap}
use Rattle.ms_ast.specs.Ink.{comma_blank}
use Rattle.ms_ast.specs.Statements.{literal_ink}
use Rattle.ms_ast.proofs.Inks.{side_text}
use Rattle.ms_ast.proofs.literal.print_literals.Goals as goal

pub loop-literal-init : goal.loop-literal-init
loop-literal-init c = rw c.as_slice-between.ensures (ap (λ s. c.args.into.now.items ++ s) (sym (side_text comma_blank literal_ink c.args.literals.now)))
