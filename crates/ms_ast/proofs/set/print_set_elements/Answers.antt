use Rattle.std.proofs.Common.{◌++◌, sym, ap}
use Rattle.ms_ast.specs.Ink.{semicolon_blank}
use Rattle.ms_ast.specs.Statements.{set_element_ink}
use Rattle.ms_ast.proofs.Inks.{side_text}
use Rattle.ms_ast.proofs.set.print_set_elements.Goals as goal

pub loop-element-init : goal.loop-element-init
loop-element-init c = rw c.as_slice-between.ensures (ap (λ s. c.args.into.now.items ++ s) (sym (side_text semicolon_blank set_element_ink c.args.elements.now)))
