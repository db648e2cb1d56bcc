use Rattle.ms_ast.proofs.TermTexts.{two_appended}
use Rattle.ms_ast.proofs.FormTexts.{atom_rule_text, set_rule_text}
use Rattle.ms_ast.proofs.rule.print_rule.Goals as goal

pub returns-in_ok-print_behind_head-in-Atom : goal.returns-in_ok-print_behind_head-in-Atom
returns-in_ok-print_behind_head-in-Atom c = two_appended _ _ _ _ _ _ c.in_ok-print_term-in-Atom.ensures c.in_ok-print_behind_head-in-Atom.ensures (atom_rule_text c.args.head.now c.in-Atom.atom c.args.body.now c.in-Atom.is)

pub returns-in_ok-print_behind_head-in-Set : goal.returns-in_ok-print_behind_head-in-Set
returns-in_ok-print_behind_head-in-Set c = two_appended _ _ _ _ _ _ c.in_ok-print_set-in-Set.ensures c.in_ok-print_behind_head-in-Set.ensures (set_rule_text c.args.head.now c.in-Set.set c.args.body.now c.in-Set.is)
