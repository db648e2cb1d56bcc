use Rattle.std.proofs.Common.{◌∙◌, ◌++◌, ◌∷◌, List, ℕ, codes, map, ap, arith}
use Rattle.std.proofs.lemmas.List.{take_all}
use Rattle.std.specs.List.{flat_map}
use Rattle.ms_tree.specs.Text.{tree_text}
use Rattle.ms_term.specs.Terms.{term_at}
use Rattle.ms_term.proofs.PrintFronts.{on_err}
use Rattle.ms_show.proofs.LineFronts.{blank_front, atom_front, line_end}
use Rattle.ms_show.proofs.lines.print_answer.Goals as goal

pub returns-in_err-push-clause-err : goal.returns-in_err-push-clause-err
returns-in_err-push-clause-err c =
    on_err _ _ (blank_front c.args.terms.now c.args.atoms.now c.loop-atom.atom-index c.atom-item.result (omega arith) c.atom-item.is c.args.into.now.items c.loop-atom.into.items c.push.new.self.items c.loop-atom.invariant c.in_err-push.ensures.items)

pub returns-in_err-print-clause-err : goal.returns-in_err-print-clause-err
returns-in_err-print-clause-err c =
    on_err _ _ (atom_front c.args.terms.now c.args.atoms.now c.loop-atom.atom-index c.atom-item.result (omega arith) c.atom-item.is c.args.into.now.items c.loop-atom.into.items c.print.new.into.items c.loop-atom.invariant c.push.new.self.items c.in_ok-push.ensures.items c.in_err-print.ensures.err)

pub returns-in_err-push-2-clause-err : goal.returns-in_err-push-2-clause-err
returns-in_err-push-2-clause-err c =
    on_err _ _ (line_end c.args.terms.now c.args.atoms.now c.args.into.now.items c.loop-atom.into.items c.push-2.new.self.items
    (c.loop-atom.invariant ∙ ap (λ (atoms : List ℕ). (c.args.into.now.items ++ codes "answer:") ++ flat_map (λ t. 32 ∷ tree_text t) (map (term_at c.args.terms.now) atoms)) (take_all c.loop-atom.atom-index c.args.atoms.now c.loop-atom-test.false))
    c.in_err-push-2.ensures.items)
