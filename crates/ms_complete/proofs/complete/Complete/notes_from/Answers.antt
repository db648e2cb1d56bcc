use Rattle.std.proofs.Common.{◌≤◌, List, length, sym, subst, arith, take, drop}
use Rattle.std.specs.List.{AllZip}
use Rattle.ms_lits.specs.declared.note.Note.{Note}
use Rattle.ms_complete.specs.Notes.{Tells}
use Rattle.ms_complete.proofs.NoteLaws.{none_told, next_told, all_told}
use Rattle.ms_complete.proofs.complete.Complete.notes_from.Goals as goal

pub loop-number-init : goal.loop-number-init
loop-number-init c =
    subst (λ (notes : List Note). AllZip (Tells c.args.self.now c.args.terms.now) (drop c.args.first (take c.args.first c.args.self.now.things)) notes) (sym c.new-notes.ensures)
    (none_told (Tells c.args.self.now c.args.terms.now) c.args.self.now.things c.args.first)

pub loop-number-preserved : goal.loop-number-preserved
loop-number-preserved c =
    next_told (Tells c.args.self.now c.args.terms.now) c.args.self.now.things c.args.first c.loop-number.number c.loop-number.notes c.push.new.self c.in_ok-note.note c.loop-number.auto.number
    c.in_ok-note.ensures c.loop-number.invariant c.in_ok-push.ensures.ok

pub returns : goal.returns
returns c =
    let end : length c.args.self.now.things ≤ c.loop-number.number = omega (arith, c.loop-number-test.false, c.things-end.ensures.count) in
    all_told (Tells c.args.self.now c.args.terms.now) c.args.self.now.things c.args.first c.loop-number.number c.loop-number.notes end c.loop-number.invariant
