use Rattle.std.proofs.Common.{◌≡◌, ◌<◌, ◌∙◌, ℕ, Vec, Global, length, get_or, sym, ap, arith}
use Rattle.ms_machine.specs.Machine.{shows_atom}
use Rattle.ms_show.proofs.ShownLists.{shown_kept, shown_passed}
use Rattle.ms_show.proofs.shown.shown_terms.Goals as goal
use Rattle.ms_show.proofs.shown.shown_terms.Goals.{then-is_shown+in_ok-push, else-is_shown}

pub loop-atom-preserved : goal.loop-atom-preserved
loop-atom-preserved c =
    let table = c.args.terms.now in
    let shows = shows_atom c.args.parts.now in
    let base = c.args.base.now in
    let set = c.args.set.now in
    let i = c.loop-atom.atom-index in
    let a = c.atom-item.result in
    let n = c.atom-term.result in
    let here : i < length set = omega (arith, ap length c.as_slice-atom-items.ensures) in
    let is : a ≡ get_or set i a = rw c.as_slice-atom-items.ensures at c.atom-item.is in
    elim c.if-is_shown.branch [
      | then-is_shown+in_ok-push w ↦ shown_kept table shows base set i a n c.loop-atom.shown.items c.if-is_shown.shown.items here is c.atom-term.ensures (sym c.is_shown.ensures ∙ w.if-is_shown.true) c.loop-atom.invariant (ap (λ (v : Vec ℕ Global). v.items) w.shown-is ∙ w.in_ok-push.ensures.items)
      | else-is_shown w ↦ shown_passed table shows base set i a n c.loop-atom.shown.items c.if-is_shown.shown.items here is c.atom-term.ensures (sym c.is_shown.ensures ∙ w.if-is_shown.false) c.loop-atom.invariant (ap (λ (v : Vec ℕ Global). v.items) w.shown-is)
    ]
