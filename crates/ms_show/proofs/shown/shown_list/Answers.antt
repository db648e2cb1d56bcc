use Rattle.std.proofs.Common.{sym, subst}
use Rattle.ms_machine.specs.Machine.{shows_atom}
use Rattle.ms_term.specs.TermOrder.{IsInTermOrder}
use Rattle.ms_show.specs.ShownLists.{AreIn}
use Rattle.ms_show.proofs.ShownLists.{AreIn-shown_of, IsShownOf-from_order}
use Rattle.ms_show.proofs.shown.shown_list.Goals as goal

pub in_term_order-requires : goal.in_term_order-requires
in_term_order-requires c =
    let table = c.args.terms.now in
    subst (AreIn table) (sym c.in_ok-shown.ensures) (AreIn-shown_of table (shows_atom c.args.parts.now) c.args.base.now c.args.set.now c.requires.base c.requires.over_base)

pub returns : goal.returns
returns c =
    let table = c.args.terms.now in
    IsShownOf-from_order table (shows_atom c.args.parts.now) c.args.base.now c.args.set.now c.in_term_order.result c.requires.base c.requires.over_base
    (subst (λ names. IsInTermOrder table names c.in_term_order.result) c.in_ok-shown.ensures c.in_term_order.ensures)
