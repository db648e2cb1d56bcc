use Rattle.std.proofs.Common.{sym, subst}
use Rattle.std.specs.List.{All}
use Rattle.ms_unfound_tests.specs.Tiny.{IsTinyRule}
use Rattle.ms_unfound_tests.proofs.TinyLaws.{well_formed}
use Rattle.ms_unfound_tests.proofs.module.module_of.Goals as goal

pub returns : goal.returns
returns c =
    well_formed c.in_ok-copied.field-0 c.rules.inside.items.items c.in_ok-copied-2.field-0 c.in_ok-copied-3.field-0 c.in_ok-copied.ensures c.in_ok-copied-2.ensures c.in_ok-copied-3.ensures
    (subst (All IsTinyRule) (sym c.rules.view_is) c.in_ok-rules.ensures)
