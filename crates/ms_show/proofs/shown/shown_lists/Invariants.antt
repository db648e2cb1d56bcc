use Rattle.std.proofs.Common.{take}
use Rattle.std.specs.List.{AllZip}
use Rattle.ms_machine.specs.Machine.{shows_atom}
use Rattle.ms_show.specs.ShownLists.{IsShownOf}
use Rattle.ms_show.proofs.shown.shown_lists.Given as goal

-- one list for each set so far
abbrev pub invariant-loop-set : goal.invariant-loop-set
invariant-loop-set l =
    AllZip (IsShownOf l.terms (shows_atom l.parts) l.base) (take l.set-index l.sets) l.lists.items
