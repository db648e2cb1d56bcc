use Rattle.std.proofs.Common.{◌≡◌, take}
use Rattle.ms_machine.specs.Machine.{shows_atom}
use Rattle.ms_show.specs.ShownLists.{shown_of}
use Rattle.ms_show.proofs.shown.shown_terms.Given as goal

-- the terms of the shown atoms so far
abbrev pub invariant-loop-atom : goal.invariant-loop-atom
invariant-loop-atom l =
    l.shown.items ≡ shown_of l.terms (shows_atom l.parts) l.base (take l.atom-index l.set)
