use Rattle.std.proofs.Common.{◌≡◌, ◌++◌, length, take}
use Rattle.ms_texts.specs.Sections.{Indexes}
use Rattle.ms_texts.proofs.sections.add_each.Given as goal

abbrev pub invariant-loop-section : goal.invariant-loop-section
invariant-loop-section l =
    Indexes l.places.entries l.list.items
    × (l.list.items ++ l.section-iterator.rest.items ≡ l.fn.list.items ++ l.fn.made.items)
    × (take (length l.fn.list.items) l.list.items ≡ l.fn.list.items)
