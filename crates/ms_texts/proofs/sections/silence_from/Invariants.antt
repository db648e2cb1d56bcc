use Rattle.std.proofs.Common.{◌≡◌, ◌-◌}
use Rattle.ms_texts.specs.Sections.{silenced}
use Rattle.ms_texts.proofs.sections.silence_from.Given as goal

abbrev pub invariant-loop-place : goal.invariant-loop-place
invariant-loop-place l = silenced l.place l.list.items ≡ silenced l.fn.first l.fn.list.items

abbrev pub decreases-loop-place : goal.decreases-loop-place
decreases-loop-place l = l.list.len - l.place
