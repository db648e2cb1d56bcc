use Rattle.std.proofs.Common.{◌≡◌, ◌++◌}
use Rattle.ms_core.specs.Texts.{core_of_call}
use Rattle.ms_parts.proofs.PartLaws.{core_of_sections}
use Rattle.ms_parts.proofs.call.core_of_part.Given as goal

abbrev pub invariant-loop-section : goal.invariant-loop-section
invariant-loop-section l = l.rules ++ core_of_sections l.texts l.args l.section-iterator ≡ core_of_call l.texts l.name l.args
