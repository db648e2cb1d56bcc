use Rattle.std.proofs.Common.{◌≡◌, drop}
use Rattle.ms_core.specs.Texts.{value_in}
use Rattle.ms_texts.proofs.values.value_in.Given as goal

abbrev pub invariant-loop-pair : goal.invariant-loop-pair
invariant-loop-pair l = value_in (drop l.pair-index l.values) l.name ≡ value_in l.values l.name
