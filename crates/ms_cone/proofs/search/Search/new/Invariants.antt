use Rattle.std.proofs.Common.{◌≡◌, take}
use Rattle.ms_cone.specs.Search.{IsStart}
use Rattle.ms_cone.proofs.search.Search.new.Given as goal

abbrev pub invariant-loop-atom : goal.invariant-loop-atom
invariant-loop-atom l = record { atoms : l.search.atoms ≡ l.atoms; start : IsStart (take l.atom-index l.starts) l.search }
