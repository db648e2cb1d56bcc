use Rattle.std.proofs.Common.{◌≡◌, take}
use Rattle.std.specs.List.{filter_map}
use Rattle.ms_copies.specs.Grounding.{gives_external}
use Rattle.ms_ctxground.specs.NewAtoms.{head_of}
use Rattle.ms_ctxground.proofs.new_atoms.externals.Given as goal

abbrev pub invariant-loop-instance : goal.invariant-loop-instance
invariant-loop-instance l = l.names.items ≡ filter_map (head_of gives_external) (take l.instance-index l.instances)
