use Rattle.std.proofs.Common.{◌≡◌, take}
use Rattle.ms_core.specs.Pools.{copies_of_all, part_copies}
use Rattle.ms_parts.proofs.pools_form.body_copies.Given as goal

abbrev pub invariant-loop-part : goal.invariant-loop-part
invariant-loop-part l = l.rows ≡ copies_of_all part_copies (take l.part-index l.parts)
