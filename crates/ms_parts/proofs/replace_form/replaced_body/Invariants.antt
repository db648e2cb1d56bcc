use Rattle.std.proofs.Common.{◌≡◌, map, take}
use Rattle.ms_core.specs.Replacing.{replaced_part}
use Rattle.ms_parts.specs.Meanings.{meant}
use Rattle.ms_parts.proofs.replace_form.replaced_body.Given as goal

abbrev pub invariant-loop-part : goal.invariant-loop-part
invariant-loop-part l = l.made ≡ map (replaced_part (meant l.means)) (take l.part-index l.parts)
