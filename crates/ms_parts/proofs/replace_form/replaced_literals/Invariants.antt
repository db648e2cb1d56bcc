use Rattle.std.proofs.Common.{◌≡◌, map, take}
use Rattle.ms_core.specs.Replacing.{replaced_literal}
use Rattle.ms_parts.specs.Meanings.{meant}
use Rattle.ms_parts.proofs.replace_form.replaced_literals.Given as goal

abbrev pub invariant-loop-literal : goal.invariant-loop-literal
invariant-loop-literal l = l.made ≡ map (replaced_literal (meant l.means)) (take l.literal-index l.literals)
