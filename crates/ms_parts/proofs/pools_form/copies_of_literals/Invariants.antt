use Rattle.std.proofs.Common.{◌≡◌, take}
use Rattle.ms_core.specs.Pools.{copies_of_all, literal_copies}
use Rattle.ms_parts.proofs.pools_form.copies_of_literals.Given as goal

abbrev pub invariant-loop-literal : goal.invariant-loop-literal
invariant-loop-literal l = l.rows ≡ copies_of_all literal_copies (take l.literal-index l.literals)
