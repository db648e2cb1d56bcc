use Rattle.std.proofs.Common.{◌≡◌, ◌++◌, map}
use Rattle.ms_grammar.specs.declared.statement.Head.TheVariants.{Atom}
use Rattle.ms_parts.proofs.pools_form.atom_heads.Given as goal

abbrev pub invariant-loop-atom : goal.invariant-loop-atom
invariant-loop-atom l = l.made ++ map Atom l.atom-iterator.rest.items ≡ map Atom l.fn.atoms
