use Rattle.std.proofs.Common.{take}
use Rattle.std.specs.List.{All}
use Rattle.ms_term.specs.Terms.{term_at, IsLarge}
use Rattle.ms_atombase.proofs.atom_base.any_large.Given as goal

abbrev pub invariant-loop-atom : goal.invariant-loop-atom
invariant-loop-atom l = All (λ t. ¬ IsLarge (term_at l.terms t)) (take l.atom-index l.atoms)
