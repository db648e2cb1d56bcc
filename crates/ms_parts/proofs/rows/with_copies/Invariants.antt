use Rattle.std.proofs.Common.{◌≡◌, [], ◌∷◌, ◌++◌, map}
use Rattle.ms_parts.proofs.rows.with_copies.Given as goal

abbrev pub invariant-loop-row : goal.invariant-loop-row
invariant-loop-row g l = l.made ++ map (λ row. row ++ l.item ∷ []) l.row-iterator.rest.items ≡ map (λ row. row ++ l.item ∷ []) l.fn.rows
