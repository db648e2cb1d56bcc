use Rattle.std.proofs.Common.{◌≡◌, [], ◌∷◌, ◌++◌, map, take}
use Rattle.ms_parts.proofs.rows.append_row.Given as goal

abbrev pub invariant-loop-item : goal.invariant-loop-item
invariant-loop-item g l = l.into ≡ l.fn.into ++ map (λ x. l.row ++ x ∷ []) (take l.item-index l.items)
