use Rattle.std.proofs.Common.{◌≡◌, IfOk, subst, sym, ◌∙◌}
use Rattle.ms_parts.proofs.RowLaws.{extended_by_only}
use Rattle.ms_parts.proofs.rows.extended.Goals as goal

pub returns-in-Ok : goal.returns-in-Ok
returns-in-Ok g c = subst (λ z. IfOk c.with_item.result (λ made. made ≡ z)) (extended_by_only c.args.rows c.args.items c.in-Ok.item (sym c.only.ensures ∙ c.in-Ok.is)) c.with_item.ensures
