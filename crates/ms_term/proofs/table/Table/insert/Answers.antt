use Rattle.std.proofs.Common.{sym, ◌∙◌}
use Rattle.ms_term.proofs.NodeTables.{IsAdded-from, Names-from}
use Rattle.ms_term.proofs.SmallFronts.{front_with}
use Rattle.ms_term.proofs.table.Table.insert.Goals as goal

pub returns-clause-ok : goal.returns-clause-ok
returns-clause-ok c = λ ws kept fits.
    let stored = c.in_ok-place.ensures.stored in
    let added = IsAdded-from ws _ _ c.args.node c.in_ok-place.ensures.keys kept.table fits in
    let names = Names-from ws _ _ c.args.node stored.0 c.in_ok-place.place added c.in_ok-place.ensures.within stored.1 stored.2 in (
      record {
        table = added.table;
        front = front_with _ _ _ c.in_ok-place.place c.args.self.now.small kept.front names c.size-size.result _ _ (c.size-size.ensures ∙ fits.size) (c.len.ensures.len ∙ sym added.table.count) c.small_with-self.ensures;
      },
      names,
    )
