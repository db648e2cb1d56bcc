use Rattle.std.proofs.Common.{option_map, ap, arith}
use Rattle.ms_lits.specs.declared.trail.Entry.{Entry}
use Rattle.ms_lits.proofs.Seen.{place_seen, entry_seen}
use Rattle.ms_lits.proofs.trail.Trail.reason.Goals as goal

pub index-requires-2 : goal.index-requires-2
index-requires-2 c =
    let below = place_seen c.args.self.now _ _ _ _ _ c.args.var _ c.self.view_is c.self.invariant.stored c.requires.room c.requires.assigned c.index.ensures in
    omega (arith, below)

pub returns : goal.returns
returns c = ap (option_map (λ (e : Entry). e.reason)) (entry_seen c.args.self.now _ _ _ _ _ c.args.var _ c.index-2.result.now c.self.view_is c.self.invariant.stored c.requires.room c.requires.assigned c.index.ensures c.index-2.ensures)
