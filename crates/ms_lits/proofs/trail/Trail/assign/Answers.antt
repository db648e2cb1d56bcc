use Rattle.std.proofs.Common.{ap, arith}
use Rattle.std.specs.Prelude.{is_ok}
use Rattle.std.proofs.lemmas.Bool.{both_ways}
use Rattle.std.proofs.lemmas.Grind.{common_steps}
use Rattle.ms_lits.specs.Assignment.{entry_made}
use Rattle.ms_lits.proofs.Seen.{room_seen, more_seen}
use Rattle.ms_lits.proofs.Leveled.{levels_more}
use Rattle.ms_lits.proofs.trail.Trail.assign.Goals as goal

pub unreachable-requires : goal.unreachable-requires
unreachable-requires c =
    let left = room_seen c.args.self.now _ _ _ _ _ c.args.lit.var c.self.view_is c.self.invariant.stored c.requires.room c.requires.unassigned in
    let room = c.self.invariant.entries_room in
    let ok = c.push.ensures.succeeds (omega (arith, left, room)) in
    both_ways (is_ok c.push.result) (ap is_ok c.in-Err.is) ok

pub invariant_of-self : goal.invariant_of-self
invariant_of-self c =
    let left = room_seen c.args.self.now _ _ _ _ _ c.args.lit.var c.self.view_is c.self.invariant.stored c.requires.room c.requires.unassigned in
    let room = c.self.invariant.entries_room in
    let more = c.push.ensures.capacity in
    record {
      stored = more_seen c.args.self.now _ _ _ _ c.self.inside.ends.items (entry_made c.args.lit c.len-level.result c.args.reason) c.new.result c.len.result c.push.new.self.items c.self.view_is c.self.invariant.stored c.requires.room c.requires.unassigned c.new.ensures (omega arith) (grind (arith, common_steps));
      levels = levels_more c.self.inside.entries.items c.push.new.self.items c.self.inside.ends.items (entry_made c.args.lit c.len-level.result c.args.reason) c.self.invariant.levels (omega arith) (grind (arith, common_steps));
      entries_room = omega (arith, room, more);
      ends_room = c.self.invariant.ends_room;
      ends_len = c.self.invariant.ends_len;
      fits = c.self.invariant.fits;
    }
