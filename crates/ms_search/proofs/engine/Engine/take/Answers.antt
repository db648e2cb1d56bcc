use Rattle.std.proofs.Common.{Some, ap, option_map}
use Rattle.ms_nogood.specs.Store.{Store, Stored, slot_at}
use Rattle.ms_search.proofs.Readies.{attached_same, can_attach}
use Rattle.ms_search.proofs.engine.Engine.take.Goals as goal

pub returns-clause-in_step : goal.returns-clause-in_step
returns-clause-in_step g c =
    let adds = c.in_ok-key.ensures.added in
    let laws = g.met.P.Propagate in
    let added = laws.changes c.args.self.now.propagation c.args.store.now c.add.new.self c.args.self.now.trail c.requires.in_step
    (attached_same c.args.store.now c.add.new.self _ c.in_ok-key.key (g.P.Propagate.attached c.args.self.now.propagation) c.requires.wired adds) in
    let back = c.in_ok-back_to.ensures.in_step c.add.new.self added in
    let attached = c.in_ok-attach.ensures.in_step back (can_attach c.add.new.self c.args.self.now.trail c.back_to.new.self.trail c.args.lits.now (Some c.args.kind) c.jump_level-level.result c.in_ok-key.key c.jump_level-level.ensures.open_twice c.in_ok-back_to.ensures.trail adds.added) in
    laws.changes c.attach.new.self c.add.new.self c.forget_fresh.new.self c.back_to.new.self.trail attached
    (λ key is. ap (λ (s : Store). option_map (λ (x : Stored). x.lits) (slot_at s key)) c.forget_fresh.ensures)
