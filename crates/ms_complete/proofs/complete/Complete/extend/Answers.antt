use Rattle.ms_complete.proofs.Extending.{extended}
use Rattle.ms_complete.proofs.complete.Complete.extend.Goals as goal

pub returns : goal.returns
returns c =
    extended c.args.self.now c.take_names.new.self c.declare_atoms.new.self c.number_rules.new.self c.number_atoms.new.self c.args.m.now
    c.as_slice.result.now c.as_slice-2.result.now c.as_slice-3.result.now c.in_ok-rules.rules.items c.in_ok-heads.heads.items c.in_ok-supports.supports.items
    c.as_slice-4.result.now c.as_slice-5.result.now c.as_slice-6.result.now c.as_slice-7.result.now c.args.store.now c.add_bodies.new.store c.add_rules.new.store c.add_supports.new.store c.things-known.result
    c.as_slice.ensures c.as_slice-2.ensures c.as_slice-3.ensures c.as_slice-4.ensures.value c.as_slice-5.ensures.value c.as_slice-6.ensures.value c.as_slice-7.ensures.value
    c.in_ok-take_names.ensures c.things-known.ensures.count c.in_ok-declare_atoms.ensures.declares c.in_ok-declare_atoms.ensures.all c.in_ok-rules.ensures.declares c.in_ok-rules.ensures.numbered
    c.in_ok-heads.ensures.declares c.in_ok-heads.ensures.numbers c.in_ok-add_bodies.ensures.declared c.in_ok-add_bodies.ensures.adds c.in_ok-add_rules.ensures c.in_ok-supports.ensures.supports c.in_ok-add_supports.ensures
