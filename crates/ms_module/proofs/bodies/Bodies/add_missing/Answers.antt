use Rattle.ms_module.proofs.BodyLaws.{key_added, key_there}
use Rattle.ms_module.proofs.bodies.Bodies.add_missing.Goals as goal

pub returns-in_ok-insert : goal.returns-in_ok-insert
returns-in_ok-insert c = key_added c.self.inside.keys.keys c.missing.inside.keys.keys c.insert.new.self.keys c.args.self.now c.args.missing.now c.in_ok-key.key c.args.rule.now _
    c.self.view_is c.missing.view_is c.in_ok-key.ensures c.contains.ensures c.if-not-contains.true c.in_ok-insert.ensures.keys

pub returns-else-not-contains : goal.returns-else-not-contains
returns-else-not-contains c = key_there c.self.inside.keys.keys c.args.self.now c.args.missing.now c.in_ok-key.key c.args.rule.now _
    c.self.view_is c.in_ok-key.ensures c.contains.ensures c.if-not-contains.false
