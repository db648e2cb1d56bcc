use Rattle.std.proofs.Common.{subst, ◌∷◌, [], List, map}
use Rattle.ms_module.specs.Bodies.{AddsBodies, shown}
use Rattle.ms_join.specs.Things.{Body}
use Rattle.ms_module.proofs.BodyLaws.{added_one}
use Rattle.ms_module.proofs.bodies.Bodies.add_one.Goals as goal

pub returns : goal.returns
returns c = subst (λ (bs : List Body). AddsBodies bs (c.args.rule.now ∷ []) (map shown c.insert.new.self.keys)) c.self.view_is
    (added_one c.self.inside.keys.keys c.insert.new.self.keys c.in_ok-key_of.field-0 c.args.rule.now c.in_ok-insert.ensures.keys c.in_ok-key_of.ensures)
