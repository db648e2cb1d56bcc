-- What a key stands for.
use Rattle.std.specs.Prelude.{ℕ, List, []}
use Rattle.ms_join.specs.declared.ground_rule.GroundRule.{GroundRule}
use Rattle.ms_join.specs.Things.{Body, Thing}
use Rattle.ms_join.specs.Things.Thing.{atom, body}
use Rattle.ms_complete.specs.declared.key.ThingKey.{ThingKey}
use Rattle.ms_complete.specs.declared.key.ThingKey.TheVariants.{Atom, Body as BodyKey}

-- a body without aggregates
abbrev pub plain : List ℕ → List ℕ → Body
plain pos neg = record { pos = pos; neg = neg; aggs = [] }

abbrev pub plain_body : GroundRule → Body
plain_body rule = plain rule.pos rule.neg

abbrev pub thing_in : ThingKey → Thing
thing_in (Atom a) = atom a
thing_in (BodyKey pos neg) = body (plain pos neg)
