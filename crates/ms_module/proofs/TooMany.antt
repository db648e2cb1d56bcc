-- Too many things.
use Rattle.std.proofs.Common.{◌≡◌, ◌↔◌, ℕ, ◌+◌, ◌-◌, ◌^◌, ◌<◌, ◌≤◌, min, nat_lt, IsTrue, List, ◌++◌, length, get_or, subst, arith}
use Rattle.ms_join.specs.declared.ground_rule.GroundRule.{GroundRule}
use Rattle.ms_join.specs.Composability.{HasTooMany, most_things}
use Rattle.ms_join.specs.Modules.{Join}
use Rattle.ms_join.specs.Things.{Body}
use Rattle.std.proofs.lemmas.Bool.{lt-ltb}
use borrow.Author.Tests.{ltb-true}
use Rattle.ms_module.specs.Bodies.{AreBodiesOf, ArePlain, CountsBodies}
use Rattle.ms_module.proofs.BodyLaws.{AreBodiesOf-more}
use Rattle.ms_module.proofs.Counting.{no_more}
use Rattle.ms_module.proofs.ThingLaws.{are_things, thing_there, things_len, things_of, things_once}

-- the count of the atoms and the bodies decides
pub too_many : (bodies : List Body) (old new : List GroundRule) (atoms count : ℕ) → ArePlain (old ++ new) → AreBodiesOf bodies old → CountsBodies bodies new count
    → HasTooMany atoms (old ++ new) ↔ (most_things < atoms + count)
too_many bodies old new atoms count plain are counts =
    let all = AreBodiesOf-more bodies counts.bodies old new are counts.adds in
    let long : length (things_of atoms counts.bodies) ≡ atoms + length counts.bodies = things_len atoms counts.bodies in
    let same : length counts.bodies ≡ count = counts.length_is in (
      λ many.
          let few : length many.things ≤ length (things_of atoms counts.bodies) =
          no_more many.things (things_of atoms counts.bodies) many.once (λ i d less. thing_there atoms (old ++ new) counts.bodies plain all.all (get_or many.things i d) (many.each i d less)) in
          let more : most_things < length many.things = many.many in
          omega arith,
      λ more. record {
        things = things_of atoms counts.bodies;
        each = are_things atoms (old ++ new) counts.bodies all.each;
        once = things_once atoms counts.bodies counts.once;
        many = omega arith;
      },
    )

-- what the test of their number tells
pub tells_many : (inside j : Join) (bodies : List Body) (new : List GroundRule) (atoms count sum : ℕ) → inside ≡ j → ArePlain (inside.rules ++ new) → AreBodiesOf bodies inside.rules → CountsBodies bodies new count
    → sum ≡ min (count + atoms) (2 ^ 64 - 1) → IsTrue (nat_lt 4000000 sum) ↔ HasTooMany atoms (j.rules ++ new)
tells_many inside j bodies new atoms count sum same plain are counts is =
    let exact = too_many bodies inside.rules new atoms count plain are counts in
    let H : Join → Type 0 = λ i. IsTrue (nat_lt 4000000 sum) ↔ HasTooMany atoms (i.rules ++ new) in
    subst H same (
      λ so. exact.1 (let more : 4000000 < sum = ltb-true 4000000 sum so in omega arith),
      λ many. (let more : 4000000 < atoms + count = exact.0 many in let large : 4000000 < sum = omega arith in lt-ltb 4000000 sum large),
    )
