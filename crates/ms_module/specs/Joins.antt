-- What a join keeps beside its rules and inputs.
use Rattle.std.specs.Prelude.{List}
use Rattle.ms_join.specs.Things.{Body}
use Rattle.ms_join.specs.Modules.{Join, IsJoin}
use Rattle.ms_cone.specs.Dependencies.{Keeps, Linked}
use Rattle.ms_module.specs.Bodies.{AreBodiesOf}

-- The bodies and the dependencies are those of its rules.
pub record IsKept (j : Join) (bodies : List Body) (dependencies : Linked) : Type 0 where
  pub join : IsJoin j
  pub bodies_are : AreBodiesOf bodies j.rules
  pub dependencies_are : Keeps dependencies j.rules
