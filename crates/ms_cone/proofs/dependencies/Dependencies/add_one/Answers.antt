use Rattle.std.proofs.Common.{◌≡◌, subst}
use Rattle.ms_cone.specs.Dependencies.{Adds, Linked}
use Rattle.ms_cone.proofs.Adding.{adds_one}
use Rattle.ms_cone.proofs.dependencies.Dependencies.add_one.Goals as goal

pub returns : goal.returns
returns c =
    let new : Linked = record { needs = c.add.new.self; uses = c.add-2.new.self } in
    subst (λ (old : Linked). Adds old new (λ a b. (a ≡ c.args.head) × (b ≡ c.args.atom))) c.self.view_is
    (adds_one (record { needs = c.self.inside.needs; uses = c.self.inside.uses }) new c.args.head c.args.atom c.in_ok-add.ensures c.in_ok-add-2.ensures)
