use Rattle.std.proofs.Common.{◌≡◌, ℕ, List, Any, Contains, subst}
use Rattle.ms_join.specs.declared.aggregate.SignedAgg.{SignedAgg}
use Rattle.ms_cone.specs.Dependencies.{Adds, NeedsInSigned}
use Rattle.ms_cone.proofs.Adding.{adds_rule}
use Rattle.ms_cone.proofs.dependencies.Dependencies.add_rule.Goals as goal

pub returns : goal.returns
returns c =
    let head = c.in-Some.head in
    adds_rule c.args.self.now c.add_atoms.new.self c.add_aggregates.new.self c.args.rule.now head c.in-Some.is
    (subst (λ (atoms : List ℕ). Adds c.args.self.now c.add_atoms.new.self (λ a b. (a ≡ head) × Contains atoms b)) c.as_slice.ensures c.in_ok-add_atoms.ensures)
    (subst (λ (aggs : List SignedAgg). Adds c.add_atoms.new.self c.add_aggregates.new.self (λ a b. (a ≡ head) × Any (NeedsInSigned b) aggs)) c.as_slice-2.ensures c.in_ok-add_aggregates.ensures)
