use Rattle.std.proofs.Common.{◌≡◌, ◌+◌, ℕ, ◌++◌, ◌∷◌, [], List, Any, Contains, subst, sym, ap, ◌∙◌, take, arith}
use Rattle.std.proofs.lemmas.List.{take_all, take_more}
use Rattle.ms_join.specs.declared.aggregate.GroundElement.{GroundElement}
use Rattle.ms_cone.specs.Dependencies.{Adds, NeedsInElement}
use Rattle.ms_cone.proofs.Adding.{adds_push}
use Rattle.ms_cone.proofs.dependencies.Dependencies.add_elements.Goals as goal

pub loop-element-preserved : goal.loop-element-preserved
loop-element-preserved c =
    let elements = c.args.elements.now in
    let head = c.args.head in
    let i = c.loop-element.element-index in
    let element : GroundElement = c.element-item.result in
    let more : take i elements ++ element ∷ [] ≡ take (i + 1) elements = ap (λ (x : GroundElement). take i elements ++ x ∷ []) c.element-item.is ∙ sym (take_more elements i element c.loop-element-test.true) in
    subst (λ (xs : List GroundElement). Adds c.args.self.now c.add_atoms.new.self (λ a b. (a ≡ head) × Any (NeedsInElement b) xs)) more
    (adds_push NeedsInElement c.args.self.now c.loop-element.self c.add_atoms.new.self head (take i elements) element c.loop-element.invariant
    (subst (λ (atoms : List ℕ). Adds c.loop-element.self c.add_atoms.new.self (λ a b. (a ≡ head) × Contains atoms b)) c.as_slice.ensures c.in_ok-add_atoms.ensures))

pub returns : goal.returns
returns c =
    let elements = c.args.elements.now in
    let test = c.loop-element-test.false in
    subst (λ (xs : List GroundElement). Adds c.args.self.now c.loop-element.self (λ a b. (a ≡ c.args.head) × Any (NeedsInElement b) xs)) (take_all c.loop-element.element-index elements (omega (arith, test))) c.loop-element.invariant
