use Rattle.std.proofs.Common.{◌≡◌, ◌+◌, ◌++◌, ◌∷◌, [], List, Any, subst, sym, ap, ◌∙◌, take, arith}
use Rattle.std.proofs.lemmas.List.{take_all, take_more}
use Rattle.ms_join.specs.declared.aggregate.GroundElement.{GroundElement}
use Rattle.ms_join.specs.declared.aggregate.SignedAgg.{SignedAgg}
use Rattle.ms_cone.specs.Dependencies.{Adds, NeedsInElement, NeedsInSigned}
use Rattle.ms_cone.proofs.Adding.{adds_push}
use Rattle.ms_cone.proofs.dependencies.Dependencies.add_aggregates.Goals as goal

pub loop-signed-preserved : goal.loop-signed-preserved
loop-signed-preserved c =
    let aggs = c.args.aggs.now in
    let head = c.args.head in
    let i = c.loop-signed.signed-index in
    let signed : SignedAgg = c.signed-item.result in
    let more : take i aggs ++ signed ∷ [] ≡ take (i + 1) aggs = ap (λ (x : SignedAgg). take i aggs ++ x ∷ []) c.signed-item.is ∙ sym (take_more aggs i signed c.loop-signed-test.true) in
    subst (λ (xs : List SignedAgg). Adds c.args.self.now c.add_elements.new.self (λ a b. (a ≡ head) × Any (NeedsInSigned b) xs)) more
    (adds_push NeedsInSigned c.args.self.now c.loop-signed.self c.add_elements.new.self head (take i aggs) signed c.loop-signed.invariant
    (subst (λ (elements : List GroundElement). Adds c.loop-signed.self c.add_elements.new.self (λ a b. (a ≡ head) × Any (NeedsInElement b) elements)) c.as_slice.ensures c.in_ok-add_elements.ensures))

pub returns : goal.returns
returns c =
    let aggs = c.args.aggs.now in
    let test = c.loop-signed-test.false in
    subst (λ (xs : List SignedAgg). Adds c.args.self.now c.loop-signed.self (λ a b. (a ≡ c.args.head) × Any (NeedsInSigned b) xs)) (take_all c.loop-signed.signed-index aggs (omega (arith, test))) c.loop-signed.invariant
