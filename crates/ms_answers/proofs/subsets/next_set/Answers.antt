use Rattle.std.proofs.Common.{◌+◌, ◌-◌, refl, ap, ◌∙◌, take, arith}
use Rattle.std.proofs.lemmas.Bool.{false≢true}
use Rattle.ms_answers.specs.Subsets.{place_of}
use Rattle.ms_answers.proofs.Carrying.{IsNext, IsCarrying-none, IsCarrying-pop, IsCarrying-all, IsNext-push}
use Rattle.ms_answers.proofs.subsets.next_set.Goals as goal

pub loop-number-init : goal.loop-number-init
loop-number-init c = rw c.into_vec-members.ensures (IsCarrying-none c.args.atoms c.args.set c.requires)

pub loop-number-preserved : goal.loop-number-preserved
loop-number-preserved c =
    let members = c.loop-number.members in
    IsCarrying-pop c.args.atoms _ c.loop-number.number members.items c.pop.new.self.items (omega arith) (omega arith) c.loop-number.invariant
    (rw c.as_slice.ensures.value at (c.if-not-ends_with.ensures.0 refl))
    (c.pop.ensures.rest ∙ ap (λ n. take (n - 1) members.items) members.ok.0)

pub returns-then-not-ends_with : goal.returns-then-not-ends_with
returns-then-not-ends_with c =
    let next : IsNext c.args.atoms (place_of c.args.atoms c.into_vec-members.result.items) c.from_vec.result = IsNext-push c.args.atoms _ c.loop-number.number c.loop-number.members.items c.from_vec.result (omega arith) (omega arith) c.loop-number.invariant (rw (← c.as_slice.ensures.value) (λ e. false≢true (c.if-not-ends_with.ensures.1 e))) (c.from_vec.ensures ∙ c.in_ok-push.ensures.items) in
    record { within = next.within; next = next.place_next ∙ ap (λ set. place_of c.args.atoms set + 1) c.into_vec-members.ensures }

pub returns : goal.returns
returns c = record {
  within = tt;
  next = IsCarrying-all c.args.atoms _ c.loop-number.number c.loop-number.members.items c.loop-number-test.false c.loop-number.invariant ∙ ap (λ set. place_of c.args.atoms set + 1) c.into_vec-members.ensures;
}
