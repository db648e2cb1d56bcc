use Rattle.std.proofs.Common.{◌∙◌, ◌+◌, ◌-◌, [], Vec, Global, ap, length, sym, subst, take}
use Rattle.std.specs.Prelude.{option_copied, slice_get}
use Rattle.ms_lits.specs.declared.lit.Lit.{Lit}
use Rattle.ms_lits.specs.Literals.{Nogood}
use Rattle.ms_complete.specs.Sets.{Writes}
use Rattle.ms_complete.proofs.WritingSteps.{greater_at, equal_at, opposite_at, nothing_written}
use Rattle.ms_complete.proofs.written.written.Goals as goal
use Rattle.ms_complete.proofs.written.written.Goals.{in-Greater+in_ok-push-in-Greater, in-Equal}

pub loop-lit-init : goal.loop-lit-init
loop-lit-init c = subst (λ (n : Nogood). Writes [] n) (sym c.in_ok-nogood.ensures.items) nothing_written

pub loop-lit-preserved : goal.loop-lit-preserved
loop-lit-preserved c =
    let at = sym (c.last.ensures.value ∙ ap (λ (n : Nogood). slice_get n (length n - 1)) c.deref.ensures.value) in
    elim c.match-next_to.branch [
      | in-Greater+in_ok-push-in-Greater w ↦
          subst (λ (n : Nogood). Writes (take (c.loop-lit.lit-index + 1) c.args.lits.now) n) (sym (ap (λ (v : Vec Lit Global). v.items) w.nogood-is ∙ w.in_ok-push-in-Greater.ensures.items))
          (greater_at c.args.lits.now c.loop-lit.lit-index c.loop-lit.nogood.items _ c.loop-lit-test.true c.requires c.loop-lit.invariant (option_copied c.last.result) at w.in-Greater.ensures)
      | in-Equal w ↦
          subst (λ (n : Nogood). Writes (take (c.loop-lit.lit-index + 1) c.args.lits.now) n) (sym (ap (λ (v : Vec Lit Global). v.items) w.nogood-is))
          (equal_at c.args.lits.now c.loop-lit.lit-index c.loop-lit.nogood.items _ c.loop-lit-test.true c.requires c.loop-lit.invariant (option_copied c.last.result) at w.in-Equal.ensures)
    ]

pub returns-in-Opposite : goal.returns-in-Opposite
returns-in-Opposite c =
    opposite_at c.args.lits.now c.loop-lit.lit-index c.loop-lit.nogood.items _ c.loop-lit-test.true c.requires c.loop-lit.invariant (option_copied c.last.result)
    (sym (c.last.ensures.value ∙ ap (λ (n : Nogood). slice_get n (length n - 1)) c.deref.ensures.value)) c.in-Opposite.ensures
