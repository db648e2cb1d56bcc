use Rattle.std.proofs.Common.{◌+◌, ◌++◌, ◌∷◌, [], take, sym, subst}
use Rattle.std.proofs.lemmas.List.{take_more, take_all}
use Rattle.ms_nogood.specs.Looks.{IsLook, IsCalmIn}
use Rattle.ms_nogood.proofs.Looks.{calm_taken}
use Rattle.ms_nogood.proofs.scan.read_nogood.Goals as goal

pub loop-lit-preserved : goal.loop-lit-preserved
loop-lit-preserved c =
    subst (λ xs. IsLook c.args.trail.now.entries xs c.with-found.result)
    (sym (take_more c.args.lits.now c.loop-lit.lit-index _ c.loop-lit-test.true))
    (c.with-found.ensures (take c.loop-lit.lit-index c.args.lits.now) c.loop-lit.invariant)

pub returns-in-Calm : goal.returns-in-Calm
returns-in-Calm c =
    let at = c.loop-lit.lit-index in
    let more = c.with-found.ensures (take at c.args.lits.now) c.loop-lit.invariant in
    let calm = subst (IsLook c.args.trail.now.entries (take at c.args.lits.now ++ _ ∷ [])) c.in-Calm.is more in
    calm_taken c.args.trail.now.entries c.args.lits.now (at + 1)
    (subst (IsCalmIn c.args.trail.now.entries) (sym (take_more c.args.lits.now at _ c.loop-lit-test.true)) calm)

pub returns : goal.returns
returns c =
    subst (λ xs. IsLook c.args.trail.now.entries xs c.loop-lit.found) (take_all c.loop-lit.lit-index c.args.lits.now c.loop-lit-test.false) c.loop-lit.invariant
