use Rattle.std.proofs.Common.{◌≡◌, inl, inr, length, arith, subst, sym}
use Rattle.std.proofs.lemmas.Bool.{cases_lt}
use Rattle.ms_nogood.specs.Looks.{IsCalmIn, IsCalmAt}
use Rattle.ms_nogood.proofs.Propagation.{propagates_then, propagates_longer}
use Rattle.ms_nogood.proofs.nogoods.Nogoods.pass.Goals as goal

pub returns-then-visit-clause-propagates : goal.returns-then-visit-clause-propagates
returns-then-visit-clause-propagates c = propagates_then c.args.self.now c.args.trail.now c.loop-key.trail c.visit.new.trail c.loop-key.invariant.propagates c.visit.ensures.propagates

pub loop-key-preserved : goal.loop-key-preserved
loop-key-preserved c =
    let i = c.loop-key.invariant in
    let v = c.visit.ensures in
    let first = propagates_longer c.args.self.now c.args.trail.now c.loop-key.trail i.propagates in
    let second = propagates_longer c.args.self.now c.loop-key.trail c.visit.new.trail v.propagates in
    record {
      propagates = propagates_then c.args.self.now c.args.trail.now c.loop-key.trail c.visit.new.trail i.propagates v.propagates;
      calm = λ quiet key lt stored found.
          let before : length c.loop-key.trail.entries ≡ length c.args.trail.now.entries = omega arith in
          let after : length c.visit.new.trail.entries ≡ length c.loop-key.trail.entries = omega arith in
          elim (cases_lt key c.loop-key.key) [
            | inl early ↦ subst (λ es. IsCalmIn es stored.lits) (sym (v.same after)) (i.calm before key early stored found)
            | inr late ↦ (
                let at : c.loop-key.key ≡ key = omega arith in
                subst (IsCalmAt c.args.self.now c.visit.new.trail.entries) at (v.calm c.if-visit.false after) stored found)
          ];
    }
