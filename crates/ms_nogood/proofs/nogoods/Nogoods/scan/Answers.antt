use Rattle.std.proofs.Common.{◌≡◌, length, arith}
use Rattle.std.proofs.lemmas.Grind.{common_steps}
use Rattle.ms_nogood.proofs.Propagation.{propagates_then, settled_from}
use Rattle.ms_nogood.proofs.nogoods.Nogoods.scan.Goals as goal

pub returns-in-Some-clause-propagates : goal.returns-in-Some-clause-propagates
returns-in-Some-clause-propagates c = propagates_then c.args.self.now c.args.trail.now c.loop-key.trail c.pass.new.trail c.loop-key.invariant c.pass.ensures.propagates

pub returns-then-len-before-clause-propagates : goal.returns-then-len-before-clause-propagates
returns-then-len-before-clause-propagates c = propagates_then c.args.self.now c.args.trail.now c.loop-key.trail c.pass.new.trail c.loop-key.invariant c.pass.ensures.propagates

pub returns-then-len-before-clause-answers : goal.returns-then-len-before-clause-answers
returns-then-len-before-clause-answers c =
    let quiet : length c.pass.new.trail.entries ≡ length c.loop-key.trail.entries = grind (arith, common_steps) in
    settled_from c.args.self.now c.pass.new.trail.entries (c.in_default.ensures.quiet quiet)

pub loop-key-preserved : goal.loop-key-preserved
loop-key-preserved c = propagates_then c.args.self.now c.args.trail.now c.loop-key.trail c.pass.new.trail c.loop-key.invariant c.pass.ensures.propagates
