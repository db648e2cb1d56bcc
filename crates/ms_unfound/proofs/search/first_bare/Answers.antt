use Rattle.std.proofs.Common.{◌∙◌, sym, below_more}
use Rattle.ms_unfound.proofs.Pressing.{not_bare_beyond, not_bare_false, not_bare_marked}
use Rattle.ms_unfound.proofs.search.first_bare.Goals as goal
use Rattle.ms_unfound.proofs.search.first_bare.Goals.{else-may_hold-via-then-may_hold+else-not-is_marked, else-may_hold-via-else-may_hold}

pub loop-i-preserved : goal.loop-i-preserved
loop-i-preserved c = below_more _ _ c.loop-i.invariant (elim c.else-may_hold.branch [
  | else-may_hold-via-then-may_hold+else-not-is_marked w ↦ not_bare_marked c.args.trail.now.entries c.args.atoms.now c.args.marked.now c.loop-i.i (sym w.is_marked.ensures ∙ w.if-not-is_marked.false)
  | else-may_hold-via-else-may_hold w ↦ not_bare_false c.args.trail.now.entries c.args.atoms.now c.args.marked.now c.loop-i.i (sym c.may_hold.ensures ∙ w.if-may_hold.false)
])

pub returns : goal.returns
returns c = not_bare_beyond c.args.trail.now.entries c.args.atoms.now c.args.marked.now c.loop-i.i c.loop-i-test.false c.loop-i.invariant
