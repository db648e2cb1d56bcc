use Rattle.std.proofs.Common.{Bool, List, ℕ, subst}
use Rattle.ms_unfound.specs.Marks.{IsBare}
use Rattle.ms_unfound.proofs.Pressing.{settled_when}
use Rattle.ms_unfound.proofs.search.pressing_loop.Goals as goal

pub returns-in-None : goal.returns-in-None
returns-in-None c =
    settled_when c.args.trail.now.room c.args.part.now c.requires c.args.trail.now.entries c.in_ok-marked.marked.items c.in_ok-marked.ensures
    (λ i. subst (λ (fs : List Bool). ¬ IsBare c.args.trail.now.entries c.args.part.now.atoms fs i) c.as_slice-2.ensures.value
    (subst (λ (as' : List ℕ). ¬ IsBare c.args.trail.now.entries as' c.as_slice-2.result.now i) c.as_slice.ensures (c.in-None.ensures i)))
