use Rattle.std.proofs.Common.{◌∷◌, get_or, map}
use Rattle.std.proofs.lemmas.Result.{IfOk-weaker}
use Rattle.ms_complete.specs.Rules.{fails, holds}
use Rattle.ms_complete.specs.Sets.{Writes}
use Rattle.ms_unfound.specs.Settled.{IsPressingLoop}
use Rattle.ms_unfound.specs.Marks.{unmarked_in}
use Rattle.ms_unfound.proofs.Pressing.{apart_in, pressing_in}
use Rattle.ms_unfound.proofs.search.nogood_at.Goals as goal

pub written-requires : goal.written-requires
written-requires c =
    let numbers = c.as_slice-numbers.result.now in
    apart_in c.args.trail.now.room c.args.part.now c.requires.part c.args.trail.now.entries c.args.marked.now c.args.place c.requires.bare c.as_slice.result.now c.in_ok-bodies.bodies.items c.as_slice-2.result.now
    (unmarked_in numbers c.args.marked.now (get_or numbers c.args.place 0)) c.as_slice.ensures c.as_slice-2.ensures c.in_ok-bodies.ensures

pub returns : goal.returns
returns c =
    let numbers = c.as_slice-numbers.result.now in
    IfOk-weaker c.written.result
    (Writes (holds (get_or c.as_slice.result.now c.args.place 0) ∷ map fails c.in_ok-bodies.bodies.items))
    (IsPressingLoop c.args.part.now c.args.trail.now.entries)
    (λ lits. pressing_in c.args.trail.now.room c.args.part.now c.requires.part c.args.trail.now.entries c.args.marked.now c.args.place c.requires.bare c.requires.least c.as_slice.result.now numbers c.in_ok-bodies.bodies.items c.as_slice-2.result.now lits
    c.as_slice.ensures c.as_slice-numbers.ensures c.as_slice-2.ensures c.in_ok-bodies.ensures)
    c.written.ensures
