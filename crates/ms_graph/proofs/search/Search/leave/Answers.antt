use Rattle.std.proofs.Common.{◌≤◌, length, ap, ◌∙◌, arith, rules}
use Rattle.ms_graph.specs.State.{State}
use Rattle.ms_graph.proofs.Left.{end_open, end_popped, segments_some, rest_inside}
use Rattle.ms_graph.proofs.search.Search.leave.Goals as goal

pub is_last-requires : goal.is_last-requires
is_last-requires c =
    let read = ap length (c.deref.ensures.value ∙ ap (λ (x : State). x.segments) c.self.view_is) in
    let some = segments_some c.args.self.now c.requires.stored.rising c.requires.path in
    omega (arith, read, some)

pub slice_bounds-nodes-count : goal.slice_bounds-nodes-count
slice_bounds-nodes-count c =
    let s = c.args.self.now in
    let read = ap length (c.deref-then-is_last.ensures.value ∙ ap (λ (x : State). x.stack) c.self.view_is) in
    let at = end_popped s c.self.inside.path.items c.pop.new.self.items c.in-Some.place (ap (λ (x : State). x.path) c.self.view_is) c.in-Some.ensures.items in
    let lt = end_open s c.requires.stored.rising c.requires.path in
    omega (arith, read, at, lt)

pub slice_bounds-nodes-start : goal.slice_bounds-nodes-start
slice_bounds-nodes-start c =
    let s = c.args.self.now in
    let read = ap length (c.deref-then-is_last.ensures.value ∙ ap (λ (x : State). x.stack) c.self.view_is) in
    let at = end_popped s c.self.inside.path.items c.pop.new.self.items c.in-Some.place (ap (λ (x : State). x.path) c.self.view_is) c.in-Some.ensures.items in
    let lt = end_open s c.requires.stored.rising c.requires.path in
    let inside : c.in-Some.place ≤ length c.deref-then-is_last.result.now = omega (arith, read, at, lt) in
    search rules

pub close-requires : goal.close-requires
close-requires c =
    rest_inside c.args.self.now c.deref-then-is_last.result.now c.deref_mut.result.now c.in-Some.place
    (c.deref-then-is_last.ensures.value ∙ ap (λ (x : State). x.stack) c.self.view_is)
    (c.deref_mut.ensures.value ∙ ap (λ (x : State). x.stages) c.self.view_is)
    c.requires.stored.placed

pub overflow_add-self : goal.overflow_add-self
overflow_add-self c =
    let s = c.args.self.now in
    let count = ap (λ (x : State). x.count) c.self.view_is in
    let fits = c.requires.stored.room.fits in
    let few = c.requires.stored.room.few in
    let lt = end_open s c.requires.stored.rising c.requires.path in
    omega (arith, count, fits, few, lt)
