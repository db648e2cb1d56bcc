use Rattle.std.proofs.Common.{◌≡◌, ◌-◌, ◌<◌, ℕ, List, length, Some, subst, sym, ap, ◌∙◌, arith}
use Rattle.std.specs.Prelude.{slice_get}
use Rattle.std.proofs.lemmas.Grind.{get_or_default_zero}
use Rattle.ms_graph.specs.State.{State}
use Rattle.ms_graph.specs.Search.{node_at}
use Rattle.ms_graph.proofs.Left.{end_open, end_read, current_is}
use Rattle.ms_graph.proofs.search.Search.current.Goals as goal

pub index-requires : goal.index-requires
index-requires c =
    let s = c.args.self.now in
    let path = c.deref.ensures.value ∙ ap (λ (x : State). x.path) c.self.view_is in
    let stack = ap (λ (x : State). length x.stack) c.self.view_is in
    let end = end_read s c.deref.result.now c.in-Some.place.now path (sym c.in-Some.ensures.value) in
    let lt = end_open s c.requires.rising end.0 in
    let at = end.1 in
    omega (arith, c.self.inside.stack.ok.0, stack, lt, at)

pub returns-in-Some : goal.returns-in-Some
returns-in-Some c =
    let s = c.args.self.now in
    let path = c.deref.ensures.value ∙ ap (λ (x : State). x.path) c.self.view_is in
    let len = ap (λ (x : State). length x.stack) c.self.view_is in
    let read : slice_get c.deref.result.now (length c.deref.result.now - 1) ≡ Some c.in-Some.place.now = sym c.in-Some.ensures.value in
    let end = end_read s c.deref.result.now c.in-Some.place.now path read in
    let lt = end_open s c.requires.rising end.0 in
    let at = end.1 in
    let inside : c.in-Some.place.now < length c.self.inside.stack.items = omega (arith, len, lt, at) in
    let node : c.index.result.now ≡ node_at s c.in-Some.place.now =
    c.index.ensures ∙ get_or_default_zero c.self.inside.stack.items c.in-Some.place.now c.index.result.now inside
    ∙ ap (λ (x : State). node_at x c.in-Some.place.now) c.self.view_is in
    current_is s c.in-Some.place.now c.index.result.now (subst (λ (xs : List ℕ). slice_get xs (length xs - 1) ≡ Some c.in-Some.place.now) path read) node
