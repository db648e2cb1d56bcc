use Rattle.std.proofs.Common.{◌≡◌, ◌+◌, ◌<◌, ◌≤◌, ℕ, List, length, get_or, subst}
use Rattle.ms_graph.proofs.Merged.{merged_is}
use Rattle.ms_graph.proofs.search.Search.merge.Goals as goal

pub returns : goal.returns
returns c =
    let segments = c.self.inside.segments.items in
    let read = c.deref.ensures.value in
    let n = c.count_up_to-count.result in
    let within = subst (λ (xs : List ℕ). n ≤ length xs) read c.count_up_to-count.ensures.within in
    let last = subst (λ (xs : List ℕ). (k : ℕ) → n ≡ k + 1 → get_or xs k 0 ≤ c.args.place) read c.count_up_to-count.ensures.last in
    let beyond = subst (λ (xs : List ℕ). (k : ℕ) → n ≤ k → k < length xs → c.args.place < get_or xs k 0) read c.count_up_to-count.ensures.beyond in
    merged_is _ c.args.self.now c.truncate.new.self.items c.args.place n c.self.view_is c.truncate.ensures.items c.requires.rising.segments within last beyond
