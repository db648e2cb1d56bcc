use Rattle.std.proofs.Common.{◌≡◌, ◌<◌, ◌∷◌, [], ◌++◌, ℕ, length, get_or, subst, refl, ap, ◌∙◌, arith}
use Rattle.std.proofs.lemmas.Grind.{get_or_default_zero}
use Rattle.ms_graph.specs.Components.{HasEndsBelow}
use Rattle.ms_graph.specs.Chains.{AreLinked}
use Rattle.ms_graph.proofs.Walks.{some_edge}
use Rattle.ms_graph.proofs.Linked.{linked_more, chains_whole, all_remain}
use Rattle.ms_graph.proofs.chains.Chains.new.Goals as goal

pub loop-i-preserved : goal.loop-i-preserved
loop-i-preserved c =
    let i = c.loop-i.i in
    let edges = c.args.edges.now in
    let lt : i < length edges = omega arith in
    let ends : HasEndsBelow c.args.nodes (get_or edges i some_edge) = c.requires i some_edge lt in
    let node = (get_or edges i some_edge).from in
    let len = c.loop-i.invariant.last_len in
    let start = ends.start in
    let inside : node < length c.loop-i.last.items = omega (arith, len, start) in
    let link : c.index.result.now ≡ get_or c.loop-i.last.items node 0 = c.index.ensures ∙ get_or_default_zero c.loop-i.last.items node c.index.result.now inside in
    let pushes : c.push.new.self.items ≡ c.loop-i.before.items ++ c.index.result.now ∷ [] = c.in_ok-push.ensures.items in
    linked_more c.args.nodes edges i c.loop-i.last.items c.loop-i.before.items _ c.push.new.self.items c.loop-i.invariant lt start refl (pushes ∙ ap (λ (x : ℕ). c.loop-i.before.items ++ x ∷ []) link)

pub returns-clause-chains : goal.returns-clause-chains
returns-clause-chains c =
    let same : c.loop-i.i ≡ length c.args.edges.now = omega arith in
    chains_whole c.args.nodes c.args.edges.now c.loop-i.last.items c.loop-i.before.items
    (subst (λ n. AreLinked c.args.nodes c.args.edges.now n c.loop-i.last.items c.loop-i.before.items) same c.loop-i.invariant)

pub returns-clause-all : goal.returns-clause-all
returns-clause-all c =
    let same : c.loop-i.i ≡ length c.args.edges.now = omega arith in
    all_remain c.args.nodes c.args.edges.now c.loop-i.last.items c.loop-i.before.items c.requires
    (subst (λ n. AreLinked c.args.nodes c.args.edges.now n c.loop-i.last.items c.loop-i.before.items) same c.loop-i.invariant)
