use Rattle.std.proofs.Common.{◌≡◌, ◌+◌, ◌-◌, ◌<◌, length, get_or, set, refl, sym, subst, ◌∙◌, arith}
use Rattle.std.proofs.lemmas.Grind.{get_or_default_zero}
use Rattle.ms_graph.specs.Chains.{AreChains, IsTaken}
use Rattle.ms_graph.proofs.Walks.{some_edge}
use Rattle.ms_graph.proofs.Linked.{chains_taken, is_taken}
use Rattle.ms_graph.proofs.chains.Chains.take.Goals as goal

pub returns-clause-chains : goal.returns-clause-chains
returns-clause-chains c =
    let last = c.args.self.now.last.items in
    let before = c.args.self.now.before.items in
    let node = c.args.node in
    let j = c.index-link.result.now - 1 in
    let inside : node < length last = c.requires.node in
    let link : c.index-link.result.now ≡ get_or last node 0 = c.index-link.ensures ∙ get_or_default_zero last node c.index-link.result.now inside in
    let at : get_or last node 0 ≡ j + 1 = omega (arith, link) in
    let within = (c.requires.chains.of_nodes node inside).within in
    let len = c.requires.chains.len in
    let next : c.index.result.now ≡ get_or before j 0 = c.index.ensures ∙ get_or_default_zero before j c.index.result.now (omega (arith, within, at, len)) in
    subst (λ x. AreChains c.args.edges.now (set last node x) before) (sym next) (chains_taken c.args.edges.now last before node j c.requires.chains inside at)

pub returns-clause-taken : goal.returns-clause-taken
returns-clause-taken c =
    let edges = c.args.edges.now in
    let last = c.args.self.now.last.items in
    let before = c.args.self.now.before.items in
    let node = c.args.node in
    let j = c.index-link.result.now - 1 in
    let inside : node < length last = c.requires.node in
    let link : c.index-link.result.now ≡ get_or last node 0 = c.index-link.ensures ∙ get_or_default_zero last node c.index-link.result.now inside in
    let at : get_or last node 0 ≡ j + 1 = omega (arith, link) in
    let within = (c.requires.chains.of_nodes node inside).within in
    let len = c.requires.chains.len in
    let next : c.index.result.now ≡ get_or before j 0 = c.index.ensures ∙ get_or_default_zero before j c.index.result.now (omega (arith, within, at, len)) in
    let end = (get_or edges j some_edge).to in
    subst (λ x. IsTaken edges node last (set last node x) end) (sym next) (is_taken edges last before node j end c.requires.chains inside at refl)
