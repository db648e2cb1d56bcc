use Rattle.std.proofs.Common.{◌≡◌, map, arith}
use Rattle.std.proofs.lemmas.Result.{IfOk-weaker}
use Rattle.ms_graph.specs.declared.stage.Stage.TheVariants.{Closed}
use Rattle.ms_graph.specs.Components.{IsNumbering}
use Rattle.ms_graph.proofs.Numbers.{IsFinished, all_closed, numbers_final}
use Rattle.ms_graph.proofs.search.components.Goals as goal

pub numbers-requires : goal.numbers-requires
numbers-requires c =
    let i = c.loop-node.invariant in
    let finished : IsFinished c.args.edges.now c.loop-node.chains.last.items c.loop-node.search = record {
      search = i.search;
      path = i.path;
      seen = λ a lt. let len = i.len in i.seen a (omega (arith, lt, len));
    } in
    all_closed c.args.edges.now c.loop-node.chains.last.items c.loop-node.search finished

pub returns : goal.returns
returns c =
    let i = c.loop-node.invariant in
    let edges = c.args.edges.now in
    let finished : IsFinished edges c.loop-node.chains.last.items c.loop-node.search = record {
      search = i.search;
      path = i.path;
      seen = λ a lt. let len = i.len in i.seen a (omega (arith, lt, len));
    } in
    IfOk-weaker c.numbers.result (λ numbers. map (λ number. Closed number) numbers ≡ c.loop-node.search.stages) (IsNumbering c.args.nodes edges)
    (λ numbers maps. numbers_final edges c.loop-node.chains.last.items numbers c.loop-node.search c.args.nodes finished i.len c.requires maps)
    c.numbers.ensures
