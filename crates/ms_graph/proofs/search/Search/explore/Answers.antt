use Rattle.std.proofs.Common.{sym, ◌∙◌}
use Rattle.std.proofs.lemmas.List.{nil_from_length}
use Rattle.ms_graph.proofs.Followed.{follows_root, no_end, search_root}
use Rattle.ms_graph.proofs.search.Search.explore.Goals as goal

pub loop-node-init : goal.loop-node-init
loop-node-init c =
    let edges = c.args.edges.now in
    let s = c.args.self.now in
    let last = c.args.chains.now.last.items in
    let f = follows_root edges s c.args.root last c.requires.search c.requires.path c.requires.root in
    rw c.in_ok-follow.ensures (record {
      chains = c.requires.chains;
      search = search_root edges s c.args.root last c.requires.search c.requires.path c.requires.root;
      len = f.len;
      entered = f.new;
      root = f.seen;
    })

pub returns-clause-path : goal.returns-clause-path
returns-clause-path c =
    nil_from_length c.loop-node.self.path (no_end c.loop-node.self (sym c.current.ensures ∙ c.in_default.is))
