use Rattle.ms_graph.proofs.Followed.{end_from_current, search_followed, work_followed, leaves, node_inside, end_inside}
use Rattle.ms_graph.proofs.search.Search.step.Goals as goal

pub take-requires-clause-node : goal.take-requires-clause-node
take-requires-clause-node c =
    node_inside c.args.edges.now c.args.self.now c.args.node c.args.chains.now.last.items c.requires.search (end_from_current c.args.self.now c.args.node c.requires.node)

pub follow-requires-clause-node : goal.follow-requires-clause-node
follow-requires-clause-node c =
    end_inside c.args.edges.now c.args.self.now c.args.node c.in-Some.end c.args.chains.now.last.items c.take.new.self.last.items c.requires.graph c.in-Some.ensures.taken

pub returns-in_ok-follow-in-Some-clause-search : goal.returns-in_ok-follow-in-Some-clause-search
returns-in_ok-follow-in-Some-clause-search c =
    let at = end_from_current c.args.self.now c.args.node c.requires.node in
    let inside = end_inside c.args.edges.now c.args.self.now c.args.node c.in-Some.end c.args.chains.now.last.items c.take.new.self.last.items c.requires.graph c.in-Some.ensures.taken in
    rw c.in_ok-follow-in-Some.ensures
    (search_followed c.args.edges.now c.args.self.now c.args.node c.in-Some.end c.args.chains.now.last.items c.take.new.self.last.items c.requires.search at c.in-Some.ensures.taken inside c.in-Some.ensures.len)

pub returns-in_ok-follow-in-Some-clause-shrinks : goal.returns-in_ok-follow-in-Some-clause-shrinks
returns-in_ok-follow-in-Some-clause-shrinks c =
    let at = end_from_current c.args.self.now c.args.node c.requires.node in
    let inside = end_inside c.args.edges.now c.args.self.now c.args.node c.in-Some.end c.args.chains.now.last.items c.take.new.self.last.items c.requires.graph c.in-Some.ensures.taken in
    rw c.in_ok-follow-in-Some.ensures
    (work_followed c.args.edges.now c.args.self.now c.args.node c.in-Some.end c.args.chains.now.last.items c.take.new.self.last.items c.requires.search at c.in-Some.ensures.taken inside)

pub returns-in-None-clause-search : goal.returns-in-None-clause-search
returns-in-None-clause-search c =
    let at = end_from_current c.args.self.now c.args.node c.requires.node in
    rw (c.leave.ensures, c.in-None.ensures.same)
    (leaves c.args.edges.now c.args.self.now c.args.node c.args.chains.now.last.items c.requires.search at c.in-None.ensures.none).search

pub returns-in-None-clause-len : goal.returns-in-None-clause-len
returns-in-None-clause-len c =
    let at = end_from_current c.args.self.now c.args.node c.requires.node in
    rw c.leave.ensures
    (leaves c.args.edges.now c.args.self.now c.args.node c.args.chains.now.last.items c.requires.search at c.in-None.ensures.none).len

pub returns-in-None-clause-entered : goal.returns-in-None-clause-entered
returns-in-None-clause-entered c =
    let at = end_from_current c.args.self.now c.args.node c.requires.node in
    rw c.leave.ensures
    (leaves c.args.edges.now c.args.self.now c.args.node c.args.chains.now.last.items c.requires.search at c.in-None.ensures.none).new

pub returns-in-None-clause-shrinks : goal.returns-in-None-clause-shrinks
returns-in-None-clause-shrinks c =
    let at = end_from_current c.args.self.now c.args.node c.requires.node in
    rw (c.leave.ensures, c.in-None.ensures.same)
    (leaves c.args.edges.now c.args.self.now c.args.node c.args.chains.now.last.items c.requires.search at c.in-None.ensures.none).shrinks
