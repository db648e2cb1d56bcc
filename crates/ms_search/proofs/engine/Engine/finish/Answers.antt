use Rattle.ms_search.proofs.Begins.{nothing_seen}
use Rattle.ms_search.proofs.engine.Engine.finish.Goals as goal

pub returns-clause-seen : goal.returns-clause-seen
returns-clause-seen g c = nothing_seen (g.T.Theory.Seen c.args.theory.now) (g.T.Theory.Seen c.back_to-2.new.self) c.back_to-2.ensures.seen
