use Rattle.ms_session.proofs.Opening.{start_first, whole_first}
use Rattle.ms_session.proofs.open_session.Open.new.Goals as goal

pub returns-clause-whole : goal.returns-clause-whole
returns-clause-whole c = whole_first c.new-2.result c.new.result c.new-3.result c.new-4.result c.new-5.result c.new-3.ensures c.new-4.ensures c.new-5.ensures.serves c.new-5.ensures.attached c.new-5.ensures.in_step

pub returns-clause-start : goal.returns-clause-start
returns-clause-start c = start_first c.new-2.result c.new.result c.new-3.result c.new-4.result c.new-5.result c.new-3.ensures c.new-4.ensures c.new-5.ensures.serves c.new.ensures c.new-5.ensures.kept
