use Rattle.ms_solving.specs.Listing.{tree_of_value}
use Rattle.ms_session.proofs.Sealing.{found_by}
use Rattle.ms_session.proofs.session.Session.find.Goals as goal

pub returns-clause-ok : goal.returns-clause-ok
returns-clause-ok c =
    let s = c.self.inside in
    rw (← c.self.view_is)
    (found_by s.sealed c.seal_on_failure.new.sealed s.open (tree_of_value c.args.atom.now) c.seal_on_failure.result c.find-found.result
    c.seal_on_failure.ensures.same c.if-self.false c.seal_on_failure.ensures.sealed c.find-found.ensures)
