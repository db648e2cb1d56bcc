use Rattle.ms_solving.specs.Listing.{tree_of_value}
use Rattle.ms_session.proofs.Finding.{finds, lacking, no_name, some_name}
use Rattle.ms_session.proofs.open_session.Open.find.Goals as goal

pub returns-in-Some : goal.returns-in-Some
returns-in-Some c =
    let s = c.args.self.now in
    finds s.terms s.base (tree_of_value c.args.atom.now) c.in-Some.term c.find.result
    (some_name s.terms (tree_of_value c.args.atom.now) c.in_ok-term.field-0 c.in-Some.term c.in-Some.is c.in_ok-term.ensures) c.requires c.find.ensures

pub returns-in-None : goal.returns-in-None
returns-in-None c =
    let s = c.args.self.now in
    lacking s.terms s.base (tree_of_value c.args.atom.now) c.requires
    (no_name s.terms (tree_of_value c.args.atom.now) c.in_ok-term.field-0 c.in-None.is c.in_ok-term.ensures)
