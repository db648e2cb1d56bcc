use Rattle.std.proofs.Common.{◌≡◌, All, take, true}
use Rattle.std.specs.Prelude.{◌↔◌}
use Rattle.ms_session.specs.Assuming.{AddsAssumed, IsImpossibleFor, IsKnown}
use Rattle.ms_session.specs.Opened.{names_of}
use Rattle.ms_session.proofs.open_session.Open.add_assumed.Given as goal

abbrev pub invariant-loop-given : goal.invariant-loop-given
invariant-loop-given l = record {
  adds : AddsAssumed (names_of l.self) (take l.given-index l.assume) l.fn.lits.items l.lits.items;
  impossible : (l.impossible ≡ true) ↔ IsImpossibleFor (names_of l.self) (take l.given-index l.assume);
  known : All (IsKnown (names_of l.self)) (take l.given-index l.assume);
}
