use Rattle.std.proofs.Common.{subst}
use Rattle.std.specs.Prelude.{MatchOption}
use Rattle.ms_term.specs.Words.{HasNoWord, IsWordOf}
use Rattle.ms_term.proofs.WordTables.{looked_up}
use Rattle.ms_term.proofs.words.Words.find.Goals as goal

pub returns : goal.returns
returns c =
    subst (λ ws. MatchOption c.get_index_of.result (HasNoWord ws c.args.bytes.now) (IsWordOf ws c.args.bytes.now)) c.self.view_is
    (looked_up c.self.inside.words.keys c.args.bytes.now c.get_index_of.result c.get_index_of.ensures.index c.get_index_of.ensures.found)
