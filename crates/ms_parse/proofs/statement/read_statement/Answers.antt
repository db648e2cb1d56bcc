use Rattle.std.proofs.Common.{sym}
use Rattle.ms_parse.proofs.PieceLemmas.{kind_of_dot, other_kind}
use Rattle.ms_parse.proofs.SignLemmas.{front_within}
use Rattle.ms_parse.proofs.StatementLemmas.{no_dot, statement_spelled, statement_only}
use Rattle.ms_parse.proofs.statement.read_statement.Goals as goal

pub returns-then-not-is_dot-clause-only : goal.returns-then-not-is_dot-clause-only
returns-then-not-is_dot-clause-only c = no_dot _ _ _ _ c.in-Some.ensures.cases.0 (other_kind _ (sym c.if-not-is_dot.ensures))

pub read_content-requires : goal.read_content-requires
read_content-requires c = front_within _ _ _ _ c.in-Some.ensures.cases.0 c.requires

pub returns-clause-spelled : goal.returns-clause-spelled
returns-clause-spelled c =
    rw c.statement_from.ensures
    (statement_spelled c.args.text.now c.args.piece.now c.in-Some.content.now c.in-Some.last.now c.in-Some.ensures.cases.0 (kind_of_dot _ (sym c.if-not-is_dot.ensures)) _ c.in_ok-found.ensures _ c.line_of.ensures)

pub returns-clause-only : goal.returns-clause-only
returns-clause-only c =
    rw c.statement_from.ensures
    (statement_only c.args.text.now c.args.piece.now c.in-Some.content.now c.in-Some.last.now c.in-Some.ensures.cases.0 (kind_of_dot _ (sym c.if-not-is_dot.ensures)) _ c.in_ok-found.ensures _ c.line_of.ensures)
