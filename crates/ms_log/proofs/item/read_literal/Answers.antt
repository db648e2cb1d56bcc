use Rattle.std.proofs.Common.{arith, subst, sym}
use Rattle.ms_log.specs.NoteText.{literal_text, IsLiteral}
use Rattle.ms_log.specs.Reading.{IsReadBack}
use Rattle.ms_log.proofs.Words.{behind, front_is}
use Rattle.ms_log.proofs.Numerals.{negative_none}
use Rattle.ms_log.proofs.item.read_literal.Goals as goal

pub returns-in_err-read_number-in-45 : goal.returns-in_err-read_number-in-45
returns-in_err-read_number-in-45 c =
    subst (λ found. IsReadBack literal_text IsLiteral c.args.word.now found) (sym c.from_residual.ensures)
    (negative_none c.args.word.now (behind c.args.word.now) (front_is c.args.word.now 45 (omega arith) (omega arith)) c.in_err-read_number-in-45.ensures)
