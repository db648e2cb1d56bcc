use Rattle.std.proofs.Common.{None, refl, subst, sym}
use Rattle.ms_lines.specs.Buffers.{BeginsNotBlank, IsEndOf}
use Rattle.ms_lines.proofs.LineSteps.{says_same}
use Rattle.ms_lines.proofs.Lines.next_line.Goals as goal

pub returns-clause-said : goal.returns-clause-said
returns-clause-said c = says_same c.args.self.now c.pass_blanks.new.self (record { text = c.pass_blanks.new.self.text; rest = c.line_len.new.self }) c.pass_blanks.ensures.said refl c.line_len.ensures.same

pub returns-clause-passed : goal.returns-clause-passed
returns-clause-passed c = λ none. subst BeginsNotBlank (sym c.line_len.ensures.same) (c.pass_blanks.ensures.passed none)

pub returns-clause-kept : goal.returns-clause-kept
returns-clause-kept c = subst (IsEndOf c.args.self.now.rest) (sym c.line_len.ensures.same) c.pass_blanks.ensures.kept
