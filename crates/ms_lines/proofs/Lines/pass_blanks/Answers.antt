use Rattle.std.proofs.Common.{◌∙◌, ap, sym, subst}
use Rattle.std.specs.Prelude.{not}
use Rattle.ms_lines.specs.Buffers.{BeginsNotBlank}
use Rattle.ms_lines.proofs.LineSteps.{says_nothing, ends_itself, end_dropped}
use Rattle.ms_lines.proofs.Passing.{says_passed, none_left, not_open, not_none}
use Rattle.ms_lines.proofs.Lines.pass_blanks.Goals as goal

pub returns-then-is_none-clause-said : goal.returns-then-is_none-clause-said
returns-then-is_none-clause-said c =
    let none = not_open c.args.self.now.text (c.is_none.ensures ∙ ap not c.if-is_none.true) in
    says_passed c.args.self.now (record { text = c.args.self.now.text; rest = c.pass_blanks.new.self }) none none c.pass_blanks.ensures

pub returns-then-is_none-clause-passed : goal.returns-then-is_none-clause-passed
returns-then-is_none-clause-passed c = λ none. subst BeginsNotBlank (sym c.pass_blanks.ensures) (none_left c.args.self.now.rest)

pub returns-then-is_none-clause-kept : goal.returns-then-is_none-clause-kept
returns-then-is_none-clause-kept c = end_dropped _ _ _ c.pass_blanks.ensures

pub returns-else-is_none-clause-said : goal.returns-else-is_none-clause-said
returns-else-is_none-clause-said c = says_nothing c.args.self.now

pub returns-else-is_none-clause-passed : goal.returns-else-is_none-clause-passed
returns-else-is_none-clause-passed c = λ none. absurd (not_none c.args.self.now.text (c.is_none.ensures ∙ ap not c.if-is_none.false) none)

pub returns-else-is_none-clause-kept : goal.returns-else-is_none-clause-kept
returns-else-is_none-clause-kept c = ends_itself c.args.self.now.rest
