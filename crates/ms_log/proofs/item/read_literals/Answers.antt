use Rattle.std.proofs.Common.{arith, subst, sym}
use Rattle.std.proofs.lemmas.Bool.Decides.{nat_tests}
use Rattle.ms_log.specs.NoteText.{literal_text, IsLiteral}
use Rattle.ms_log.proofs.Items.{AreRead, no_word, no_item, one_read}
use Rattle.ms_log.proofs.Numerals.{bare_literal}
use Rattle.ms_log.proofs.item.read_literals.Goals as goal

pub returns-in_default : goal.returns-in_default
returns-in_default c =
    let test = c.loop-rest-test.ensures in
    no_word literal_text IsLiteral c.args.text.now c.loop-rest.rest.now c.loop-rest.lits c.loop-rest.invariant (grind (arith, nat_tests)) c.in_default.ensures

pub returns-in_default-read_literal : goal.returns-in_default-read_literal
returns-in_default-read_literal c =
    no_item literal_text IsLiteral bare_literal c.args.text.now c.loop-rest.rest.now c.in-Some.word.now c.in-Some.after.now c.loop-rest.lits c.loop-rest.invariant c.in-Some.ensures.0 c.in-Some.ensures.1 c.in-Some.ensures.2 c.in_default-read_literal.ensures

pub loop-rest-preserved : goal.loop-rest-preserved
loop-rest-preserved c =
    subst (λ xs. AreRead literal_text IsLiteral c.args.text.now c.in-Some.after.now xs) (sym c.in_ok-push.ensures.ok)
    (one_read literal_text IsLiteral bare_literal c.args.text.now c.loop-rest.rest.now c.in-Some.word.now c.in-Some.after.now c.loop-rest.lits c.in-Some-read_literal.lit c.loop-rest.invariant c.in-Some.ensures.0 c.in-Some.ensures.1 c.in-Some.ensures.2 c.in-Some-read_literal.ensures.0 c.in-Some-read_literal.ensures.1)
