use Rattle.std.proofs.Common.{arith, subst, sym}
use Rattle.std.proofs.lemmas.Bool.Decides.{nat_tests}
use Rattle.ms_log.specs.NoteText.{number_text, IsThing}
use Rattle.ms_log.proofs.Items.{AreRead, no_word, no_item, one_read}
use Rattle.ms_log.proofs.Numerals.{bare_number}
use Rattle.ms_log.proofs.item.read_numbers.Goals as goal

pub returns-in_default : goal.returns-in_default
returns-in_default c =
    let test = c.loop-rest-test.ensures in
    no_word number_text IsThing c.args.text.now c.loop-rest.rest.now c.loop-rest.numbers c.loop-rest.invariant (grind (arith, nat_tests)) c.in_default.ensures

pub returns-in_default-read_number : goal.returns-in_default-read_number
returns-in_default-read_number c =
    no_item number_text IsThing bare_number c.args.text.now c.loop-rest.rest.now c.in-Some.word.now c.in-Some.after.now c.loop-rest.numbers c.loop-rest.invariant c.in-Some.ensures.0 c.in-Some.ensures.1 c.in-Some.ensures.2 c.in_default-read_number.ensures

pub loop-rest-preserved : goal.loop-rest-preserved
loop-rest-preserved c =
    subst (λ xs. AreRead number_text IsThing c.args.text.now c.in-Some.after.now xs) (sym c.in_ok-push.ensures.ok)
    (one_read number_text IsThing bare_number c.args.text.now c.loop-rest.rest.now c.in-Some.word.now c.in-Some.after.now c.loop-rest.numbers c.in-Some-read_number.number c.loop-rest.invariant c.in-Some.ensures.0 c.in-Some.ensures.1 c.in-Some.ensures.2 c.in-Some-read_number.ensures.0 c.in-Some-read_number.ensures.1)
