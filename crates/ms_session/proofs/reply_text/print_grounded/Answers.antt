use Rattle.std.proofs.Common.{◌≡◌, ◌++◌, ap, ◌∙◌}
use Rattle.std.proofs.lemmas.List.{append_assoc}
use Rattle.std.proofs.lemmas.Result.{on_ok_weaker}
use Rattle.ms_machine.specs.Replies.{reply_text, grounded}
use Rattle.ms_session.proofs.reply_text.print_grounded.Goals as goal

pub returns-clause-ok : goal.returns-clause-ok
returns-clause-ok c =
    let text : c.as_bytes.result.now ≡ reply_text (grounded c.args.atoms c.args.rules) = c.as_bytes.ensures.value ∙ c.in_ok-text.ensures.ok ∙ simp append_assoc in
    on_ok_weaker c.put.result (λ put. put ∙ ap (λ l. c.args.into.now.items ++ l) text) c.put.ensures.ok
