use Rattle.ms_term.proofs.PrintFronts.{on_err, string_front}
use Rattle.ms_term.proofs.text.print_string.Goals as goal

pub returns-in_err-print_escaped-clause-err : goal.returns-in_err-print_escaped-clause-err
returns-in_err-print_escaped-clause-err c =
    on_err _ _ (string_front c.args.into.now.items c.push.new.self.items c.print_escaped.new.into.items c.args.bytes.now c.in_ok-push.ensures.items c.in_err-print_escaped.ensures.err)
