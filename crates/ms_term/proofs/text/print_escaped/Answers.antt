use Rattle.std.proofs.Common.{arith, get_or}
use Rattle.std.proofs.lemmas.List.{get_or_default}
use Rattle.ms_term.proofs.PrintFronts.{on_err, byte_front}
use Rattle.ms_term.proofs.text.print_escaped.Goals as goal

pub returns-in_err-print_byte-clause-err : goal.returns-in_err-print_byte-clause-err
returns-in_err-print_byte-clause-err c =
    let byte = get_or c.loop-rest.rest.now 0 0 in
    on_err _ _ (byte_front c.args.into.now.items c.loop-rest.into.items c.print_byte.new.into.items c.args.bytes.now c.loop-rest.rest.now byte (omega (arith, c.in-len1-up.len_at_least))
    (get_or_default c.loop-rest.rest.now 0 0 byte (omega (arith, c.in-len1-up.len_at_least))) c.loop-rest.invariant.front c.loop-rest.invariant.same c.in_err-print_byte.ensures.err)
