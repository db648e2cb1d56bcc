use Rattle.std.proofs.Common.{arith}
use Rattle.ms_term.proofs.Orders.{tail_is}
use Rattle.ms_term.proofs.Pieces.{on_ok, function_begun, opened_front}
use Rattle.ms_term.proofs.PrintFronts.{on_err, name_front}
use Rattle.ms_term.proofs.terms.Terms.print_name.Goals as goal

pub returns-in_err-push-clause-err : goal.returns-in_err-push-clause-err
returns-in_err-push-clause-err c =
    on_err _ _ (name_front c.args.into.now.items c.extend_from_slice.new.self.items c.push.new.self.items c.args.name.now _ c.in_ok-extend_from_slice.ensures.items c.in_err-push.ensures.items)

pub returns-clause-ok : goal.returns-clause-ok
returns-clause-ok c =
    on_ok c.push_arguments.result _ _ c.push_arguments.ensures
    (function_begun c.args.self.now c.args.name.now c.args.arguments.now _ c.first-item.result c.closing_of.result c.args.pieces.now.items c.push_arguments.new.pieces.items c.args.into.now.items c.extend_from_slice.new.self.items c.push.new.self.items
    (omega (arith, c.in-len1-up.len_at_least)) c.first-item.is (tail_is c.args.arguments.now) c.requires.within c.requires.below c.in_ok-extend_from_slice.ensures.items c.in_ok-push.ensures.items (c.closing_of.ensures c.args.self.now))

pub returns-clause-err : goal.returns-clause-err
returns-clause-err c =
    on_err c.push_arguments.result _
    (opened_front c.args.self.now c.args.name.now c.args.arguments.now c.args.into.now.items c.extend_from_slice.new.self.items c.push.new.self.items
    (omega (arith, c.in-len1-up.len_at_least)) c.in_ok-extend_from_slice.ensures.items c.in_ok-push.ensures.items)
