use Rattle.std.proofs.Common.{◌+◌, ◌≤◌, length, ap, List, ℤ, arith}
use Rattle.std.specs.Prelude.{option_to_list}
use Rattle.ms_instances.specs.Listing.{said_of, said_by_rule}
use Rattle.ms_instances.proofs.Adding.{refuses_more, refused, count_copy, next_choice}
use Rattle.ms_instances.proofs.listing.add_rule.Goals as goal

pub returns-in_err-add_copy-clause-err : goal.returns-in_err-add_copy-clause-err
returns-in_err-add_copy-clause-err c =
    let walk = c.next.new.self in
    let f = said_of c.args.rule.now in
    let next = next_choice c.loop-walk.walk walk c.in_ok-next.field-0 c.in_ok-next.ensures c.if-branch.true in
    let count : length c.loop-walk.list.items + length (option_to_list (f walk.chosen)) ≤ length c.args.list.now.items + length (said_by_rule c.args.rule.now) =
    count_copy c.args.terms.now c.loop-walk.terms c.args.list.now.items c.loop-walk.list.items f walk.chosen c.loop-walk.walk.left walk.left (said_by_rule c.args.rule.now)
    next c.loop-walk.invariant.say in
    let here = ap (λ (chosen : List ℤ). length c.loop-walk.list.items + length (option_to_list (f chosen))) c.chosen.ensures in
    refused c.from_residual-in_err-add_copy.result c.in_err-add_copy.field-0.0 _ c.from_residual-in_err-add_copy.ensures.1
    (refuses_more c.args.terms.now c.loop-walk.terms c.add_copy.new.terms _ _ c.in_err-add_copy.field-0.0 c.loop-walk.invariant.keeps
    (omega (arith, here, count)) c.in_err-add_copy.ensures.err)
