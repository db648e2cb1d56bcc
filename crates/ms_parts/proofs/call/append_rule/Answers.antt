use Rattle.std.proofs.Common.{◌≡◌, ◌++◌, OnOk, subst}
use Rattle.ms_parts.specs.Meanings.{meant}
use Rattle.ms_parts.proofs.CallLaws.{rule_is}
use Rattle.ms_parts.proofs.call.append_rule.Goals as goal

pub returns : goal.returns
returns c =
    subst (λ z. OnOk c.append_copies.result (c.append_copies.new.into ≡ c.args.into.now ++ z)) (rule_is (meant c.args.means.now) c.args.head.now c.args.body.now c.in_ok-rules.rules c.as_slice.result.now c.in_ok-rules.ensures c.as_slice.ensures) c.append_copies.ensures
