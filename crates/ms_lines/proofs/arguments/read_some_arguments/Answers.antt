use Rattle.std.proofs.Common.{length, arith, ap, length-drop}
use Rattle.ms_words.proofs.SignLemmas.{drop_within, after_within, after_shorter}
use Rattle.ms_lines.proofs.ArgumentFronts.{values_none, values_more, values_closing}
use Rattle.ms_lines.proofs.arguments.read_some_arguments.Goals as goal

pub returns-in_default-clause-found : goal.returns-in_default-clause-found
returns-in_default-clause-found c = values_none c.args.text.now _ _ _ c.loop-values.invariant.goes _ c.in_ok-value.ensures.found c.in_default.is

pub returns-in_default-after_sign-clause-found : goal.returns-in_default-after_sign-clause-found
returns-in_default-after_sign-clause-found c =
    values_closing c.args.text.now _ _ _ c.loop-values.invariant.goes _ c.in_ok-value.ensures.found _ c.in-Some.is _ c.in_ok-push.ensures.ok _ c.tokens_after-behind.ensures c.in_default-after_sign.ensures _ c.closed.ensures

pub loop-values-preserved : goal.loop-values-preserved
loop-values-preserved c = record {
  inside = after_within _ _ _ _ c.in-Some-after_sign.ensures (drop_within _ _ _ _ c.tokens_after-behind.ensures c.loop-values.invariant.inside);
  shorter = omega (arith, c.loop-values.invariant.shorter, after_shorter _ _ _ c.in-Some-after_sign.ensures, ap length c.tokens_after-behind.ensures, length-drop c.in-Some.count c.loop-values.rest.now);
  goes = values_more c.args.text.now _ _ _ c.loop-values.invariant.goes _ c.in_ok-value.ensures.found _ c.in-Some.is _ c.in_ok-push.ensures.ok _ c.tokens_after-behind.ensures _ c.in-Some-after_sign.ensures;
}
