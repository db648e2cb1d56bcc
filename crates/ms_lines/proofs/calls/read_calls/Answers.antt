use Rattle.std.proofs.Common.{sym, ◌∙◌}
use Rattle.ms_call.specs.Commands.{IsCall}
use Rattle.ms_lines.proofs.CallFronts.{call_starts, call_some}
use Rattle.ms_words.proofs.SignLemmas.{drop_within}
use Rattle.ms_lines.proofs.Sequences.{seq_none, seq_last, seq_more}
use Rattle.ms_lines.proofs.calls.read_calls.Goals as goal

pub returns-in_default : goal.returns-in_default
returns-in_default c = seq_none IsCall call_starts call_some c.args.text.now _ _ _ c.loop-calls.invariant.goes _ c.in_ok-call.ensures.found c.in_default.is

pub returns-then-is_empty : goal.returns-then-is_empty
returns-then-is_empty c =
    seq_last IsCall call_starts call_some c.args.text.now _ _ _ c.loop-calls.invariant.goes _ c.in_ok-call.ensures.found _ c.in-Some.is _ c.in_ok-push.ensures.ok _ c.tokens_after-rest.ensures (sym c.is_empty.ensures ∙ c.if-is_empty.true)

pub loop-calls-preserved : goal.loop-calls-preserved
loop-calls-preserved c = record {
  inside = drop_within _ _ _ _ c.tokens_after-rest.ensures c.loop-calls.invariant.inside;
  goes = seq_more IsCall call_starts call_some c.args.text.now _ _ _ c.loop-calls.invariant.goes _ c.in_ok-call.ensures.found _ c.in-Some.is _ c.in_ok-push.ensures.ok _ c.tokens_after-rest.ensures (sym c.is_empty.ensures ∙ c.if-is_empty.false);
}
