use Rattle.std.proofs.Common.{sym, ◌∙◌}
use Rattle.ms_lines.proofs.CallFronts.{call_named}
use Rattle.ms_lines.proofs.calls.read_call.Goals as goal

pub returns-clause-found : goal.returns-clause-found
returns-clause-found c = call_named c.args.text.now c.args.tokens.now c.in-Some.first.now c.in-Some.after.now c.in-Some.ensures.cases.0 c.in-Some-2.name (sym c.in_ok-name.ensures ∙ c.in-Some-2.is) _ c.call_named.ensures.found
