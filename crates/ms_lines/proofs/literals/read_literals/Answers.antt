use Rattle.std.proofs.Common.{sym, ◌∙◌}
use Rattle.ms_call.specs.Commands.{IsLiteral}
use Rattle.ms_lines.proofs.LiteralFronts.{literal_starts, literal_some}
use Rattle.ms_words.proofs.SignLemmas.{drop_within}
use Rattle.ms_lines.proofs.Sequences.{seq_none, seq_last, seq_more}
use Rattle.ms_lines.proofs.literals.read_literals.Goals as goal

pub returns-in_default : goal.returns-in_default
returns-in_default c = seq_none IsLiteral literal_starts literal_some c.args.text.now _ _ _ c.loop-literals.invariant.goes _ c.in_ok-literal.ensures.found c.in_default.is

pub returns-then-is_empty : goal.returns-then-is_empty
returns-then-is_empty c =
    seq_last IsLiteral literal_starts literal_some c.args.text.now _ _ _ c.loop-literals.invariant.goes _ c.in_ok-literal.ensures.found _ c.in-Some.is _ c.in_ok-push.ensures.ok _ c.tokens_after-rest.ensures (sym c.is_empty.ensures ∙ c.if-is_empty.true)

pub loop-literals-preserved : goal.loop-literals-preserved
loop-literals-preserved c = record {
  inside = drop_within _ _ _ _ c.tokens_after-rest.ensures c.loop-literals.invariant.inside;
  goes = seq_more IsLiteral literal_starts literal_some c.args.text.now _ _ _ c.loop-literals.invariant.goes _ c.in_ok-literal.ensures.found _ c.in-Some.is _ c.in_ok-push.ensures.ok _ c.tokens_after-rest.ensures (sym c.is_empty.ensures ∙ c.if-is_empty.false);
}
