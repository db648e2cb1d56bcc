use Rattle.std.proofs.Common.{sym, ◌∙◌}
use Rattle.ms_parse.proofs.NameSteps.{names_broken, names_go_on}
use Rattle.ms_words.proofs.SignLemmas.{rest_within, after_within}
use Rattle.ms_parse.proofs.program.read_names.Goals as goal

pub returns-in_default-after_sign : goal.returns-in_default-after_sign
returns-in_default-after_sign c =
    names_broken c.args.text.now c.args.tokens.now c.loop-first.rest.now c.in-Some.after.now c.in-Some.first.now c.loop-first.names c.in-Some-2.name c.loop-first.invariant.0 c.in-Some.ensures.cases.0 (sym c.in_ok-name.ensures ∙ c.in-Some-2.is) (λ b. let f : ⊥ = cc (c.if-is_alone.ensures.1 b) in f) c.in_default-after_sign.ensures

pub loop-first-preserved : goal.loop-first-preserved
loop-first-preserved c = (
  rw c.in_ok-push.ensures.ok (names_go_on c.args.text.now c.args.tokens.now c.loop-first.rest.now c.in-Some.after.now c.in-Some.first.now c.loop-first.names c.in-Some-2.name c.loop-first.invariant.0 c.in-Some.ensures.cases.0 (sym c.in_ok-name.ensures ∙ c.in-Some-2.is) c.in-Some-after_sign.more.now c.in-Some-after_sign.ensures),
  after_within _ _ _ _ c.in-Some-after_sign.ensures (rest_within _ _ _ _ c.in-Some.ensures.cases.0 c.loop-first.invariant.1),
)
