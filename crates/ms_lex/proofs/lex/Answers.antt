use Rattle.std.proofs.Common.{sym, ◌∙◌}
use Rattle.std.proofs.lemmas.List.{take_rest}
use Rattle.ms_lex.proofs.Reading.{IsRest, HasRead-blank, HasRead-comment, HasRead-token, HasRead-bad, HasRead-all}
use Rattle.ms_lex.proofs.lex.Goals as goal

pub loop-at-preserved-then-is_blank : goal.loop-at-preserved-then-is_blank
loop-at-preserved-then-is_blank c =
    let rest : IsRest c.args.text.now c.loop-at.at _ = record { is = take_rest c.args.text.now c.loop-at.at; some = c.in-len1-up.len_at_least } in
    HasRead-blank _ _ _ _ c.loop-at.invariant _ rest (sym c.is_blank.ensures ∙ c.if-is_blank.true) _ c.line_after-line.ensures

pub loop-at-preserved-then-byte-eq37 : goal.loop-at-preserved-then-byte-eq37
loop-at-preserved-then-byte-eq37 c =
    let rest : IsRest c.args.text.now c.loop-at.at _ = record { is = take_rest c.args.text.now c.loop-at.at; some = c.in-len1-up.len_at_least } in
    HasRead-comment _ _ _ _ c.loop-at.invariant _ rest (sym c.is_blank.ensures ∙ c.if-is_blank.false) c.if-byte-eq37.true _ c.line_len.ensures.value

pub returns-in_default-first_token-clause-exact : goal.returns-in_default-first_token-clause-exact
returns-in_default-first_token-clause-exact c =
    let rest : IsRest c.args.text.now c.loop-at.at _ = record { is = take_rest c.args.text.now c.loop-at.at; some = c.in-len1-up.len_at_least } in
    HasRead-bad _ _ _ _ c.loop-at.invariant _ rest (sym c.is_blank.ensures ∙ c.if-is_blank.false) c.if-byte-eq37.false c.in_default-first_token.ensures.value

pub loop-at-preserved : goal.loop-at-preserved
loop-at-preserved c =
    let rest : IsRest c.args.text.now c.loop-at.at _ = record { is = take_rest c.args.text.now c.loop-at.at; some = c.in-len1-up.len_at_least } in
    let found = c.in-Some.ensures in
    HasRead-token _ _ _ _ c.loop-at.invariant _ rest (sym c.is_blank.ensures ∙ c.if-is_blank.false) c.if-byte-eq37.false _ _ found.within.0 found.within.1 found.value _ c.in_ok-push.ensures.ok

pub returns-clause-exact : goal.returns-clause-exact
returns-clause-exact c = HasRead-all _ _ _ _ c.loop-at.invariant _ (take_rest c.args.text.now c.loop-at.at) c.in_default.len_below
