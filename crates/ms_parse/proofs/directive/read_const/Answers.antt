use Rattle.std.proofs.Common.{refl, sym, ◌∙◌}
use Rattle.ms_text.specs.declared.token.TokenKind.TheVariants.{Equal}
use Rattle.ms_parse.proofs.Lines.{const_without_sign, const_found}
use Rattle.ms_words.proofs.SignLemmas.{words_begin, words_begin_not, rest_within, after_within}
use Rattle.ms_parse.proofs.directive.read_const.Goals as goal

pub returns-in_default-after_sign : goal.returns-in_default-after_sign
returns-in_default-after_sign c = rw c.in-Some.ensures.cases.0 (const_without_sign _ _ (words_begin_not _ Equal _ c.in_default-after_sign.ensures))

pub read_whole_value-requires : goal.read_whole_value-requires
read_whole_value-requires c = after_within _ _ _ _ c.in-Some-after_sign.ensures (rest_within _ _ _ _ c.in-Some.ensures.cases.0 c.requires)

pub returns : goal.returns
returns c =
    rw (c.in-Some.ensures.cases.0, words_begin c.args.text.now Equal (λ t. refl) _ _ c.in-Some-after_sign.ensures)
    (const_found _ _ _ _ (sym c.in_ok-name.ensures ∙ c.in-Some-2.is) (rw c.in-Some-3.is at c.in_ok-part.ensures))
