use Rattle.ms_words.proofs.SignLemmas.{after_within, first_within}
use Rattle.ms_words.proofs.NameLemmas.{after_name_within}
use Rattle.ms_lines.proofs.SolveLemmas.{no_limit_name, no_limit_sign}
use Rattle.ms_lines.proofs.solve.limit_at.Goals as goal

pub returns-in_default : goal.returns-in_default
returns-in_default c = no_limit_name c.args.text.now c.args.tokens.now c.in_default.ensures

pub returns-in_default-after_sign : goal.returns-in_default-after_sign
returns-in_default-after_sign c = no_limit_sign c.args.text.now c.args.tokens.now _ c.in-Some.ensures c.in_default-after_sign.ensures

pub number_in-requires-clause-ordered : goal.number_in-requires-clause-ordered
number_in-requires-clause-ordered c =
    (first_within _ _ _ _ c.in-Some-split_first.ensures.cases.0 (after_within _ _ _ _ c.in-Some-after_sign.ensures (after_name_within c.args.text.now _ _ _ _ c.in-Some.ensures c.requires))).0

pub number_in-requires-clause-within : goal.number_in-requires-clause-within
number_in-requires-clause-within c =
    (first_within _ _ _ _ c.in-Some-split_first.ensures.cases.0 (after_within _ _ _ _ c.in-Some-after_sign.ensures (after_name_within c.args.text.now _ _ _ _ c.in-Some.ensures c.requires))).1
