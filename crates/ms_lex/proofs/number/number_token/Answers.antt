use Rattle.ms_lex.proofs.Numbers.{are_digits}
use Rattle.ms_lex.proofs.number.number_token.Goals as goal

pub number_of-requires : goal.number_of-requires
number_of-requires c = are_digits c.args.text.now c.digits_len.result c.digits_len.ensures.value
