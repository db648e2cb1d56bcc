use Rattle.std.proofs.Common.{arith, sym, ◌∙◌}
use Rattle.ms_log.proofs.Numerals.{numeral_of, read_back}
use Rattle.ms_log.proofs.item.read_positive.Goals as goal

pub returns-in-49-to-57 : goal.returns-in-49-to-57
returns-in-49-to-57 c = read_back c.args.word.now c.value_of.result (omega arith) (sym c.are_digits.ensures ∙ c.if-are_digits.true) (omega arith) c.value_of.ensures

pub returns-in_default : goal.returns-in_default
returns-in_default c = λ n h e. let w = numeral_of c.args.word.now n h e in omega (arith, w.some)

pub returns-in_default-2 : goal.returns-in_default-2
returns-in_default-2 c = λ n h e. let w = numeral_of c.args.word.now n h e in omega (arith, w.low)

pub returns-in_default-3 : goal.returns-in_default-3
returns-in_default-3 c = λ n h e. let w = numeral_of c.args.word.now n h e in let no = c.if-are_digits.false in let is = c.are_digits.ensures in let all = w.digits in absurd (cc)

pub returns-in_default-4 : goal.returns-in_default-4
returns-in_default-4 c = λ n h e. let w = numeral_of c.args.word.now n h e in omega (arith, w.high)
