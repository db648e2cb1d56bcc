use Rattle.ms_parse.proofs.ValueLemmas.{longest_some, longest_none}
use Rattle.ms_parse.proofs.read_value.Goals as goal

pub returns-in-None : goal.returns-in-None
returns-in-None c =
    let longest = rw (c.split_at.ensures.back, c.as_slice.ensures) at c.in_ok-part.ensures.longest in
    record { longest = longest_none c.args.text.now c.args.tokens.now c.args.from c.requires.begins _ c.in-None.is longest }

pub returns-in-Some : goal.returns-in-Some
returns-in-Some c =
    let longest = rw (c.split_at.ensures.back, c.as_slice.ensures) at c.in_ok-part.ensures.longest in
    record { longest = rw c.value_at.ensures (longest_some c.args.text.now c.args.tokens.now c.args.from c.requires.begins c.in-Some.part c.in-Some.count _ c.in-Some.is longest) }
