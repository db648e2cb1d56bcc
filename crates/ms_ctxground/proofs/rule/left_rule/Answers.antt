use Rattle.std.proofs.Common.{◌∙◌, sym}
use Rattle.ms_ctxground.proofs.rule.left_rule.Goals as goal

pub returns-in_default-2 : goal.returns-in_default-2
returns-in_default-2 c = λ must. (rw (c.in_default-2.is, c.as_slice.ensures) at c.in_ok-pos.ensures) must.2

pub returns : goal.returns
returns c =
    let pos = rw (c.in-Some-2.is, c.as_slice.ensures) at c.in_ok-pos.ensures in
    record {
      kind = sym c.kind_left.ensures ∙ c.in-Some.is;
      head = c.head_number.ensures;
      known = pos.0;
      pos = pos.1;
      neg = rw c.as_slice-2.ensures at c.in_ok-neg.ensures;
      plain = c.new.ensures;
    }
