use Rattle.std.proofs.Common.{length, sym, ap, ◌∙◌}
use Rattle.ms_lines.proofs.Scanning.{kept_further, more_seen, more_inside, line_found}
use Rattle.ms_lines.proofs.buffer.Buffer.line_len.Goals as goal

pub invariant_of-self : goal.invariant_of-self
invariant_of-self c =
    kept_further _ _ _ c.self.invariant _
    (more_seen _ _ _ c.self.invariant _ c.deref.ensures.value _ c.line_len-more.ensures.value)
    (more_inside _ _ _ c.self.invariant _ c.deref.ensures.value _ c.line_len-more.ensures.within)

pub returns-clause-found : goal.returns-clause-found
returns-clause-found c =
    line_found _ _ _ c.self.invariant _ c.self.view_is _
    (more_seen _ _ _ c.self.invariant _ c.deref.ensures.value _ c.line_len-more.ensures.value)
    (more_inside _ _ _ c.self.invariant _ c.deref.ensures.value _ c.line_len-more.ensures.within)
    _ (c.len.ensures ∙ sym c.deref.ensures.len ∙ ap length c.deref.ensures.value) _ c.then_some.ensures
