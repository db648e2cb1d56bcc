use Rattle.std.proofs.Common.{◌≡◌, true, sym, ◌∙◌, subst}
use Rattle.ms_log.specs.NoteText.{HasFunction}
use Rattle.ms_log.proofs.Colons.{one_name}
use Rattle.ms_log.proofs.reading.read_aggregate.Goals as goal

pub returns-then-not-begins_with_function : goal.returns-then-not-begins_with_function
returns-then-not-begins_with_function c = λ x h e.
    let back = rw c.in-Some.is at c.in_ok-guards.ensures in
    let names = one_name x (c.in-Some.guards, c.in-Some.tuples) (h.0, h.2) back.0 (sym e ∙ back.1) in
    let named : HasFunction c.in-Some.guards = subst (λ xs. HasFunction xs) names.0 h.1 in
    let no = c.if-not-begins_with_function.true in
    let yes : c.begins_with_function.result ≡ true = c.begins_with_function.ensures.1 (subst (λ xs. HasFunction xs) (sym c.as_slice.ensures) named) in
    cc
