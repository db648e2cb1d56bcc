use Rattle.std.proofs.Common.{◌≡◌, IfOk, subst, sym, ap, ◌∙◌}
use Rattle.ms_core.specs.Pools.{pairs_with, copies, literal_copies}
use Rattle.ms_grammar.specs.declared.statement.TextLit.TheVariants.{Test}
use Rattle.ms_parts.proofs.pools_form.literal_copies.Goals as goal

pub returns-in_ok-copies-in-Test-2 : goal.returns-in_ok-copies-in-Test-2
returns-in_ok-copies-in-Test-2 c =
    let made = pairs_with (λ l r. Test l c.in-Test.cmp r) in
    let same : made c.in_ok-copies-in-Test.field-0 c.in_ok-copies-in-Test-2.field-0 ≡ literal_copies c.args.literal.now =
    ap (λ l. made l c.in_ok-copies-in-Test-2.field-0) c.in_ok-copies-in-Test.ensures
    ∙ ap (λ r. made (copies c.in-Test.left) r) c.in_ok-copies-in-Test-2.ensures
    ∙ sym (ap literal_copies c.in-Test.is) in
    subst (λ z. IfOk c.tests.result (λ made. made ≡ z)) same c.tests.ensures
