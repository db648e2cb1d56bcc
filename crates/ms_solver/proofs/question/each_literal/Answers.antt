use Rattle.std.proofs.Common.{◌+◌, ◌<◌, ◌++◌, ◌∷◌, [], List, length, rules, subst, sym, take}
use Rattle.std.specs.List.{AllZip}
use Rattle.ms_lits.specs.declared.lit.Lit.{Lit}
use Rattle.ms_join.specs.declared.assumption.AtomLit.{AtomLit}
use Rattle.ms_solver.specs.Numbered.{IsLitOf}
use Rattle.ms_complete.proofs.Lists.{next_one}
use Rattle.ms_solver.proofs.Asking.{zip_push}
use Rattle.ms_solver.proofs.question.each_literal.Goals as goal

pub loop-given-preserved : goal.loop-given-preserved
loop-given-preserved c =
    let says = IsLitOf c.args.numbers.now in
    let assume : List AtomLit = c.args.assume.now in
    let within : c.loop-given.given-index < length assume = search rules in
    let more = zip_push says (take c.loop-given.given-index assume) c.loop-given.lits.items c.given-item.result c.literal.result c.loop-given.invariant c.literal.ensures in
    subst (λ (lits : List Lit). AllZip says (take (c.loop-given.given-index + 1) assume) lits) (sym c.in_ok-push.ensures.items)
    (subst (λ (given : List AtomLit). AllZip says given (c.loop-given.lits.items ++ c.literal.result ∷ [])) (sym (next_one assume c.loop-given.given-index c.given-item.result within c.given-item.is)) more)
