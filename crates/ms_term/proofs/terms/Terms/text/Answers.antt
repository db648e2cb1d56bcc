use Rattle.std.proofs.Common.{refl}
use Rattle.ms_term.specs.declared.node.Node.TheVariants.{Text}
use Rattle.ms_term.proofs.Inserting.{kept_after, named_after, same_after}
use Rattle.ms_term.proofs.terms.Terms.text.Goals as goal

pub invariant_of-self-2 : goal.invariant_of-self-2
invariant_of-self-2 c =
    let word = c.in_ok-word.ensures.ok in
    kept_after c.self.inside.words c.intern.new.self c.args.bytes.now c.self.inside.table c.insert.new.self (Text c.in_ok-word.word) c.insert.result c.self.invariant word.grows word.once (λ ts e. record { word = word.is.within; below = tt; size = refl }) c.insert.ensures.ok c.insert.ensures.err

pub returns-clause-ok : goal.returns-clause-ok
returns-clause-ok c =
    let word = c.in_ok-word.ensures.ok in
    let named = named_after c.self.inside.words c.intern.new.self c.args.bytes.now c.self.inside.table c.insert.new.self (Text c.in_ok-word.word) c.insert.result c.self.invariant word.grows word.once (λ ts e. record { word = word.is.within; below = tt; size = refl }) c.insert.ensures.ok in
    rw (← c.self.view_is, ← word.is.names) named

pub returns-clause-err : goal.returns-clause-err
returns-clause-err c =
    let word = c.in_ok-word.ensures.ok in
    rw (← c.self.view_is) (same_after c.self.inside.words c.intern.new.self c.args.bytes.now c.self.inside.table c.insert.new.self c.insert.result c.self.invariant word.grows word.once c.insert.ensures.err)
