use Rattle.std.proofs.Common.{◌≡◌, ◌+◌, sym, ap, ◌∙◌, subst, length}
use Rattle.ms_tree.specs.Size.{sizes}
use Rattle.ms_term.specs.Terms.{AllBelow, terms_at, held}
use Rattle.ms_term.specs.declared.node.Node.TheVariants.{Function}
use Rattle.ms_term.proofs.Inserting.{kept_after, named_after, same_after}
use Rattle.ms_term.proofs.terms.Terms.function.Goals as goal

pub invariant_of-self-2 : goal.invariant_of-self-2
invariant_of-self-2 c =
    let word = c.in_ok-name.ensures.ok in
    let items : c.in_ok-arguments.arguments.items ≡ c.args.arguments.now = c.in_ok-arguments.ensures.ok in
    kept_after c.self.inside.words c.intern.new.self c.args.name.now c.self.inside.table c.insert.new.self (Function c.in_ok-name.name c.in_ok-arguments.arguments c.size_over-size.result) c.insert.result c.self.invariant word.grows word.once (λ ts e. record {
      word = word.is.within;
      below = subst (λ is. AllBelow (length ts) is) (sym items) (subst (λ us. AllBelow (length us) c.args.arguments.now) (sym (e ∙ c.self.view_is)) c.requires);
      size = c.size_over-size.ensures ∙ (ap (λ us. held (1 + sizes (terms_at us c.args.arguments.now))) (sym (e ∙ c.self.view_is)) ∙ ap (λ is. held (1 + sizes (terms_at ts is))) (sym items));
    }) c.insert.ensures.ok c.insert.ensures.err

pub returns-clause-ok : goal.returns-clause-ok
returns-clause-ok c =
    let word = c.in_ok-name.ensures.ok in
    let items : c.in_ok-arguments.arguments.items ≡ c.args.arguments.now = c.in_ok-arguments.ensures.ok in
    let named = named_after c.self.inside.words c.intern.new.self c.args.name.now c.self.inside.table c.insert.new.self (Function c.in_ok-name.name c.in_ok-arguments.arguments c.size_over-size.result) c.insert.result c.self.invariant word.grows word.once (λ ts e. record {
      word = word.is.within;
      below = subst (λ is. AllBelow (length ts) is) (sym items) (subst (λ us. AllBelow (length us) c.args.arguments.now) (sym (e ∙ c.self.view_is)) c.requires);
      size = c.size_over-size.ensures ∙ (ap (λ us. held (1 + sizes (terms_at us c.args.arguments.now))) (sym (e ∙ c.self.view_is)) ∙ ap (λ is. held (1 + sizes (terms_at ts is))) (sym items));
    }) c.insert.ensures.ok in
    rw (← c.self.view_is, ← word.is.names, ← items) named

pub returns-clause-err : goal.returns-clause-err
returns-clause-err c =
    let word = c.in_ok-name.ensures.ok in
    rw (← c.self.view_is) (same_after c.self.inside.words c.intern.new.self c.args.name.now c.self.inside.table c.insert.new.self c.insert.result c.self.invariant word.grows word.once c.insert.ensures.err)
