use Rattle.std.proofs.Common.{subst, sym, ap, ◌∙◌, ◌+◌, length}
use Rattle.ms_tree.specs.Size.{sizes}
use Rattle.ms_term.specs.declared.wanted.Wanted.TheVariants.{Function}
use Rattle.ms_term.specs.Terms.{AllBelow, terms_at, held}
use Rattle.ms_term.proofs.Finding.{looked_up, no_function}
use Rattle.ms_term.proofs.terms.Terms.find_function.Goals as goal

pub returns-in_err-name : goal.returns-in_err-name
returns-in_err-name c =
    rw (c.from_residual.ensures, ← c.self.view_is) (no_function c.self.inside.words c.self.inside.table.nodes.keys c.self.invariant.table c.args.name.now _ c.in_err-name.ensures)

pub returns : goal.returns
returns c =
    let word = c.in_ok-name.ensures in
    let found = looked_up c.self.inside.words c.self.inside.table.nodes.keys c.self.invariant.table (Function c.in_ok-name.name c.args.arguments c.size_over-size.result) (record {
      word = word.within;
      below = subst (λ ts. AllBelow (length ts) c.args.arguments.now) (sym c.self.view_is) c.requires;
      size = c.size_over-size.ensures ∙ ap (λ ts. held (1 + sizes (terms_at ts c.args.arguments.now))) (sym c.self.view_is);
    }) c.find-2.result c.find-2.ensures.place c.find-2.ensures.found in
    rw (← c.self.view_is, ← word.names) found
