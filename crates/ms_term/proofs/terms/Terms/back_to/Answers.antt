use Rattle.std.proofs.Common.{ap, sym, ◌∙◌, subst, length, ◌≤◌, take}
use Rattle.ms_term.specs.Tables.{trees}
use Rattle.ms_term.proofs.Cutting.{IsCut-from}
use Rattle.ms_term.proofs.terms.Terms.back_to.Goals as goal

pub invariant_of-self : goal.invariant_of-self
invariant_of-self c =
    let within = subst (λ m. m ≤ length (trees c.self.inside.words c.self.inside.table.nodes.keys)) (sym c.mark.view_is) (subst (λ ts. c.args.mark ≤ length ts) (sym c.self.view_is) c.requires) in
    let cut = IsCut-from c.self.inside.words c.self.inside.table.nodes.keys c.self.inside.table.small c.mark.inside.len c.self.invariant within in
    rw (c.truncate.ensures.keys, c.min-self-inside.ensures) cut.kept

pub returns : goal.returns
returns c =
    let within = subst (λ m. m ≤ length (trees c.self.inside.words c.self.inside.table.nodes.keys)) (sym c.mark.view_is) (subst (λ ts. c.args.mark ≤ length ts) (sym c.self.view_is) c.requires) in
    let cut = IsCut-from c.self.inside.words c.self.inside.table.nodes.keys c.self.inside.table.small c.mark.inside.len c.self.invariant within in
    ap (λ keys. trees c.self.inside.words keys) c.truncate.ensures.keys ∙ (cut.same ∙ (ap (λ m. take m (trees c.self.inside.words c.self.inside.table.nodes.keys)) c.mark.view_is ∙ ap (λ ts. take c.args.mark ts) c.self.view_is))
