use Rattle.std.proofs.Common.{ap, ◌∙◌, [], ◌∷◌, ◌++◌}
use Rattle.ms_core.specs.Texts.{value_in}
use Rattle.ms_texts.proofs.NamedValues.{named-new}
use Rattle.ms_texts.proofs.constants.Constants.add.Goals as goal

pub returns-clause-ok : goal.returns-clause-ok
returns-clause-ok c =
    let name = c.args.name.now in
    let value = c.in_ok-value.value in
    named-new c.self.inside.values c.insert.new.self.entries name c.in_ok-key.key value c.in_ok-insert.ensures.entries c.in_ok-key.ensures.items (ap (λ l. value_in l name) c.self.view_is ∙ c.requires)
    ∙ ap (λ l. l ++ (name, value) ∷ []) c.self.view_is
    ∙ ap (λ v. c.args.self.now ++ (name, v) ∷ []) c.in_ok-value.ensures
