use Rattle.std.proofs.Common.{ap, ◌∙◌}
use Rattle.ms_core.specs.Texts.{value_in}
use Rattle.ms_texts.proofs.NamedValues.{value_in-named}
use Rattle.ms_texts.proofs.constants.Constants.get.Goals as goal

pub returns : goal.returns
returns c = c.get.ensures.value ∙ value_in-named c.self.inside.values.entries c.args.name.now ∙ ap (λ l. value_in l c.args.name.now) c.self.view_is
