use Rattle.std.proofs.Common.{ap, ◌∙◌, take}
use Rattle.ms_texts.specs.Additions.{named}
use Rattle.ms_texts.proofs.NamedValues.{named-take}
use Rattle.ms_texts.proofs.constants.Constants.truncate.Goals as goal

pub returns : goal.returns
returns c = ap named c.truncate.ensures.entries ∙ named-take c.args.count c.self.inside.values.entries ∙ ap (take c.args.count) c.self.view_is
