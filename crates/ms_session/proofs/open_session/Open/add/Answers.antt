use Rattle.ms_call.specs.declared.command.Command.TheVariants.{Add}
use Rattle.ms_session.proofs.Opening.{texts_step}
use Rattle.ms_session.proofs.open_session.Open.add.Goals as goal

pub returns : goal.returns
returns c = texts_step c.args.self.now c.add_text.new.parts (Add c.args.text.now) c.add_text.result c.requires c.add_text.ensures
