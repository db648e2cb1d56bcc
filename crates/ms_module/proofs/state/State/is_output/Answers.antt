use Rattle.ms_module.proofs.InputLaws.{output_from_place}
use Rattle.ms_module.proofs.state.State.is_output.Goals as goal

pub returns-then-has_atom : goal.returns-then-has_atom
returns-then-has_atom c = output_from_place c.args.self.now c.args.a _ _ c.place.ensures c.is_none.ensures (c.has_atom.ensures.0 c.if-has_atom.true)
