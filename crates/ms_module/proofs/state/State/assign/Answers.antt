use Rattle.std.proofs.Common.{◌∙◌, None}
use Rattle.ms_module.proofs.InputLaws.{assigned_join, input_there}
use Rattle.ms_module.proofs.state.State.assign.Goals as goal

pub returns-clause-assigns : goal.returns-clause-assigns
returns-clause-assigns c = (
  input_there c.args.self.now.inputs c.args.a c.in-Some.place (record { atom = c.args.a; value = None }) c.in-Some.ensures,
  assigned_join c.self.inside.places.items c.self.inside.rules.rules c.self.inside.rules.inputs c.into_vec-inputs.result.items c.from_vec.result
      c.args.self.now c.args.a c.in-Some.place _ c.value_of.result c.index_mut.result.now
      c.self.view_is c.self.invariant c.in-Some.ensures (c.into_vec-inputs.ensures ∙ c.replace.ensures.value) c.index_mut.ensures.value
      c.value_of.ensures c.from_vec.ensures,
)
