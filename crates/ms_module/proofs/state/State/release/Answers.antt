use Rattle.std.proofs.Common.{◌∙◌, None}
use Rattle.std.proofs.lemmas.List.{length-set}
use Rattle.ms_module.proofs.InputLaws.{released_join, input_there}
use Rattle.ms_module.proofs.state.State.release.Goals as goal

pub returns-clause-releases : goal.returns-clause-releases
returns-clause-releases c = (
  input_there c.args.self.now.inputs c.args.a c.in-Some.place (record { atom = c.args.a; value = None }) c.in-Some.ensures,
  released_join c.self.inside.places.items _ c.self.inside.rules.rules c.self.inside.rules.inputs c.into_vec-inputs.result.items
      c.swap_remove.new.self.items c.from_vec.result c.args.self.now c.args.a c.in-Some.place c.swap_remove.result
      c.self.view_is c.self.invariant c.in-Some.ensures (c.into_vec-inputs.ensures ∙ c.replace.ensures.value) c.from_vec.ensures
      (length-set c.self.inside.places.items c.last.inside.0 c.in-Some.place) c.swap_remove.ensures.items,
)
